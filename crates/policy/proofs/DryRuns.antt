-- The dry run, one wish after the other.
use Rattle.std.proofs.Common.{ℕ, ◌+◌, ◌-◌, ◌≤◌, Bool, true, false, ◌≡◌, refl, sym, ◌∙◌, ap, List, [], ◌∷◌, arith, ltb, length, drop, lt-ltb, ltb-true, ltb-false}
use Rattle.json_text.specs.Choice.{pick}
use Rattle.json_text.specs.Machinery.Pieces.{content_of}
use Rattle.stored.specs.Writing.{would_take}
use Rattle.stored.specs.declared.machine.State.{State}
use Rattle.stored.specs.Machine.{Turn as T, Turn}
use Rattle.stored.specs.Writing.{Would as O}
use Rattle.stored.proofs.Choosing.{never}
use Rattle.members.specs.Members.{Verdict}
use Rattle.members.specs.Members.Verdict.{fine, refused}
use Rattle.records.specs.Networks as N
use Rattle.records.specs.Networks.{network_of}
use Rattle.records.specs.Wishes.{Wish, network_wish}
use Rattle.records.specs.Wishes.Wish.{made, strange, empty, unread}
use Rattle.records.specs.Records.{wish_turn, wish_place, after_wish, running, wish_size, size_of}
use Rattle.records.specs.Machinery.Cursors.{wish_of}
use Rattle.records.specs.declared.wishes.Wish as Code
use Rattle.records.specs.declared.wishes.Wish.TheVariants as W
use Rattle.policy.specs.Machinery.Asking.{wish_record, wish_would}
use Rattle.policy.specs.Machinery.Runs.{capped, dried, dried_from}
use Rattle.policy.specs.Machinery.Runs.{Dried as D}

-- sums that are told up to 16,385
pub capped_small : (n : ℕ) → capped n ≤ 16385
capped_small n = by (ltb 16384 n) refl
  where
    by : (x : Bool) → ltb 16384 n ≡ x → pick x 16385 n ≤ 16385
    by true e = omega arith
    by false e = omega (arith, ltb-false 16384 n e)

pub capped_same : (n : ℕ) → n ≤ 16385 → capped n ≡ n
capped_same n h = by (ltb 16384 n) refl
  where
    by : (x : Bool) → ltb 16384 n ≡ x → pick x 16385 n ≡ n
    by true e = omega (arith, ltb-true 16384 n e)
    by false e = refl

pub capped-sum : (n more : ℕ) → capped (capped n + more) ≡ capped (n + more)
capped-sum n more = by (ltb 16384 n) refl
  where
    by : (x : Bool) → ltb 16384 n ≡ x → capped (pick x 16385 n + more) ≡ capped (n + more)
    by true e = rw (lt-ltb 16384 (16385 + more) (omega arith), lt-ltb 16384 (n + more) (omega (arith, ltb-true 16384 n e)))
    by false e = refl

pub size-record : (x : Wish) → wish_size x ≡ length (wish_record x)
size-record (made n e) = refl
size-record (strange n) = refl
size-record (empty n) = refl
size-record (unread n bs) = refl

-- the place of a wish
pub place_of : (t : List ℕ) (w : Code.Wish) (p : ℕ) → wish_place (wish_of t w p) ≡ length t - p
place_of t (W.Start c) p = refl
place_of t (W.Statement e) p = refl
place_of t W.Strange p = refl
place_of t (W.Column c) p = refl
place_of t (W.Condition o k) p = refl
place_of t W.Empty p = refl
place_of t W.Value p = refl
place_of t W.Network p = by (network_of (content_of (drop (p + 1) t)))
  where
    by : (x : N.Read) → wish_place (network_wish (length t - p) (content_of (drop (p + 1) t)) x) ≡ length t - p
    by (N.Read.network a k) = refl
    by N.Read.none = refl
place_of t W.End p = refl

-- a wish that would be taken
pub takes-on : (t : List ℕ) (x : Wish) (ws : List Wish) (s next : State) (size more : ℕ) → wish_would s x ≡ O.Takes next more
    → dried_from t (x ∷ ws) s size ≡ dried_from t ws next (capped (size + more))
unfolding dried_from
takes-on t x ws s next size more h = by (wish_turn s x) h
  where
    same : (v : Verdict) (m : ℕ) → m ≡ length (wish_record x) → dried (length t) (size + (wish_size x + size_of ws)) v ≡ dried (length t) (capped (size + m) + size_of ws) v
    same fine m e =
        let f : size + (wish_size x + size_of ws) ≡ size + m + size_of ws = omega (arith, size-record x) in
        ap D.Fine (ap capped f ∙ sym (capped-sum (size + m) (size_of ws)))
    same (refused k n) m e = refl

    by : (u : Turn) → would_take u (length (wish_record x)) ≡ O.Takes next more
        → dried (length t) (size + (wish_size x + size_of ws)) (after_wish (running ws) (wish_place x) u) ≡ dried (length t) (capped (size + more) + size_of ws) (running ws next)
    by (T.Next n) e =
        let a : n ≡ next = cc in
        let b : more ≡ length (wish_record x) = cc in
        rw a (same (running ws next) more b)
    by (T.Refused k) e = never (cc)

-- a wish that would be refused, by its place in the text
pub stops : (t : List ℕ) (w : Code.Wish) (p : ℕ) (ws : List Wish) (s : State) (size k : ℕ) → p ≤ length t → wish_would s (wish_of t w p) ≡ O.Refused k
    → dried_from t (wish_of t w p ∷ ws) s size ≡ D.Refused k p
unfolding dried_from
stops t w p ws s size k h f = by (wish_turn s (wish_of t w p)) f
  where
    there : length t - wish_place (wish_of t w p) ≡ p
    there = rw (place_of t w p) (omega arith)

    by : (u : Turn) → would_take u (length (wish_record (wish_of t w p))) ≡ O.Refused k
        → dried (length t) (size + size_of (wish_of t w p ∷ ws)) (after_wish (running ws) (wish_place (wish_of t w p)) u) ≡ D.Refused k p
    by (T.Next n) e = never (cc)
    by (T.Refused m) e =
        let a : m ≡ k = cc in
        rw (a, there)

-- no wish is left
pub ends : (t : List ℕ) (s : State) (size : ℕ) → size ≤ 16385 → dried_from t [] s size ≡ D.Fine size
unfolding dried_from
ends t s size h = let e : size + 0 ≡ size = omega arith in rw (e, capped_same size h)
