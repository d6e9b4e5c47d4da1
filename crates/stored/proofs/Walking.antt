-- The walk over the records of a byte string: a record lies inside it, the walk goes on behind a record, and a cut or strange record
-- ends it.
use Rattle.std.proofs.Common.{Option, Some, None, ℕ, zero, suc, ◌+◌, ◌-◌, ◌≤◌, ◌<◌, ◌≡◌, refl, sym, ◌∙◌, ap, Bool, true, false, List, [], ◌∷◌, arith, ltb, length, get_or, take, drop, length-drop, length-take-le, ltb-true, ltb-false, le-ltb}
use Rattle.stored.specs.Choice.{pick}
use Rattle.stored.specs.Records.{Record as R, Record, kind_of, size_of, decode_of, known, record_behind, record_at}
use Rattle.stored.specs.Entries.{entry_of, after_record, walk, entries_from}
use Rattle.stored.specs.declared.items.Item.{Item}
use Rattle.stored.specs.declared.items.Item.TheVariants as I
use Rattle.stored.specs.declared.records.Kind.{Kind}
use Rattle.stored.specs.declared.records.Kind.TheVariants as K
use Rattle.stored.specs.Machine.{kind_of_item}
use Rattle.stored.specs.Machinery.Placing.{HasKind}
use Rattle.stored.proofs.Decoding.{kind-is, same_kind, value-size}

-- what a record at a place says of the bytes there
pub record Stands (t : List ℕ) (at : ℕ) (i : Item) (s n : ℕ) : Type 0 where
  pub low : at < length t
  pub behind : s ≡ at + 1
  pub size : n ≡ size_of (kind_of (get_or t at 0))
  pub fits : s + n ≤ length t
  pub says : decode_of (kind_of (get_or t at 0)) (take n (drop s t)) ≡ Some i

says-known : (begin size : ℕ) (d : Option Item) (i : Item) (s n : ℕ) → known begin size d ≡ R.Is i s n
    → (d ≡ Some i) × (begin ≡ s) × (size ≡ n)
says-known begin size (Some j) i s n e = (cc, cc, cc)
says-known begin size None i s n e = absurd (cc)

pub stands : (t : List ℕ) (at : ℕ) (i : Item) (s n : ℕ) → record_at t at ≡ R.Is i s n → Stands t at i s n
unfolding record_at
stands t at i s n = outer (ltb at (length t)) refl
  where
    k : Kind
    k = kind_of (get_or t at 0)

    inner : at < length t → (b : Bool) → ltb (length t - (at + 1)) (size_of k) ≡ b
        → pick b R.Cut (known (at + 1) (size_of k) (decode_of k (take (size_of k) (drop (at + 1) t)))) ≡ R.Is i s n → Stands t at i s n
    inner low true e h = absurd (cc)
    inner low false e h =
        let f : (decode_of k (take (size_of k) (drop (at + 1) t)) ≡ Some i) × (at + 1 ≡ s) × (size_of k ≡ n)
        = says-known (at + 1) (size_of k) _ i s n h in
        let e1 = f.1 in
        let e2 = f.2 in
        record {
          low = low;
          behind = sym e1;
          size = sym e2;
          fits = omega (arith, ltb-false (length t - (at + 1)) (size_of k) e);
          says = rw (← e1, ← e2) f.0;
        }

    outer : (b : Bool) → ltb at (length t) ≡ b → pick b (record_behind t (at + 1) k) R.Cut ≡ R.Is i s n → Stands t at i s n
    outer true e h = inner (ltb-true _ _ e) (ltb (length t - (at + 1)) (size_of k)) refl h
    outer false e h = absurd (cc)

-- a record lies inside the byte string
pub inside : (t : List ℕ) (at : ℕ) (i : Item) (s n : ℕ) → record_at t at ≡ R.Is i s n
    → (at < s) × (s + n ≤ length t) × (s ≡ at + 1)
inside t at i s n e =
    let r = stands t at i s n e in
    (omega arith, omega arith, r.behind)

-- the body of a record has the size that the record says
pub body-length : (t : List ℕ) (at : ℕ) (i : Item) (s n : ℕ) → record_at t at ≡ R.Is i s n → length (take n (drop s t)) ≡ n
body-length t at i s n e =
    let r = inside t at i s n e in
    length-take-le n (drop s t) (rw length-drop (omega arith))

-- the kind of a record's item is the kind that its first byte says
pub kind-agrees : (t : List ℕ) (at : ℕ) (i : Item) (s n : ℕ) → record_at t at ≡ R.Is i s n
    → kind_of_item i (length (take n (drop s t))) ≡ kind_of (get_or t at 0)
kind-agrees t at i s n e =
    let r = stands t at i s n e in
    same_kind (kind_of (get_or t at 0)) (take n (drop s t)) (body-length t at i s n e ∙ r.size) i r.says

-- a value has 1 to 128 bytes
pub value-short : (t : List ℕ) (at s n : ℕ) → record_at t at ≡ R.Is I.Value s n → (0 < n) × (n ≤ 128)
value-short t at s n e =
    value-size (get_or t at 0) (kind_of (get_or t at 0)) (kind-is (get_or t at 0)) n
    (sym (kind-agrees t at I.Value s n e) ∙ ap K.Value (body-length t at I.Value s n e))

-- what a record's item asks of the size of its body
pub record-has-kind : (t : List ℕ) (at : ℕ) (i : Item) (s n : ℕ) → record_at t at ≡ R.Is i s n → HasKind i n
record-has-kind t at (I.Start k) s n e = tt
record-has-kind t at (I.Statement k) s n e = tt
record-has-kind t at (I.Column k) s n e = tt
record-has-kind t at (I.Condition o k) s n e = tt
record-has-kind t at (I.Network a k) s n e = tt
record-has-kind t at I.Value s n e = (value-short t at s n e).1
record-has-kind t at I.End s n e = tt

-- past the end a record is cut
pub past : (t : List ℕ) (at : ℕ) → length t ≤ at → record_at t at ≡ R.Cut
unfolding record_at
past t at h = rw (le-ltb at (length t) h)

-- more fuel than the bytes left changes nothing
enough : (f g : ℕ) (t : List ℕ) (at : ℕ) → length t - at ≤ f → length t - at ≤ g → walk f t at ≡ walk g t at
enough zero zero t at hf hg = refl
enough zero (suc g) t at hf hg = rw (past t at (omega arith))
enough (suc f) zero t at hf hg = rw (past t at (omega arith))
enough (suc f) (suc g) t at hf hg =
    same (record_at t at) refl (λ p h. enough f g t p (omega arith) (omega arith))
  where
    same : (r : Record) → record_at t at ≡ r → ((p : ℕ) → (at < p) × (p ≤ length t) → walk f t p ≡ walk g t p)
        → after_record t (walk f t) r ≡ after_record t (walk g t) r
    same (R.Is i s n) e go =
        let r = inside t at i s n e in
        ap (entry_of i (take n (drop s t)) ∷◌) (go (s + n) (omega arith, omega arith))
    same R.Cut e go = refl
    same R.Strange e go = refl

after : (t : List ℕ) (at : ℕ) → entries_from t at ≡ after_record t (walk (length t - at) t) (record_at t at)
unfolding entries_from
after t at = enough (length t - at) (suc (length t - at)) t at (omega arith) (omega arith)

-- a record's entry comes first, and the walk goes on behind it
pub goes_on_lem : (t : List ℕ) (at : ℕ) (i : Item) (s n : ℕ) → record_at t at ≡ R.Is i s n
    → entries_from t at ≡ entry_of i (take n (drop s t)) ∷ entries_from t (s + n)
unfolding entries_from
goes_on_lem t at i s n e =
    let r = inside t at i s n e in
    after t at ∙ rw e (ap (entry_of i (take n (drop s t)) ∷◌) (enough (length t - at) (length t - (s + n)) t (s + n) (omega arith) (omega arith)))

-- a cut record ends the walk
pub ends-cut : (t : List ℕ) (at : ℕ) → record_at t at ≡ R.Cut → entries_from t at ≡ []
ends-cut t at e = after t at ∙ rw e

-- a strange record ends the walk
pub ends-strange : (t : List ℕ) (at : ℕ) → record_at t at ≡ R.Strange → entries_from t at ≡ []
ends-strange t at e = after t at ∙ rw e
