-- The walk over the records of a byte string does not know what stands before them: from a place on it is the walk over the bytes from
-- there on, so that an iterator over the records need only keep these.
use Rattle.std.proofs.Common.{◌≡◌, ℕ, zero, suc, ◌+◌, ◌-◌, ◌≤◌, List, [], ◌∷◌, Bool, true, false, ltb, length, take, drop, refl, sym, ap, ◌∙◌, arith, length-drop, drop-drop, lt-ltb, le-ltb, ltb-true, ltb-false, Option, Some, None, Result, Ok, Err}
use Rattle.std.specs.Result.{result_ok}
use Rattle.std.proofs.lemmas.List.{get_or-drop}
use Rattle.std.proofs.lemmas.Option.{none-some, same_Some}
use Rattle.stored.specs.Choice.{pick}
use Rattle.stored.specs.Records.{Record, Record as R, as_record, size_of, known, record_behind, record_at}
use Rattle.stored.specs.Entries.{Entry, entry_of, bytes_of, after_record, walk, entries_from, entries_of}
use Rattle.stored.specs.declared.items.Item.{Item}
use Rattle.stored.specs.declared.items.Item.TheVariants as I
use Rattle.stored.specs.declared.records.Kind.{Kind}
use Rattle.stored.specs.declared.records.Record as Code
use Rattle.stored.specs.declared.records.RecordFault.{RecordFault}
use Rattle.stored.specs.declared.records.RecordFault.TheVariants as F
use Rattle.stored.proofs.Walking.{inside, body-length, goes_on_lem, ends-cut, ends-strange}

-- a record further on by a number of bytes
moved : ℕ → Record → Record
moved p (R.Is i s n) = R.Is i (p + s) n
moved p R.Cut = R.Cut
moved p R.Strange = R.Strange

pub same-test : (p q n : ℕ) → ltb (p + q) n ≡ ltb q (n - p)
same-test p q n = by (ltb q (n - p)) refl
  where
    by : (b : Bool) → ltb q (n - p) ≡ b → ltb (p + q) n ≡ b
    by true e = lt-ltb (p + q) n (omega (arith, ltb-true q (n - p) e))
    by false e = le-ltb (p + q) n (omega (arith, ltb-false q (n - p) e))

moved-known : (p s n : ℕ) (d : Option Item) → moved p (known s n d) ≡ known (p + s) n d
unfolding moved
moved-known p s n (Some i) = refl
moved-known p s n None = refl

moved-pick : (p : ℕ) (b : Bool) (r : Record) → moved p (pick b R.Cut r) ≡ pick b R.Cut (moved p r)
unfolding moved
moved-pick p true r = refl
moved-pick p false r = refl

moved-else : (p : ℕ) (b : Bool) (r : Record) → moved p (pick b r R.Cut) ≡ pick b (moved p r) R.Cut
unfolding moved
moved-else p true r = refl
moved-else p false r = refl

behind-moved : (t : List ℕ) (p s : ℕ) (k : Kind) → record_behind t (p + s) k ≡ moved p (record_behind (drop p t) s k)
behind-moved t p s k =
    let left : length t - (p + s) ≡ length (drop p t) - s = omega (arith, length-drop p t) in
    rw (moved-pick p (ltb (length (drop p t) - s) (size_of k)) _, moved-known p s (size_of k) _, left, drop-drop s p t)

record-moved : (t : List ℕ) (p q : ℕ) → record_at t (p + q) ≡ moved p (record_at (drop p t) q)
unfolding record_at
record-moved t p q =
    let test : ltb (p + q) (length t) ≡ ltb q (length (drop p t)) = same-test p q (length t) ∙ ap (ltb q) (sym (length-drop p t)) in
    let next : p + q + 1 ≡ p + (q + 1) = omega arith in
    rw (test, moved-else p (ltb q (length (drop p t))) _, next, behind-moved t p (q + 1) _, get_or-drop p t q 0)

after-moved : (t : List ℕ) (p : ℕ) (go back : ℕ → List Entry) → ((q : ℕ) → go (p + q) ≡ back q)
    → (r : Record) → after_record t go (moved p r) ≡ after_record (drop p t) back r
unfolding moved
after-moved t p go back same (R.Is i s n) =
    let next : p + s + n ≡ p + (s + n) = omega arith in
    rw (drop-drop s p t, next) (ap (entry_of i (take n (drop (p + s) t)) ∷◌) (same (s + n)))
after-moved t p go back same R.Cut = refl
after-moved t p go back same R.Strange = refl

walk-moved : (f : ℕ) (t : List ℕ) (p q : ℕ) → walk f t (p + q) ≡ walk f (drop p t) q
walk-moved zero t p q = refl
walk-moved (suc f) t p q =
    rw (record-moved t p q) (after-moved t p (walk f t) (walk f (drop p t)) (walk-moved f t p) (record_at (drop p t) q))

-- the entries from a place on are those of the bytes from there on
pub rest-entries : (t : List ℕ) (p : ℕ) → entries_from t p ≡ entries_of (drop p t)
unfolding entries_from
rest-entries t p =
    let here : p + 0 ≡ p = omega arith in
    let left : length t - p ≡ length (drop p t) - 0 = omega (arith, length-drop p t) in
    ap (walk (length t - p) t) (sym here) ∙ walk-moved (length t - p) t p 0 ∙ ap (λ (n : ℕ). walk n (drop p t) 0) left

-- a record that is found first is the first entry, and the others are those of the bytes behind it
pub entry-first : (t : List ℕ) (i : Item) (s n : ℕ) → record_at t 0 ≡ R.Is i s n
    → entries_of t ≡ entry_of i (take n (drop s t)) ∷ entries_of (drop (s + n) t)
entry-first t i s n e =
    goes_on_lem t 0 i s n e
    ∙ ap (entry_of i (take n (drop s t)) ∷◌) (rest-entries t (s + n))

-- a record that is none ends the entries
pub none-first : (t : List ℕ) (fault : RecordFault) → record_at t 0 ≡ as_record (Err fault) → entries_of t ≡ []
none-first t F.Cut e = ends-cut t 0 e
none-first t F.Strange e = ends-strange t 0 e

-- what a record that is found says of the bytes, and that none is where none is found
pub found-first : (t : List ℕ) (r : Result Code.Record RecordFault) (x : Code.Record) → as_record r ≡ record_at t 0 → result_ok r ≡ Some x
    → record_at t 0 ≡ R.Is x.item x.start x.size
found-first t (Ok y) x e found = sym e ∙ ap (λ (z : Code.Record). R.Is z.item z.start z.size) (same_Some y x found)
found-first t (Err f) x e found = absurd (none-some x found)

pub none-found : (t : List ℕ) (r : Result Code.Record RecordFault) → as_record r ≡ record_at t 0 → result_ok r ≡ None → entries_of t ≡ []
none-found t (Ok y) e none = absurd (none-some y (sym none))
none-found t (Err f) e none = none-first t f (sym e)

-- how many bytes entries take at least: one each, and those of their values
abbrev pub bytes_taken : List Entry → ℕ
bytes_taken [] = 0
bytes_taken (e ∷ es) = suc (length (bytes_of e)) + bytes_taken es

entry-bytes : (i : Item) (bs : List ℕ) → length (bytes_of (entry_of i bs)) ≤ length bs
entry-bytes (I.Start n) bs = omega arith
entry-bytes (I.Statement e) bs = omega arith
entry-bytes (I.Column c) bs = omega arith
entry-bytes (I.Condition o k) bs = omega arith
entry-bytes (I.Network a n) bs = omega arith
entry-bytes I.Value bs = omega arith
entry-bytes I.End bs = omega arith

walk-fits : (f : ℕ) (t : List ℕ) (at : ℕ) → bytes_taken (walk f t at) ≤ length t - at
walk-fits zero t at = omega arith
walk-fits (suc f) t at = by (record_at t at) refl (walk-fits f t)
  where
    by : (r : Record) → record_at t at ≡ r → ((p : ℕ) → bytes_taken (walk f t p) ≤ length t - p)
        → bytes_taken (after_record t (walk f t) r) ≤ length t - at
    by (R.Is i s n) e rest =
        let within = inside t at i s n e in
        omega (arith, entry-bytes i (take n (drop s t)), body-length t at i s n e, rest (s + n))
    by R.Cut e rest = omega arith
    by R.Strange e rest = omega arith

-- the entries of a byte string take no more bytes than there are
pub entries-fit : (t : List ℕ) → bytes_taken (entries_of t) ≤ length t
unfolding entries_from
entries-fit t = omega (arith, walk-fits (length t - 0) t 0)
