-- A shown string is what stands before the first zero of its 512 bytes: the bytes of a request's strings lie in 21 to 7E hex, and those
-- behind a value are zero.
use Prim.Native.Nat.{ℕ, zero, suc, ◌-◌, ◌*◌, ◌≤◌, ◌<◌}
use mathlib.Core.Path.{◌≡◌, refl, sym, ◌∙◌, ap}
use mathlib.Core.Bool.{Bool, true, false}
use mathlib.Core.List.{List, [], ◌∷◌, ◌++◌}
use native.Mathlib.Omega.{arith}
use lib.Dec.{leb, ltb}
use lib.ListN.{length, take, drop, replicate, take-append-drop}
use borrow.Author.Tests.{leb-true, ne_eqb}
use Rattle.stored.specs.Choice.{pick}
use Rattle.stored.specs.Values.{byte_in_range, in_range}
use Rattle.stored.proofs.Choosing.{both_left, both_right}
use Rattle.judging.specs.Requests.{Value, absent, text, number, column_of}
use Rattle.comparing.specs.Requests.{AdmitsNeeded, AdmitsOptional, AdmitsAddress, Admitted, Each, IsRequest}
use Rattle.comparing.specs.Compared.{value_bytes, value_room, bytes_in, padded, laid}
use Rattle.comparing.proofs.show.ShownRequest.{stands}
use Rattle.portal.specs.Asked.{before_zero, shown_string}

-- nothing stands before the first of some zeros
zeros : (n : ℕ) → before_zero (replicate n 0) ≡ []
zeros zero = refl
zeros (suc n) = refl

-- a string in range has no zero, so it is what stands before zeros behind it
before-zeros : (s : List ℕ) (n : ℕ) → in_range s ≡ true → before_zero (s ++ replicate n 0) ≡ s
before-zeros [] n e = zeros n
before-zeros (b ∷ s) n e =
    let low = leb-true 0x21 b (both_left (leb 0x21 b) (leb b 0x7E) (both_left (byte_in_range b) (in_range s) e)) in
    ap (λ (t : Bool). pick t [] (b ∷ before_zero (s ++ replicate n 0))) (ne_eqb b 0 (λ z. omega arith))
    ∙ ap (λ (l : List ℕ). b ∷ l) (before-zeros s n (both_right (byte_in_range b) (in_range s) e))

-- the bytes of an admitted value lie in range
admitted-ranged : (column : ℕ) (v : Value) → Admitted column v → in_range (bytes_in v) ≡ true
admitted-ranged column absent a = refl
admitted-ranged column (text s) a = by (ltb column 3) (ltb column 7) a
  where
    by : (t u : Bool) → pick t (AdmitsNeeded (text s)) (pick u (AdmitsOptional (text s)) (AdmitsAddress (text s))) → in_range s ≡ true
    by true u a = a.1
    by false true a = a
    by false false a = absurd a
admitted-ranged column (number n) a = refl

-- so do those of each column of a request
pub column-ranged : (from : ℕ) (r : List Value) → Each Admitted from r → (column : ℕ) → in_range (bytes_in (column_of r column)) ≡ true
column-ranged from [] e column = refl
column-ranged from (v ∷ r) e zero = admitted-ranged from v e.0
column-ranged from (v ∷ r) e (suc column) = column-ranged (suc from) r e.1 column

-- a buffer whose first 3,584 bytes are the values of a request
module _ (r : List Value) (ok : IsRequest r) (eight : length r ≡ 8)
    (short : (i : ℕ) → length (bytes_in (column_of r i)) ≤ value_room)
    (values : List ℕ) (values_laid : take value_bytes values ≡ laid 7 r) (column : ℕ) (low : column < 7) where
  pub bytes-shown : take value_room (drop (column * value_room) values) ≡ padded (bytes_in (column_of r column))
  bytes-shown =
      ap (λ (l : List ℕ). take value_room (drop (column * value_room) l)) parts
      ∙ stands column 7 r (drop value_bytes values) low (omega (arith, eight)) short
    where
      parts : values ≡ laid 7 r ++ drop value_bytes values
      parts = sym (take-append-drop value_bytes values) ∙ ap (λ (l : List ℕ). l ++ drop value_bytes values) values_laid

  -- shows its strings
  pub string-shown : shown_string values column ≡ bytes_in (column_of r column)
  string-shown =
      ap before_zero bytes-shown
      ∙ before-zeros (bytes_in (column_of r column)) (value_room - length (bytes_in (column_of r column))) (column-ranged 0 r ok column)
