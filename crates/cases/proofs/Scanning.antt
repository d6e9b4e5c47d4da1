-- How many bytes there are up to the first that is wanted: what a search for it says, and one byte more where it is there.
use Rattle.std.proofs.Common.{◌≡◌, ◌≢◌, ℕ, ◌+◌, ◌<◌, min, Bool, true, false, List, [], ◌∷◌, Option, MatchOption, HoldsAt, unwrap_or, eqb, length, refl, arith}
use Rattle.std.proofs.lemmas.Bool.{eq-eqb, ne_eqb}
use Rattle.std.specs.List.{AllWithin}
use Rattle.std.proofs.lemmas.Iterator.{index_from_first}
use Rattle.cases.specs.Text.{up_to}

pub first : (wanted : ℕ) (text : List ℕ) (found : Option ℕ)
    → MatchOption found (AllWithin (λ b. b ≢ wanted) text 0 (length text))
    (λ i. (i < length text) × HoldsAt (λ b. b ≡ wanted) text i × AllWithin (λ b. b ≢ wanted) text 0 i)
    → up_to 0 wanted text ≡ unwrap_or found (length text)
first wanted text found =
    index_from_first (up_to 0 wanted) (λ b. b ≡ wanted) (λ b. b ≢ wanted) refl
    (λ b bs e. rw (eq-eqb b wanted e)) (λ b bs e. rw (ne_eqb b wanted e)) text found

pub one_behind : (wanted : ℕ) (text : List ℕ) → up_to 1 wanted text ≡ min (up_to 0 wanted text + 1) (length text)
one_behind wanted [] = omega arith
one_behind wanted (b ∷ bs) = by (eqb b wanted) refl (one_behind wanted bs)
  where
    by : (here : Bool) → eqb b wanted ≡ here → up_to 1 wanted bs ≡ min (up_to 0 wanted bs + 1) (length bs)
        → up_to 1 wanted (b ∷ bs) ≡ min (up_to 0 wanted (b ∷ bs) + 1) (length (b ∷ bs))
    by true e more = rw e (omega arith)
    by false e more = rw e (omega arith)
