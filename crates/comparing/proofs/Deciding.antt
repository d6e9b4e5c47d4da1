-- A string's state decides its footprint: a listed value matches the string exactly when the last of its pairs is in the state, and a row
-- looks at nothing else.
use Rattle.std.proofs.Common.{ℕ, zero, suc, ◌<◌, ◌≡◌, refl, sym, ◌∙◌, ap, ap₂, Bool, true, false, ◌&&◌, ◌||◌, List, [], ◌∷◌, ◌++◌, map, not-suc-le-zero, arith, eqb, length}
use Rattle.std.proofs.Math.Seq.{take-length}
use Rattle.stored.specs.Choice.{pick, some, every}
use Rattle.stored.specs.Items.{column_place, column_negated}
use Rattle.stored.specs.Operators.{row_of}
use Rattle.stored.specs.Tables.{Listed, Element, Condition, Statement}
use Rattle.matching.specs.declared.reading.Reading.{Reading}
use Rattle.matching.specs.Symbols.{Symbol, symbols, compare_of}
use Rattle.matching.specs.Matches.{matches, value_matches, prefix_matches}
use Rattle.matching.specs.State.{list_of, state_of}
use Rattle.judging.specs.Requests.{text}
use Rattle.judging.specs.Meaning.{listed_matches, sense, element_reading, operator_reading, condition_column, element_holds, condition_holds, element_in, condition_in, holds}
use Rattle.columns.specs.Values.{read_as, element_values, condition_values, values_in}
use Rattle.comparing.specs.Gaps.{footprint}

-- joined lists that are equal, where both begin with as many places
parts : (n : ℕ) (f g : ℕ → Bool) (a b : List Bool) → list_of n f ++ a ≡ list_of n g ++ b → ((j : ℕ) → j < n → f j ≡ g j) × (a ≡ b)
parts zero f g a b e = ((λ j h. absurd (not-suc-le-zero h)), e)
parts (suc n) f g a b e =
    let head : f 0 ≡ g 0 = cc in
    let tail : list_of n (λ j. f (suc j)) ++ a ≡ list_of n (λ j. g (suc j)) ++ b = cc in
    let rest = parts n (λ j. f (suc j)) (λ j. g (suc j)) a b tail in
    ((λ j h. by head rest.0 j h), rest.1)
  where
    by : f 0 ≡ g 0 → ((j : ℕ) → j < n → f (suc j) ≡ g (suc j)) → (j : ℕ) → j < suc n → f j ≡ g j
    by head rest zero h = head
    by head rest (suc j) h = rest j (omega arith)

module _ (s u : List ℕ) where
  -- every value of a list matches both strings or neither
  abbrev pub Agree : List (Reading × List ℕ) → Type 0
  Agree [] = Unit {0}
  Agree (v ∷ vs) = (value_matches v.0 v.1 s ≡ value_matches v.0 v.1 u) × Agree vs

  last-pair : (reading : Reading) (value : List ℕ)
      → ((j : ℕ) → j < suc (length (symbols reading value))
      → prefix_matches (compare_of reading) (symbols reading value) s j ≡ prefix_matches (compare_of reading) (symbols reading value) u j)
      → value_matches reading value s ≡ value_matches reading value u
  unfolding value_matches prefix_matches
  last-pair reading value e =
      ap (λ (p : List Symbol). matches (compare_of reading) p s) (sym (take-length (symbols reading value)))
      ∙ e (length (symbols reading value)) (omega arith)
      ∙ ap (λ (p : List Symbol). matches (compare_of reading) p u) (take-length (symbols reading value))

  state-agrees : (vs : List (Reading × List ℕ)) → state_of vs s ≡ state_of vs u → Agree vs
  state-agrees [] e = tt
  state-agrees (v ∷ vs) e =
      let p =
      parts (suc (length (symbols v.0 v.1))) (prefix_matches (compare_of v.0) (symbols v.0 v.1) s)
      (prefix_matches (compare_of v.0) (symbols v.0 v.1) u) (state_of vs s) (state_of vs u) e in
      (last-pair v.0 v.1 p.0, state-agrees vs p.1)

  agree-parts : (vs ws : List (Reading × List ℕ)) → Agree (vs ++ ws) → Agree vs × Agree ws
  agree-parts [] ws a = (tt, a)
  agree-parts (v ∷ vs) ws a = let r = agree-parts vs ws a.1 in ((a.0, r.0), r.1)

  -- lists, elements, conditions and rows that look at these values only
  list-agrees : (reading : Reading) (l : List Listed) → Agree (read_as reading l)
      → some (listed_matches reading (text s)) l ≡ some (listed_matches reading (text u)) l
  list-agrees reading [] a = refl
  list-agrees reading (Listed.text v ∷ l) a = ap₂ ◌||◌ a.0 (list-agrees reading l a.1)
  list-agrees reading (Listed.range n size ∷ l) a = list-agrees reading l a

  module _ (column : ℕ) where
    elements-agree : (es : List Element) → Agree (element_values column es) → every (element_in column (text s)) es ≡ every (element_in column (text u)) es
    elements-agree [] a = refl
    elements-agree (e ∷ es) a =
        let r = agree-parts (pick (eqb (column_place e.name) column) (read_as (element_reading e.name) e.values) []) (element_values column es) a in
        ap₂ ◌&&◌ (by (eqb (column_place e.name) column) r.0) (elements-agree es r.1)
      where
        by : (t : Bool) → Agree (pick t (read_as (element_reading e.name) e.values) []) → pick t (element_holds (text s) e) true ≡ pick t (element_holds (text u) e) true
        by true a = ap (sense (column_negated e.name)) (list-agrees (element_reading e.name) e.values a)
        by false a = refl

    conditions-agree : (ds : List Condition) → Agree (condition_values column ds)
        → every (condition_in column (text s)) ds ≡ every (condition_in column (text u)) ds
    conditions-agree [] a = refl
    conditions-agree (d ∷ ds) a =
        let r = agree-parts (pick (eqb (condition_column d) column) (read_as (operator_reading d.operator) d.values) []) (condition_values column ds) a in
        ap₂ ◌&&◌ (by (eqb (condition_column d) column) r.0) (conditions-agree ds r.1)
      where
        by : (t : Bool) → Agree (pick t (read_as (operator_reading d.operator) d.values) [])
            → pick t (condition_holds (text s) d) true ≡ pick t (condition_holds (text u) d) true
        by true a = ap (sense (row_of d.operator).negated) (list-agrees (operator_reading d.operator) d.values a)
        by false a = refl

    rows_agree : (rows : List Statement) → Agree (values_in column rows) → map (holds column (text s)) rows ≡ map (holds column (text u)) rows
    unfolding holds
    rows_agree [] a = refl
    rows_agree (r ∷ rows) a =
        let here = agree-parts (element_values column r.elements ++ condition_values column r.conditions) (values_in column rows) a in
        let both = agree-parts (element_values column r.elements) (condition_values column r.conditions) here.0 in
        ap₂ ◌∷◌
        (ap₂ ◌&&◌ (elements-agree r.elements both.0) (conditions-agree r.conditions both.1))
        (rows_agree rows here.1)

-- Strings with the same state have the same footprint.
pub state-decides : (first second : List Statement) (column : ℕ) (s u : List ℕ)
    → state_of (values_in column (first ++ second)) s ≡ state_of (values_in column (first ++ second)) u
    → footprint first second column (text s) ≡ footprint first second column (text u)
unfolding footprint
state-decides first second column s u same =
    rows_agree s u column (first ++ second) (state-agrees s u (values_in column (first ++ second)) same)
