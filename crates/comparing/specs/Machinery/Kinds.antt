-- What the functions that count and find gaps promise each other: gaps as sets of rows, column by column. Row i of both tables is
-- bit i, the first table's rows below the second's.
use Rattle.std.specs.Prelude.{ℕ, zero, suc, ◌+◌, ◌-◌, ◌*◌, ◌/◌, ◌%◌, ◌^◌, ◌≤◌, ◌<◌, ◌≡◌, Bool, not, ◌&&◌, ◌||◌, List, [], ◌∷◌, eqb, ltb, length, get_or, take, drop, fold}
use Rattle.std.specs.Int.Bits.{bit_and}
use Rattle.stored.specs.Choice.{pick}
use Rattle.judging.specs.Machinery.Rows.{bit_of}
use Rattle.states.specs.Machinery.Rows.{prints_at}
use Rattle.comparing.specs.declared.sides.Sides.{Sides}
use Rattle.comparing.specs.declared.kinds.Step.{Step}

-- all rows that apply allow, and there are some
abbrev pub allowed_rows : ℕ → ℕ → Bool
allowed_rows rows allow = eqb (bit_and rows allow) rows && not (eqb rows 0)

-- the first table allows by its rows, and the second does not by its own
abbrev pub is_gap_rows : Sides → ℕ → Bool
is_gap_rows sides rows =
    allowed_rows (rows % 2 ^ sides.size) sides.allow && not (allowed_rows (rows / 2 ^ sides.size) sides.other)

-- the sum of a function over a list
abbrev pub total : (ℕ → ℕ) → List ℕ → ℕ
total f [] = 0
total f (x ∷ l) = f x + total f l

-- the gaps among the kinds of some columns, given their footprints and the rows still left
abbrev pub count_of : Sides → List (List ℕ) → ℕ → ℕ
count_of sides [] rows = bit_of (is_gap_rows sides rows)
count_of sides (prints ∷ more) rows = total (λ f. count_of sides more (bit_and rows f)) prints

-- where gap k lies in a column: the index of its footprint, and what is left of k there
abbrev pub steps_to : (ℕ → ℕ) → List ℕ → ℕ → ℕ
steps_to f [] k = 0
steps_to f (x ∷ l) k = pick (ltb k (f x)) 0 (suc (steps_to f l (k - f x)))

abbrev pub left_of : (ℕ → ℕ) → List ℕ → ℕ → ℕ
left_of f [] k = k
left_of f (x ∷ l) k = pick (ltb k (f x)) k (left_of f l (k - f x))

-- the footprint of gap k in the first of some columns, and what is left of k there
abbrev pub step_of : Sides → List (List ℕ) → ℕ → ℕ → Step
step_of sides [] rows k = record { print = 0; left = k }
step_of sides (prints ∷ more) rows k =
    record {
      print = get_or prints (steps_to (λ f. count_of sides more (bit_and rows f)) prints k) 0;
      left = left_of (λ f. count_of sides more (bit_and rows f)) prints k;
    }

-- the index of gap k's footprint in each column
abbrev pub path_of : Sides → List (List ℕ) → ℕ → ℕ → List ℕ
path_of sides [] rows k = []
path_of sides (prints ∷ more) rows k =
    let i = steps_to (λ f. count_of sides more (bit_and rows f)) prints k in
    i ∷ path_of sides more (bit_and rows (get_or prints i 0)) (left_of (λ f. count_of sides more (bit_and rows f)) prints k)

-- gap k's footprint in each column
abbrev pub prints_along : Sides → List (List ℕ) → ℕ → ℕ → List ℕ
prints_along sides [] rows k = []
prints_along sides (prints ∷ more) rows k =
    let step = step_of sides (prints ∷ more) rows k in
    step.print ∷ prints_along sides more (bit_and rows step.print) step.left

-- the footprints in the workspace between two bounds, and those of a column: from its bound to the next one's
abbrev pub prints_between : List ℕ → ℕ → ℕ → List ℕ
prints_between words from to = take (to - from) (drop (prints_at + from) words)

abbrev pub column_prints : List ℕ → List ℕ → ℕ → List ℕ
column_prints words bounds column = prints_between words (get_or bounds column 0) (get_or bounds (suc column) 0)

-- the footprints of n columns from a column on
abbrev pub prints_from : ℕ → List ℕ → List ℕ → ℕ → List (List ℕ)
prints_from zero words bounds column = []
prints_from (suc n) words bounds column = column_prints words bounds column ∷ prints_from n words bounds (suc column)

-- of the columns from a column on
abbrev pub prints_in : List ℕ → List ℕ → ℕ → List (List ℕ)
prints_in words bounds column = prints_from (8 - column) words bounds column

-- nine bounds that ascend
abbrev pub Ascending : List ℕ → Type 0
Ascending bounds = (c : ℕ) → c < 8 → get_or bounds c 0 ≤ get_or bounds (suc c) 0

-- and lie within the words
pub record Bounded (words bounds : List ℕ) : Type 0 where
  pub ascends : Ascending bounds
  pub within : prints_at + get_or bounds 8 0 ≤ length words

-- the rows of a set that some footprints all have too
abbrev pub meet_all : ℕ → List ℕ → ℕ
meet_all rows prints = fold bit_and rows prints

-- the rows that all footprints of some columns have
abbrev pub meet_of : List (List ℕ) → ℕ
meet_of [] = 2 ^ 64 - 1
meet_of (prints ∷ more) = meet_all (meet_of more) prints

-- for each column, the rows that all footprints of the columns from it on have
pub record MeetsAhead (words bounds meets : List ℕ) : Type 0 where
  pub at : (c : ℕ) → c ≤ 8 → get_or meets c 0 ≡ meet_of (prints_in words bounds c)

-- the number of kinds of n columns from a column on
abbrev pub kinds_from : ℕ → List ℕ → ℕ → ℕ
kinds_from zero bounds column = 1
kinds_from (suc n) bounds column = (get_or bounds (suc column) 0 - get_or bounds column 0) * kinds_from n bounds (suc column)

-- for each column, the number of kinds of the columns from it on, as a number of 32 bits
pub record KindsAhead (bounds kinds : List ℕ) : Type 0 where
  pub at : (c : ℕ) → c ≤ 8 → get_or kinds c 0 ≡ kinds_from (8 - c) bounds c % 2 ^ 32

-- no allow row of the first table is left, or all rows that are left are in every footprint ahead
abbrev pub is_settled : Sides → ℕ → ℕ → Bool
is_settled sides meet rows =
    eqb (bit_and (rows % 2 ^ sides.size) sides.allow) 0 || eqb (bit_and rows meet) rows
