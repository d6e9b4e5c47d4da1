-- The comparison leaves no input without an answer: each test of its definition is computed or decided, and where no refusal is given the
-- first values of the columns make the gaps.
pub mod Pairs
pub mod AllStrings
pub mod OneOfEach
pub mod FewOrMany
pub mod FirstValues
pub mod EveryColumn
use Rattle.std.proofs.Common.{ℕ, ◌≤◌, ◌<◌, ◌≡◌, refl, Bool, true, false, ◌||◌, List, [], ◌++◌, map, ◌⊎◌, inl, inr, arith, ltb, length, drop, get_or, ltb-true, ltb-false}
use Rattle.stored.specs.Choice.{pick}
use Rattle.stored.specs.Reading.{reading, ReadAnswer, ReadAnswer as A}
use Rattle.stored.specs.Tables.{Statement}
use Rattle.judging.specs.Requests.{Value, columns}
use Rattle.judging.specs.Judging.{rows_of}
use Rattle.columns.specs.Values.{values_in}
use Rattle.comparing.specs.Gaps.{Gaps}
use Rattle.comparing.specs.Compared.{workspace_words, value_bytes, most_kinds, first_wide, Crowded, Uncrowded, product, FromKinds, FromStates, FromTables, Answered, IsCount, Compared, first_long, shape_of, laid, IsShown, IsAnswer, keeps, Shown}
use Rattle.comparing.specs.Machinery.Product.{gaps_among}
use Rattle.comparing.specs.Answers.{Counting, Counting as C, Showing, Showing as S}
use Rattle.comparing.proofs.kinds.Product.{product-gaps, counts-from}
use Rattle.comparing.proofs.compare.Lowest.{none-wide}
use Rattle.comparing.proofs.compare.NotWide.{narrow-codes}
use Rattle.comparing.proofs.SomeAnswer.FewOrMany.{few-else-many, crowded-or-few}
use Rattle.comparing.proofs.SomeAnswer.EveryColumn.{some-firsts}

-- a choice by a test has an answer where either side has, under its outcome of the test
pick_some : {R : Type 0} (P Q : R → Type 0) (t : Bool) → (t ≡ true → (r : R) × P r) → (t ≡ false → (r : R) × Q r)
    → (r : R) × pick t (P r) (Q r)
pick_some P Q true f g = f refl
pick_some P Q false f g = g refl

-- a question about two tables has an answer where each two tables with a list of gaps have one
module _ {R : Type 0} (no : ℕ → ℕ → ℕ → R) (Yes : List Statement → List Statement → R → Type 0)
    (some : (first second : List Statement) (list : List (List Value)) → Gaps first second list → (r : R) × Yes first second r) where
  module _ (first second : List Statement) (none : columns ≤ first_wide (first ++ second)) where
    -- 12, or an answer
    some-kinds : Uncrowded (first ++ second) → (r : R) × FromKinds no Yes first second r
    some-kinds few =
        let (lists, firsts) = some-firsts first second (narrow-codes (first ++ second) (none-wide (first ++ second) none)) few in
        let counts = map length lists in
        let (r, is) =
        pick_some (λ r. r ≡ no 12 0 0) (Yes first second) (ltb most_kinds (product counts)) (λ e. (no 12 0 0, refl))
        (λ e. some first second (gaps_among first second lists) (product-gaps first second lists firsts)) in
        (r, (counts, counts-from first second 0 lists firsts, is))

    -- 11, or what follows it
    some-states : (r : R) × FromStates no Yes first second r
    some-states =
        by (crowded-or-few (first ++ second) (λ d low. few-else-many (values_in d (first ++ second)) (narrow-codes (first ++ second) (none-wide (first ++ second) none) d low)) 7 (omega arith))
      where
        by : ((c : ℕ) × Crowded (first ++ second) c) ⊎ Uncrowded (first ++ second) → (r : R) × FromStates no Yes first second r
        by (inl (c, crowded)) = (no 11 0 c, inl (c, crowded, refl))
        by (inr few) = let (r, is) = some-kinds few in (r, inr (few, is))

  -- a table's refusal, 10, or what follows them
  some-tables : (a b : ReadAnswer) (first second : List Statement) → (r : R) × FromTables no Yes a b first second r
  some-tables (A.Refused n place) other first second = (no n 1 place, refl)
  some-tables (A.Accepted m) (A.Refused n place) first second = (no n 2 place, refl)
  some-tables (A.Accepted m) (A.Accepted n) first second =
      pick_some (λ r. r ≡ no 10 0 (first_wide (first ++ second))) (FromStates no Yes first second)
      (ltb (first_wide (first ++ second)) columns)
      (λ e. (no 10 0 (first_wide (first ++ second)), refl))
      (λ e. some-states first second (ltb-false (first_wide (first ++ second)) columns e))

  -- 14, or what follows it
  some-answered : (short : Bool) (a b : List ℕ) → (r : R) × Answered no Yes short a b r
  some-answered short a b =
      pick_some (λ r. r ≡ no 14 0 0) (FromTables no Yes (reading a) (reading b) (rows_of a) (rows_of b)) short
      (λ e. (no 14 0 0, refl)) (λ e. some-tables (reading a) (reading b) (rows_of a) (rows_of b))

-- the number of gaps is the list's length
some-count : (first second : List Statement) (list : List (List Value)) → Gaps first second list → (r : Counting) × IsCount first second r
some-count first second list gaps = (C.Gaps (length list), (length list, record { list = list; gaps = gaps; size = refl }, refl))

-- Every comparison has an answer: no two tables and no workspace leave `Compared` without one.
pub some-answer : (room : ℕ) (a b : List ℕ) → (r : Counting) × Compared room a b r
some-answer room a b = some-answered C.Refused IsCount some-count (ltb room workspace_words) a b

module _ (k : ℕ) (buffer : List ℕ) where
  -- 15, or the values of gap k
  some-shown : (first second : List Statement) (list : List (List Value)) → Gaps first second list → k < length list
      → (r : Showing × List ℕ) × IsShown k buffer first second r
  some-shown first second list gaps low =
      let request = get_or list k [] in
      let (r, is) =
      pick_some {R = Showing × List ℕ} (λ r. r ≡ (S.Refused 15 0 (first_long 0 request), buffer))
      (λ r. r ≡ (S.Shown (shape_of request), laid 7 request ++ drop value_bytes buffer)) (ltb (first_long 0 request) columns)
      (λ e. ((S.Refused 15 0 (first_long 0 request), buffer), refl))
      (λ e. ((S.Shown (shape_of request), laid 7 request ++ drop value_bytes buffer), refl)) in
      (r, (request, record { list = list; gaps = gaps; low = low; here = refl }, is))

  -- 13, or gap k
  some-gap : (first second : List Statement) (list : List (List Value)) → Gaps first second list
      → (r : Showing × List ℕ) × IsAnswer k buffer first second r
  some-gap first second list gaps =
      let (r, is) =
      pick_some (IsShown k buffer first second) (λ r. r ≡ (S.Refused 13 0 0, buffer)) (ltb k (length list))
      (λ e. some-shown first second list gaps (ltb-true k (length list) e)) (λ e. ((S.Refused 13 0 0, buffer), refl)) in
      (r, (length list, record { list = list; gaps = gaps; size = refl }, is))

-- And so has every question for a gap: no number and no buffer leave `Shown` without one.
pub some-answer-shown : (room : ℕ) (a b : List ℕ) (k : ℕ) (buffer : List ℕ) → (r : Showing × List ℕ) × Shown room a b k buffer r
some-answer-shown room a b k buffer =
    some-answered (keeps buffer) (IsAnswer k buffer) (some-gap k buffer) (ltb room workspace_words || ltb (length buffer) value_bytes) a b
