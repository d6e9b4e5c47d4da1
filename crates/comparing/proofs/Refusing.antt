-- A refusal that was given before a question's own answer is a refusal of that question: the same numbers, said by its own word for no.
use Rattle.std.proofs.Common.{ℕ, ◌≡◌, ap, inl, inr, Bool, true, false, List, ◌++◌, ltb}
use Rattle.stored.specs.Choice.{pick}
use Rattle.stored.specs.Tables.{Statement}
use Rattle.stored.specs.Reading.{ReadAnswer, ReadAnswer as A}
use Rattle.judging.specs.Requests.{columns}
use Rattle.comparing.specs.Answers.{Counting, Counting as C}
use Rattle.comparing.specs.Compared.{most_kinds, first_wide, product, FromKinds, FromStates, FromWidths, FromTables}
use Rattle.comparing.specs.Machinery.Refusing.{NoAnswer}

module _ {R : Type 0} (no : ℕ → ℕ → ℕ → R) (Yes : List Statement → List Statement → R → Type 0) where
  -- the question's own word for a refusal
  abbrev pub told : Counting → R
  told (C.Gaps n) = no 0 0 0
  told (C.Refused n table place) = no n table place

  module _ (first second : List Statement) (r : Counting) where
    kinds-refused : FromKinds C.Refused NoAnswer first second r → FromKinds no Yes first second (told r)
    kinds-refused (counts, are, e) = (counts, are, by (ltb most_kinds (product counts)) e)
      where
        by : (t : Bool) → pick t (r ≡ C.Refused 12 0 0) (NoAnswer first second r) → pick t (told r ≡ no 12 0 0) (Yes first second (told r))
        by true e = ap told e
        by false e = absurd e

    pub states-refused : FromStates C.Refused NoAnswer first second r → FromStates no Yes first second (told r)
    states-refused (inl (column, crowded, e)) = inl (column, crowded, ap told e)
    states-refused (inr (few, e)) = inr (few, kinds-refused e)

    pub widths-refused : FromWidths C.Refused NoAnswer first second r → FromWidths no Yes first second (told r)
    widths-refused e = by (ltb (first_wide (first ++ second)) columns) e
      where
        by : (t : Bool) → pick t (r ≡ C.Refused 10 0 (first_wide (first ++ second))) (FromStates C.Refused NoAnswer first second r)
            → pick t (told r ≡ no 10 0 (first_wide (first ++ second))) (FromStates no Yes first second (told r))
        by true e = ap told e
        by false e = states-refused e

    pub tables-refused : (x y : ReadAnswer) → FromTables C.Refused NoAnswer x y first second r → FromTables no Yes x y first second (told r)
    tables-refused (A.Refused n place) y e = ap told e
    tables-refused (A.Accepted m) (A.Refused n place) e = ap told e
    tables-refused (A.Accepted m) (A.Accepted n) e = widths-refused e
