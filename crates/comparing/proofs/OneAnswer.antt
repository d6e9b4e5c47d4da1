-- The comparison leaves one answer: the lowest wide column is computed, the lowest crowded column is one since at most 512 states are
-- not more than 512, and the counts of footprints are unique.
use Rattle.std.proofs.Common.{ℕ, suc, ◌+◌, ◌≡◌, refl, sym, ap, ap₂, ◌∙◌, subst, Bool, true, false, ◌||◌, List, [], ◌∷◌, ◌++◌, inl, inr, arith, ltb, leb, length, drop, leb-true, leb-false}
use Rattle.stored.specs.Choice.{pick}
use Rattle.stored.specs.Reading.{reading, ReadAnswer, ReadAnswer as A}
use Rattle.stored.specs.Tables.{Statement}
use Rattle.matching.specs.declared.reading.Reading.{Reading}
use Rattle.matching.specs.State.{state_of}
use Rattle.judging.specs.Requests.{Value, columns}
use Rattle.judging.specs.Judging.{rows_of}
use Rattle.columns.specs.Values.{values_in}
use Rattle.comparing.specs.Requests.{Admitted}
use Rattle.comparing.specs.Gaps.{footprint}
use Rattle.comparing.specs.Columns.{IsString, Few, TooMany}
use Rattle.comparing.specs.Compared.{workspace_words, value_bytes, most_kinds, first_wide, Crowded, Uncrowded, CountsFrom, product, FromKinds, FromStates, FromTables, Answered, IsCount, Compared, first_long, shape_of, laid, IsShown, IsAnswer, keeps, Shown}
use Rattle.comparing.specs.Answers.{Counting, Counting as C, Showing, Showing as S}
use Rattle.comparing.proofs.Unique.{counted-unique, gap-unique}
use Rattle.comparing.proofs.Pigeonhole.{different-unique, not_more}

-- a column has at most 512 states, or more, and not both
pub few-or-many : (vs : List (Reading × List ℕ)) → Few vs → TooMany vs → ⊥
few-or-many vs (n, states, few) many = not_more IsString (state_of vs) n 512 states few many

-- 11 is given for one column
pub crowded-unique : (rows : List Statement) (c d : ℕ) → Crowded rows c → Crowded rows d → c ≡ d
crowded-unique rows c d k l = by (leb c d) refl (leb d c) refl
  where
    by : (t : Bool) → leb c d ≡ t → (u : Bool) → leb d c ≡ u → c ≡ d
    by true e true f = omega (arith, leb-true c d e, leb-true d c f)
    by true e false f = absurd (few-or-many (values_in c rows) (l.below c (leb-false d c f)) k.many)
    by false e u f = absurd (few-or-many (values_in d rows) (k.below d (leb-false c d e)) l.many)

-- 11 is given for a column, or for none
pub crowded-or-not : (rows : List Statement) (c : ℕ) → Crowded rows c → Uncrowded rows → ⊥
crowded-or-not rows c k none = few-or-many (values_in c rows) (none c k.low) k.many

-- there is a count for each of the eight columns
pub counts-length : (first second : List Statement) (column : ℕ) (counts : List ℕ) → CountsFrom first second column counts → column + length counts ≡ columns
counts-length first second column [] e = omega arith
counts-length first second column (n ∷ counts) (here, more) = omega (arith, counts-length first second (suc column) counts more)

-- the numbers of footprints are one list
pub counts-unique : (first second : List Statement) (column : ℕ) (ns ms : List ℕ)
    → CountsFrom first second column ns → CountsFrom first second column ms → ns ≡ ms
counts-unique first second column [] [] e f = refl
counts-unique first second column [] (m ∷ ms) e f = absurd (omega (arith, counts-length first second column (m ∷ ms) f))
counts-unique first second column (n ∷ ns) [] e f = absurd (omega (arith, counts-length first second column (n ∷ ns) e))
counts-unique first second column (n ∷ ns) (m ∷ ms) (e, es) (f, fs) =
    ap₂ ◌∷◌ (different-unique (Admitted column) (footprint first second column) n m e f) (counts-unique first second (suc column) ns ms es fs)

-- a choice by a test has one answer where both sides have
pick-one : {R : Type 0} {r s : R} (b : Bool) {P Q T U : Type 0} → (P → Q → r ≡ s) → (T → U → r ≡ s) → pick b P T → pick b Q U → r ≡ s
pick-one true f g p q = f p q
pick-one false f g p q = g p q

-- a refusal with the same numbers is the same
same-no : {R : Type 0} {r s t : R} → r ≡ t → s ≡ t → r ≡ s
same-no e f = e ∙ sym f

module _ {R : Type 0} (no : ℕ → ℕ → ℕ → R) (Yes : List Statement → List Statement → R → Type 0)
    (one : (first second : List Statement) (r s : R) → Yes first second r → Yes first second s → r ≡ s) where
  kinds-one : (first second : List Statement) (r s : R) → FromKinds no Yes first second r → FromKinds no Yes first second s → r ≡ s
  kinds-one first second r s (ns, e, f) (ms, g, h) =
      let same = counts-unique first second 0 ms ns g e in
      pick-one (ltb most_kinds (product ns)) same-no (one first second r s) f
      (subst (λ (l : List ℕ). pick (ltb most_kinds (product l)) (s ≡ no 12 0 0) (Yes first second s)) same h)

  states-one : (first second : List Statement) (r s : R) → FromStates no Yes first second r → FromStates no Yes first second s → r ≡ s
  states-one first second r s (inl (c, k, e)) (inl (d, l, f)) =
      e ∙ ap (no 11 0) (crowded-unique (first ++ second) c d k l) ∙ sym f
  states-one first second r s (inl (c, k, e)) (inr (none, f)) = absurd (crowded-or-not (first ++ second) c k none)
  states-one first second r s (inr (none, e)) (inl (d, l, f)) = absurd (crowded-or-not (first ++ second) d l none)
  states-one first second r s (inr (none, e)) (inr (also, f)) = kinds-one first second r s e f

  tables-one : (a b : ReadAnswer) (first second : List Statement) (r s : R)
      → FromTables no Yes a b first second r → FromTables no Yes a b first second s → r ≡ s
  tables-one (A.Refused n place) other first second r s e f = same-no e f
  tables-one (A.Accepted m) (A.Refused n place) first second r s e f = same-no e f
  tables-one (A.Accepted m) (A.Accepted n) first second r s e f =
      pick-one (ltb (first_wide (first ++ second)) columns) same-no (states-one first second r s) e f

  -- a question about two tables has one answer where each two tables that pass all refusals have one
  pub answered-unique : (short : Bool) (a b : List ℕ) (r s : R) → Answered no Yes short a b r → Answered no Yes short a b s → r ≡ s
  answered-unique short a b r s e f = pick-one short same-no (tables-one (reading a) (reading b) (rows_of a) (rows_of b) r s) e f

count-one : (first second : List Statement) (r s : Counting) → IsCount first second r → IsCount first second s → r ≡ s
count-one first second r s (n, e, f) (m, g, h) = f ∙ ap C.Gaps (counted-unique first second n m e g) ∙ sym h

-- the comparison has one answer
pub compared-one : (room : ℕ) (a b : List ℕ) (r s : Counting) → Compared room a b r → Compared room a b s → r ≡ s
compared-one room a b r s e f = answered-unique C.Refused IsCount count-one (ltb room workspace_words) a b r s e f

module _ (k : ℕ) (buffer : List ℕ) where
  shown-gap-one : (first second : List Statement) (r s : Showing × List ℕ)
      → IsShown k buffer first second r → IsShown k buffer first second s → r ≡ s
  shown-gap-one first second r s (p, e, f) (q, g, h) =
      let same = gap-unique first second k q p g e in
      pick-one (ltb (first_long 0 p) columns) same-no same-no f
      (subst (λ (request : List Value). pick (ltb (first_long 0 request) columns)
      (s ≡ (S.Refused 15 0 (first_long 0 request), buffer))
      (s ≡ (S.Shown (shape_of request), laid 7 request ++ drop value_bytes buffer))) same h)

  answer-one : (first second : List Statement) (r s : Showing × List ℕ)
      → IsAnswer k buffer first second r → IsAnswer k buffer first second s → r ≡ s
  answer-one first second r s (n, e, f) (m, g, h) =
      let same = counted-unique first second m n g e in
      pick-one (ltb k n) (shown-gap-one first second r s) same-no f
      (subst (λ (i : ℕ). pick (ltb k i) (IsShown k buffer first second s) (s ≡ (S.Refused 13 0 0, buffer))) same h)

  -- the question for a gap has one answer, and leaves one content of the buffer
  pub shown-one : (room : ℕ) (a b : List ℕ) (r s : Showing × List ℕ) → Shown room a b k buffer r → Shown room a b k buffer s → r ≡ s
  shown-one room a b r s e f =
      answered-unique (keeps buffer) (IsAnswer k buffer) answer-one (ltb room workspace_words || ltb (length buffer) value_bytes) a b r s e f
