-- A question about two tables is answered by just one of its cases: the definition of what it may answer tries them in order, and each
-- case of `Outcome` is one way through it. Refusal 15 is none of them, for no gap has a value that is too long.
use Rattle.std.proofs.Common.{ℕ, ◌<◌, ◌≡◌, refl, sym, ◌∙◌, ap, subst, Bool, true, false, ◌||◌, List, ◌++◌, ◌⊎◌, inl, inr, ⊎_elim, ◌↔◌, arith, ltb, eqb, length, drop, ltb-true, ltb-false, lt-ltb, le-ltb}
use Rattle.stored.specs.Choice.{pick}
use Rattle.stored.specs.Reading.{reading, ReadAnswer, ReadAnswer as A}
use Rattle.stored.specs.Tables.{Statement}
use Rattle.stored.proofs.Choosing.{never}
use Rattle.judging.specs.Requests.{Value, columns}
use Rattle.judging.specs.Judging.{rows_of}
use Rattle.comparing.specs.Gaps.{IsGap}
use Rattle.comparing.specs.Compared.{workspace_words, value_bytes, most_kinds, first_wide, Uncrowded, product, FromKinds, FromStates, FromWidths, FromTables, Answered, IsCount, Compared, laid, first_long, shape_of, keeps, IsShown, IsAnswer, Shown}
use Rattle.comparing.specs.Outcomes.{NoneWide, Comparable, WithinColumns, Outcome, short, first_table, second_table, wide, crowded, many_kinds, answered, order_of, CountOutcome, order_of_count, GapAnswer, behind, shows, order_of_answer, GapOutcome, order_of_gap}
use Rattle.comparing.specs.Answers.{Counting, Counting as C, Showing, Showing as S}
use Rattle.comparing.proofs.compare.Lowest.{first-wide, none-wide, wide-first, none_first}
use Rattle.comparing.proofs.show.ShortValues.{firsts-short}
use Rattle.comparing.proofs.GapList.{gap-firsts}
use Rattle.comparing.proofs.OneAnswer.{compared-one, shown-one}

module _ {R : Type 0} (Short : Type 0) (no : ℕ → ℕ → ℕ → R) (Yes Answer : List Statement → List Statement → R → Type 0) (a b : List ℕ) (r : R)
  where
    -- from what may be answered to the cases
    module _ (to : (first second : List Statement) → NoneWide (first ++ second) → Uncrowded (first ++ second) → Yes first second r → Answer first second r)
      where
        kinds-outcome : Comparable Short a b → NoneWide (rows_of a ++ rows_of b) → Uncrowded (rows_of a ++ rows_of b)
            → FromKinds no Yes (rows_of a) (rows_of b) r → Outcome Short no Answer a b r
        kinds-outcome both narrow few (counts, are, e) = by (ltb most_kinds (product counts)) refl e
          where
            passed : WithinColumns (rows_of a) (rows_of b) counts
            passed = record { narrow = narrow; few = few; footprints = are }

            by : (t : Bool) → ltb most_kinds (product counts) ≡ t → pick t (r ≡ no 12 0 0) (Yes (rows_of a) (rows_of b) r) → Outcome Short no Answer a b r
            by true over f = many_kinds both counts passed (ltb-true most_kinds (product counts) over) f
            by false over f = answered both counts passed (ltb-false most_kinds (product counts) over) (to (rows_of a) (rows_of b) narrow few f)

        states-outcome : Comparable Short a b → NoneWide (rows_of a ++ rows_of b)
            → FromStates no Yes (rows_of a) (rows_of b) r → Outcome Short no Answer a b r
        states-outcome both narrow (inl (c, k, e)) = crowded both narrow c k e
        states-outcome both narrow (inr (few, e)) = kinds-outcome both narrow few e

        widths-outcome : Comparable Short a b → FromWidths no Yes (rows_of a) (rows_of b) r → Outcome Short no Answer a b r
        widths-outcome both = by (ltb (first_wide (rows_of a ++ rows_of b)) columns) refl
          where
            by : (t : Bool) → ltb (first_wide (rows_of a ++ rows_of b)) columns ≡ t
                → pick t (r ≡ no 10 0 (first_wide (rows_of a ++ rows_of b))) (FromStates no Yes (rows_of a) (rows_of b) r) → Outcome Short no Answer a b r
            by true low e =
                wide both (first_wide (rows_of a ++ rows_of b))
                (first-wide (rows_of a ++ rows_of b) (ltb-true (first_wide (rows_of a ++ rows_of b)) columns low)) e
            by false low e =
                states-outcome both (none-wide (rows_of a ++ rows_of b) (ltb-false (first_wide (rows_of a ++ rows_of b)) columns low)) e

        tables-outcome : (Short → ⊥) → (x : ReadAnswer) → reading a ≡ x → (y : ReadAnswer) → reading b ≡ y
            → FromTables no Yes x y (rows_of a) (rows_of b) r → Outcome Short no Answer a b r
        tables-outcome long (A.Refused n place) f y g e = first_table long n place f e
        tables-outcome long (A.Accepted m) f (A.Refused n place) g e = second_table long (m, f) n place g e
        tables-outcome long (A.Accepted m) f (A.Accepted n) g e =
            widths-outcome (record { long = long; first = (m, f); second = (n, g) }) e

        pub to-outcome : (t : Bool) → pick t Short (Short → ⊥) → Answered no Yes t a b r → Outcome Short no Answer a b r
        to-outcome true is e = short is e
        to-outcome false long e = tables-outcome long (reading a) refl (reading b) refl e

    -- and back
    module _ (from : (first second : List Statement) → NoneWide (first ++ second) → Uncrowded (first ++ second) → Answer first second r → Yes first second r)
      where
        read-both : Comparable Short a b → FromWidths no Yes (rows_of a) (rows_of b) r → FromTables no Yes (reading a) (reading b) (rows_of a) (rows_of b) r
        read-both both e = rw (both.first.1, both.second.1) e

        past-widths : NoneWide (rows_of a ++ rows_of b) → FromStates no Yes (rows_of a) (rows_of b) r → FromWidths no Yes (rows_of a) (rows_of b) r
        past-widths narrow e = rw (le-ltb (first_wide (rows_of a ++ rows_of b)) columns (none_first (rows_of a ++ rows_of b) narrow)) e

        past-states : (counts : List ℕ) → WithinColumns (rows_of a) (rows_of b) counts
            → pick (ltb most_kinds (product counts)) (r ≡ no 12 0 0) (Yes (rows_of a) (rows_of b) r) → FromWidths no Yes (rows_of a) (rows_of b) r
        past-states counts passed e = past-widths passed.narrow (inr (passed.few, (counts, passed.footprints, e)))

        at_width : (c : ℕ) → first_wide (rows_of a ++ rows_of b) ≡ c → c < columns → r ≡ no 10 0 c → FromWidths no Yes (rows_of a) (rows_of b) r
        at_width c is low e = rw (is, lt-ltb c columns low) e

        pub from-outcome : (t : Bool) → pick t Short (Short → ⊥) → Outcome Short no Answer a b r → Answered no Yes t a b r
        from-outcome true is (short s e) = e
        from-outcome true is (first_table long n place f e) = absurd (long is)
        from-outcome true is (second_table long table n place f e) = absurd (long is)
        from-outcome true is (wide both c w e) = absurd (both.long is)
        from-outcome true is (crowded both narrow c k e) = absurd (both.long is)
        from-outcome true is (many_kinds both counts passed over e) = absurd (both.long is)
        from-outcome true is (answered both counts passed within answer) = absurd (both.long is)
        from-outcome false long (short s e) = absurd (long s)
        from-outcome false long (first_table also n place f e) = rw f e
        from-outcome false long (second_table also table n place f e) = rw (table.1, f) e
        from-outcome false long (wide both c w e) = read-both both (at_width c (wide-first (rows_of a ++ rows_of b) c w) w.low e)
        from-outcome false long (crowded both narrow c k e) = read-both both (past-widths narrow (inl (c, k, e)))
        from-outcome false long (many_kinds both counts passed over e) =
            read-both both (past-states counts passed (rw (lt-ltb most_kinds (product counts) over) e))
        from-outcome false long (answered both counts passed within answer) =
            read-both both (past-states counts passed (rw (le-ltb most_kinds (product counts) within) (from (rows_of a) (rows_of b) passed.narrow passed.few answer)))

-- the place in the order of a refusal that has a number and a table
abbrev pub order_of_refusal : ℕ → ℕ → ℕ
order_of_refusal n table =
    pick (eqb table 1) 1
    (pick (eqb table 2) 2
    (pick (eqb n 14) 0
    (pick (eqb n 10) 3
    (pick (eqb n 11) 4
    (pick (eqb n 12) 5 6)))))

-- an answer shows which case it comes from
module _ {R : Type 0} (Short : Type 0) (no : ℕ → ℕ → ℕ → R) (Answer : List Statement → List Statement → R → Type 0) (a b : List ℕ)
    (order_in : R → ℕ) (refusal : (n table place : ℕ) → order_in (no n table place) ≡ order_of_refusal n table)
    (r : R) (last : Answer (rows_of a) (rows_of b) r → ℕ) (answer : (x : Answer (rows_of a) (rows_of b) r) → last x ≡ order_in r) where
  pub order-shown : (x : Outcome Short no Answer a b r) → order_of last x ≡ order_in r
  order-shown (short s e) = sym (ap order_in e ∙ refusal 14 0 0)
  order-shown (first_table long n place f e) = sym (ap order_in e ∙ refusal n 1 place)
  order-shown (second_table long table n place f e) = sym (ap order_in e ∙ refusal n 2 place)
  order-shown (wide both c w e) = sym (ap order_in e ∙ refusal 10 0 c)
  order-shown (crowded both narrow c k e) = sym (ap order_in e ∙ refusal 11 0 c)
  order-shown (many_kinds both counts passed over e) = sym (ap order_in e ∙ refusal 12 0 0)
  order-shown (answered both counts passed within x) = answer x

-- the comparison
count-short : (room : ℕ) → pick (ltb room workspace_words) (room < workspace_words) (room < workspace_words → ⊥)
count-short room = by (ltb room workspace_words) refl
  where
    by : (t : Bool) → ltb room workspace_words ≡ t → pick t (room < workspace_words) (room < workspace_words → ⊥)
    by true e = ltb-true room workspace_words e
    by false e = λ low. omega (arith, ltb-false room workspace_words e)

pub compared-exactly : (room : ℕ) (a b : List ℕ) (r : Counting) → Compared room a b r ↔ CountOutcome room a b r
compared-exactly room a b r = (
  to-outcome (room < workspace_words) C.Refused IsCount IsCount a b r (λ first second narrow few is. is) (ltb room workspace_words) (count-short room),
  from-outcome (room < workspace_words) C.Refused IsCount IsCount a b r (λ first second narrow few is. is) (ltb room workspace_words) (count-short room),
)

abbrev order_in_count : Counting → ℕ
order_in_count (C.Gaps n) = 7
order_in_count (C.Refused n table place) = order_of_refusal n table

pub count-outcome-one : (room : ℕ) (a b : List ℕ) (r s : Counting) (x : CountOutcome room a b r) (y : CountOutcome room a b s)
    → (r ≡ s) × (order_of_count x ≡ order_of_count y)
count-outcome-one room a b r s x y =
    let same = compared-one room a b r s ((compared-exactly room a b r).1 x) ((compared-exactly room a b s).1 y) in
    (same, order r x ∙ ap order_in_count same ∙ sym (order s y))
  where
    order : (r : Counting) (x : CountOutcome room a b r) → order_of_count x ≡ order_in_count r
    order r x =
        order-shown (room < workspace_words) C.Refused IsCount a b order_in_count (λ n table place. refl) r (λ is. 7)
        (λ is. sym (ap order_in_count is.2)) x

-- the question for a gap
module _ (k : ℕ) (buffer : List ℕ) where
  module _ (first second : List Statement) (r : Showing × List ℕ) (narrow : NoneWide (first ++ second)) (few : Uncrowded (first ++ second)) where
    -- whether a value of the request is too long, which none is
    abbrev ByLength : List Value → ℕ → Type 0
    ByLength request c =
        pick (ltb c columns) (r ≡ (S.Refused 15 0 c, buffer)) (r ≡ (S.Shown (shape_of request), laid 7 request ++ drop value_bytes buffer))

    none-long : (request : List Value) → IsGap first second k request → first_long 0 request ≡ columns
    none-long request g = firsts-short first second narrow few 0 request (gap-firsts first second k request g)

    to-answer : IsAnswer k buffer first second r → GapAnswer k buffer first second r
    to-answer (n, counted, e) = by (ltb k n) refl e
      where
        by : (t : Bool) → ltb k n ≡ t → pick t (IsShown k buffer first second r) (r ≡ keeps buffer 13 0 0) → GapAnswer k buffer first second r
        by true low (request, g, f) =
            shows n counted (ltb-true k n low) request g (subst (ByLength request) (none-long request g) f)
        by false low f = behind n counted (ltb-false k n low) f

    from-answer : GapAnswer k buffer first second r → IsAnswer k buffer first second r
    from-answer (behind n counted high e) = (n, counted, rw (le-ltb k n high) e)
    from-answer (shows n counted low request g e) =
        (n, counted, rw (lt-ltb k n low) (request, g, subst (ByLength request) (sym (none-long request g)) e))

  module _ (room : ℕ) where
    abbrev TooShort : Type 0
    TooShort = (room < workspace_words) ⊎ (length buffer < value_bytes)

    gap-short : pick (ltb room workspace_words || ltb (length buffer) value_bytes) TooShort (TooShort → ⊥)
    gap-short = by (ltb room workspace_words) refl (ltb (length buffer) value_bytes) refl
      where
        by : (t : Bool) → ltb room workspace_words ≡ t → (u : Bool) → ltb (length buffer) value_bytes ≡ u → pick (t || u) TooShort (TooShort → ⊥)
        by true e u f = inl (ltb-true room workspace_words e)
        by false e true f = inr (ltb-true (length buffer) value_bytes f)
        by false e false f =
            λ s.
            ⊎_elim
            (λ low. omega (arith, ltb-false room workspace_words e))
            (λ low. omega (arith, ltb-false (length buffer) value_bytes f))
            s

    pub shown-exactly : (a b : List ℕ) (r : Showing × List ℕ) → Shown room a b k buffer r ↔ GapOutcome room a b k buffer r
    shown-exactly a b r = (
      to-outcome TooShort (keeps buffer) (IsAnswer k buffer) (GapAnswer k buffer) a b r (λ first second. to-answer first second r)
          (ltb room workspace_words || ltb (length buffer) value_bytes) gap-short,
      from-outcome TooShort (keeps buffer) (IsAnswer k buffer) (GapAnswer k buffer) a b r (λ first second. from-answer first second r)
          (ltb room workspace_words || ltb (length buffer) value_bytes) gap-short,
    )

    -- no case is 15 of the comparison itself
    pub fifteen-never : (a b : List ℕ) (place : ℕ) (values : List ℕ) → Shown room a b k buffer (S.Refused 15 0 place, values) → ⊥
    fifteen-never a b place values s = by ((shown-exactly a b (S.Refused 15 0 place, values)).0 s)
      where
        other : (n table at : ℕ) → (S.Refused 15 0 place, values) ≡ keeps buffer n table at → (15 ≡ n) × (0 ≡ table)
        other n table at e =
            let same : S.Refused 15 0 place ≡ S.Refused n table at = ap (λ (r : Showing × List ℕ). r.0) e in
            (cc, cc)

        by_answer : GapAnswer k buffer (rows_of a) (rows_of b) (S.Refused 15 0 place, values) → ⊥
        by_answer (behind n counted high e) = omega (arith, (other 13 0 0 e).0)
        by_answer (shows n counted low request g e) =
            let same : S.Refused 15 0 place ≡ S.Shown (shape_of request) = ap (λ (r : Showing × List ℕ). r.0) e in
            never (cc)

        by : GapOutcome room a b k buffer (S.Refused 15 0 place, values) → ⊥
        by (short is e) = omega (arith, (other 14 0 0 e).0)
        by (first_table long n at f e) = omega (arith, (other n 1 at e).1)
        by (second_table long table n at f e) = omega (arith, (other n 2 at e).1)
        by (wide both c w e) = omega (arith, (other 10 0 c e).0)
        by (crowded both narrow c few e) = omega (arith, (other 11 0 c e).0)
        by (many_kinds both counts passed over e) = omega (arith, (other 12 0 0 e).0)
        by (answered both counts passed within answer) = by_answer answer

    abbrev order_in_gap : Showing × List ℕ → ℕ
    order_in_gap (S.Shown shape, values) = 7
    order_in_gap (S.Refused n table place, values) = order_of_refusal n table

    pub gap-outcome-one : (a b : List ℕ) (r s : Showing × List ℕ) (x : GapOutcome room a b k buffer r) (y : GapOutcome room a b k buffer s)
        → (r ≡ s) × (order_of_gap x ≡ order_of_gap y)
    gap-outcome-one a b r s x y =
        let same = shown-one k buffer room a b r s ((shown-exactly a b r).1 x) ((shown-exactly a b s).1 y) in
        (same, order r x ∙ ap order_in_gap same ∙ sym (order s y))
      where
        last : (r : Showing × List ℕ) (x : GapAnswer k buffer (rows_of a) (rows_of b) r) → order_of_answer x ≡ order_in_gap r
        last r (behind n counted high e) = sym (ap order_in_gap e)
        last r (shows n counted low request g e) = sym (ap order_in_gap e)

        order : (r : Showing × List ℕ) (x : GapOutcome room a b k buffer r) → order_of_gap x ≡ order_in_gap r
        order r x =
            order-shown TooShort (keeps buffer) (GapAnswer k buffer) a b order_in_gap (λ n table place. refl) r order_of_answer (last r) x
