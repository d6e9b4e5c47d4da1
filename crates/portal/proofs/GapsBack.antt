-- What the numbers that `stamenhum_gaps` and `stamenhum_gap` return say: the answer is read back from each. The cases of the comparison
-- give no refusal that does not fit its code.
use Prim.Native.Nat.{ℕ, ◌+◌, ◌*◌, ◌/◌, ◌%◌, ◌^◌, ◌≤◌, ◌<◌}
use mathlib.Core.Path.{◌≡◌, refl, sym, ◌∙◌, ap, subst}
use mathlib.Core.List.{List}
use native.Mathlib.Omega.{arith}
use Rattle.stored.specs.Tables.{Statement}
use Rattle.judging.specs.Requests.{column_of}
use Rattle.judging.specs.Judging.{rows_of}
use Rattle.comparing.specs.Compared.{request_shown, keeps, Compared, Shown}
use Rattle.comparing.specs.Outcomes.{Outcome, short, first_table, second_table, wide, crowded, many_kinds, answered, GapAnswer, behind, shows}
use Rattle.comparing.specs.Means.{ShownMeans}
use Rattle.comparing.specs.Answers.{Counting, Counting as C, Shape, Showing, Showing as S}
use Rattle.comparing.proofs.Promises.{few-gaps, shown-means, refused-exactly, refused-exactly-shown}
use Rattle.comparing.proofs.Requests.{address-said}
use Rattle.portal.specs.Codes.{present_of, flags_of, shape_code, place_in, number_in, table_in}
use Rattle.portal.specs.Answers.{Counts, Shows}
use Rattle.portal.specs.Saying.{GapsSay, GapSays}
use Rattle.portal.proofs.Flags.{flags-low, keys-read}
use Rattle.portal.proofs.Fitting.{Fits, gives_back, reader-fits, column_fits}

-- what holds of every refusal that fits, and of an answer, holds of what a case gives
outcome_fits : {R : Type 0} (Short : Type 0) (refusal : ℕ → ℕ → ℕ → R) (Answer : List Statement → List Statement → R → Type 0) (a b : List ℕ)
    (P : R → Type 0) → ((n table place : ℕ) → Fits n table place → P (refusal n table place))
    → ((r : R) → Answer (rows_of a) (rows_of b) r → P r) → (r : R) → Outcome Short refusal Answer a b r → P r
outcome_fits Short refusal Answer a b P refuses answers r (short s e) =
    subst P (sym e) (refuses 14 0 0 (column_fits 14 0 (omega arith) (omega arith) (omega arith)))
outcome_fits Short refusal Answer a b P refuses answers r (first_table long n place f e) =
    subst P (sym e) (refuses n 1 place (reader-fits a n 1 place (omega arith) f))
outcome_fits Short refusal Answer a b P refuses answers r (second_table long reads n place f e) =
    subst P (sym e) (refuses n 2 place (reader-fits b n 2 place (omega arith) f))
outcome_fits Short refusal Answer a b P refuses answers r (wide both c w e) =
    subst P (sym e) (refuses 10 0 c (column_fits 10 c (omega arith) (omega arith) (omega (arith, w.low))))
outcome_fits Short refusal Answer a b P refuses answers r (crowded both narrow c k e) =
    subst P (sym e) (refuses 11 0 c (column_fits 11 c (omega arith) (omega arith) (omega (arith, k.low))))
outcome_fits Short refusal Answer a b P refuses answers r (many_kinds both counts passed over e) =
    subst P (sym e) (refuses 12 0 0 (column_fits 12 0 (omega arith) (omega arith) (omega arith)))
outcome_fits Short refusal Answer a b P refuses answers r (answered both counts passed within answer) = answers r answer

-- the number of gaps

abbrev CountFits : Counting → Type 0
CountFits (C.Gaps n) = Unit {0}
CountFits (C.Refused n table place) = Fits n table place

count_fits : (first second : List ℕ) (answer : Counting) → Compared 8192 first second answer → CountFits answer
count_fits first second answer c =
    outcome_fits _ C.Refused _ first second CountFits (λ n table place fits. fits) (λ r is. subst CountFits (sym is.2) tt) answer
    ((refused-exactly 8192 first second answer).0 c)

-- the number says how many gaps there are, or the refusal
pub gaps-read-back : (first second : List ℕ) (r : ℕ) → Counts first second r → GapsSay first second r
gaps-read-back first second r (C.Gaps n, compared, code) =
    GapsSay.counted (omega (arith, few-gaps 8192 first second n compared))
    (subst (λ (i : ℕ). Compared 8192 first second (C.Gaps i)) (sym code) compared)
gaps-read-back first second r (C.Refused n table place, compared, code) =
    let back = gives_back n table place r (count_fits first second (C.Refused n table place) compared) code in
    let same : C.Refused n table place ≡ C.Refused (number_in r) (table_in r) (place_in r) = rw (back.number_same, back.table_same, back.place_same) in
    GapsSay.refused back.high (subst (Compared 8192 first second) same compared) back.some

-- gap k

-- a refusal leaves the buffer as it came
abbrev pub GapFits : List ℕ → Showing × List ℕ → Type 0
GapFits before (S.Shown shape, after) = Unit {0}
GapFits before (S.Refused n table place, after) = Fits n table place × (after ≡ before)

pub gap-fits : (first second : List ℕ) (k : ℕ) (before : List ℕ) (r : Showing × List ℕ) → Shown 8192 first second k before r → GapFits before r
gap-fits first second k before r s =
    outcome_fits _ (keeps before) (GapAnswer k before) first second (GapFits before) (λ n table place fits. (fits, refl)) answers r
    ((refused-exactly-shown k before 8192 first second r).0 s)
  where
    answers : (r : Showing × List ℕ) → GapAnswer k before (rows_of first) (rows_of second) r → GapFits before r
    answers r (behind n counted high e) =
        subst (GapFits before) (sym e) (column_fits 13 0 (omega arith) (omega arith) (omega arith), refl)
    answers r (shows n counted low request gap e) = subst (GapFits before) (sym e) tt

-- the code of a shape gives the keys and the address back
pub record ShapeBack (shape : Shape) (r : ℕ) : Type 0 where
  pub high : 2 ^ 63 ≤ r
  pub low : r < 2 ^ 64
  pub present : shape.present ≡ present_of (r / 2 ^ 32)
  pub address : shape.address ≡ r % 2 ^ 32

pub shape-back : (first second : List ℕ) (k : ℕ) (before : List ℕ) (r : ℕ) (after : List ℕ) (shape : Shape)
    → Shown 8192 first second k before (S.Shown shape, after) → r ≡ shape_code shape → ShapeBack shape r
shape-back first second k before r after shape s code =
    record {
      high = omega arith;
      low = omega (arith, small, flags-low shape.present);
      present = sym (ap present_of flags ∙ keys-read shape.present 0x4000000);
      address = omega (arith, small);
    }
  where
    means : ShownMeans first second k before shape after
    means = shown-means 8192 first second k before shape after s

    small : shape.address < 2 ^ 32
    small =
        subst (λ (n : ℕ). n < 2 ^ 32) (sym (ap (λ (s : Shape). s.address) means.lengths))
        (address-said (column_of (request_shown shape after) 7) means.request.1.1.1.1.1.1.1.0)

    flags : r / 2 ^ 32 ≡ 0x4000000 * 32 + flags_of shape.present
    flags = omega (arith, small)

-- the number says which keys and which address gap k has, or the refusal
pub gap-read-back : (first second : List ℕ) (k : ℕ) (before : List ℕ) (r : ℕ) (after : List ℕ)
    → Shows first second k before r after → GapSays first second k before r after
gap-read-back first second k before r after (S.Shown shape, s, code) =
    let back = shape-back first second k before r after shape s code in
    GapSays.shown back.high shape s back.present back.address
gap-read-back first second k before r after (S.Refused n table place, s, code) =
    let fits = gap-fits first second k before (S.Refused n table place, after) s in
    let back = gives_back n table place r fits.0 code in
    let same : S.Refused n table place ≡ S.Refused (number_in r) (table_in r) (place_in r) = rw (back.number_same, back.table_same, back.place_same) in
    GapSays.refused back.high back.low (subst (λ (answer : Showing). Shown 8192 first second k before (answer, after)) same s) back.some fits.1
