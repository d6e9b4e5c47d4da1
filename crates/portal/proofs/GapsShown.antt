-- Where the number of gaps is given, gap k is shown exactly for k below it: the case that gives the number gives a case of the question
-- for each k below it, and that question has one answer.
use Prim.Native.Nat.{ℕ, ◌^◌, ◌≤◌, ◌<◌}
use mathlib.Core.Path.{◌≡◌, refl, ◌∙◌, ap}
use mathlib.Core.List.{List, [], ◌++◌}
use mathlib.Core.Logic.{◌↔◌, ⊎_elim}
use native.Mathlib.Omega.{arith}
use lib.ListN.{length, get_or, drop}
use Rattle.stored.proofs.Choosing.{never}
use Rattle.judging.specs.Requests.{Value}
use Rattle.judging.specs.Judging.{rows_of}
use Rattle.comparing.specs.Gaps.{IsGap}
use Rattle.comparing.specs.Compared.{value_bytes, Compared, shape_of, laid, Shown}
use Rattle.comparing.specs.Outcomes.{short, first_table, second_table, wide, crowded, many_kinds, answered, CountOutcome, shows}
use Rattle.comparing.specs.Answers.{Counting as C, Showing, Showing as S}
use Rattle.comparing.proofs.Promises.{refused-exactly, refused-exactly-shown, one-answer-shown}
use Rattle.comparing.proofs.Unique.{gaps-unique}
use Rattle.portal.specs.Codes.{shape_code, showing_code}
use Rattle.portal.specs.Answers.{Counts, Shows}
use Rattle.portal.specs.Saying.{GapsSay}
use Rattle.portal.proofs.GapsBack.{gaps-read-back}
use Rattle.portal.proofs.AskedBack.{gap-asked}

-- what the case with the number of gaps gives for a k: below the number, k's gap is shown; and every gap has a number below it
record Numbered (first second : List ℕ) (n k : ℕ) (before : List ℕ) : Type 0 where
  below : k < n → (request : List Value) × Shown 8192 first second k before (S.Shown (shape_of request), laid 7 request ++ drop value_bytes before)
  above : (request : List Value) → IsGap (rows_of first) (rows_of second) k request → k < n

numbered : (first second : List ℕ) (n k : ℕ) (before : List ℕ) → value_bytes ≤ length before → Compared 8192 first second (C.Gaps n)
    → Numbered first second n k before
numbered first second n k before long compared = by ((refused-exactly 8192 first second (C.Gaps n)).0 compared)
  where
    by : CountOutcome 8192 first second (C.Gaps n) → Numbered first second n k before
    by (short s e) = never (cc)
    by (first_table room m place f e) = never (cc)
    by (second_table room table m place f e) = never (cc)
    by (wide both d w e) = never (cc)
    by (crowded both narrow d few e) = never (cc)
    by (many_kinds both counts passed over e) = never (cc)
    by (answered both counts passed within (m, counted, e)) = record { below = below; above = above }
      where
        same : m ≡ n
        same = cc

        below : k < n → (request : List Value) × Shown 8192 first second k before (S.Shown (shape_of request), laid 7 request ++ drop value_bytes before)
        below low = (
          get_or counted.list k [],
          (refused-exactly-shown k before 8192 first second
              (S.Shown (shape_of (get_or counted.list k [])), laid 7 (get_or counted.list k []) ++ drop value_bytes before)).1
              (answered
              (record { long = λ s. ⊎_elim (λ few. omega arith) (λ few. omega arith) s; first = both.first; second = both.second })
              counts passed within
              (shows m counted (omega (arith, same)) (get_or counted.list k [])
              (record { list = counted.list; gaps = counted.gaps; low = omega (arith, same, counted.size); here = refl }) refl)),
        )

        above : (request : List Value) → IsGap (rows_of first) (rows_of second) k request → k < n
        above request g =
            let one = gaps-unique (rows_of first) (rows_of second) g.list counted.list g.gaps counted.gaps in
            omega (arith, same, counted.size, g.low, ap length one)

-- every gap below the number can be had
pub gap-there : (first second : List ℕ) (n : ℕ) → Compared 8192 first second (C.Gaps n) → (k : ℕ) → k < n
    → (before : List ℕ) → value_bytes ≤ length before → (r : ℕ) × (after : List ℕ) × Shows first second k before r after × (2 ^ 63 ≤ r)
gap-there first second n compared k low before long =
    let (request, shown) = (numbered first second n k before long compared).below low in
    (shape_code (shape_of request), laid 7 request ++ drop value_bytes before, (S.Shown (shape_of request), shown, refl), omega arith)

-- The number for gap k shows it exactly where k is below the number of gaps, for a buffer of 3,584 bytes or more.
pub shown-exactly : (first second : List ℕ) (n : ℕ) → Counts first second n → n < 2 ^ 32
    → (k : ℕ) (before : List ℕ) → value_bytes ≤ length before → (r : ℕ) (after : List ℕ) → Shows first second k before r after
    → (2 ^ 63 ≤ r) ↔ (k < n)
shown-exactly first second n counts few k before long r after (answer, s, code) = by (gaps-read-back first second n counts)
  where
    by : GapsSay first second n → (2 ^ 63 ≤ r) ↔ (k < n)
    by (GapsSay.refused high compared some) = absurd (omega arith)
    by (GapsSay.counted low compared) = (to, from)
      where
        gaps : Numbered first second n k before
        gaps = numbered first second n k before long compared

        to : 2 ^ 63 ≤ r → k < n
        to high = gaps.above _ (gap-asked first second k before r after (answer, s, code) high).3

        from : k < n → 2 ^ 63 ≤ r
        from below =
            let (request, shown) = gaps.below below in
            let one = one-answer-shown k before 8192 first second (answer, after) (S.Shown (shape_of request), laid 7 request ++ drop value_bytes before) s shown in
            let shape : answer ≡ S.Shown (shape_of request) = ap (λ (x : Showing × List ℕ). x.0) one in
            let is = code ∙ ap showing_code shape in
            omega arith
