-- What a number that an entry point returns says. The cases of each are told apart by the number alone, and `number_in`, `table_in` and
-- `place_in` read a refusal off it.
use Rattle.std.specs.Prelude.{ℕ, ◌/◌, ◌%◌, ◌^◌, ◌≤◌, ◌<◌, ◌≡◌, List}
use Rattle.judging.specs.Requests.{Value}
use Rattle.judging.specs.Judging.{judgement, Judgement as J}
use Rattle.comparing.specs.Compared.{Compared, Shown}
use Rattle.comparing.specs.Answers.{Counting as C, Shape, Showing as S}
use Rattle.policy.specs.Answers.{JsonAnswered, JsonAnswer as R}
use Rattle.portal.specs.Codes.{present_of, place_in, number_in, table_in, given_place}

-- what r says of a table and a request
pub data JudgeSays (table : List ℕ) (request : List Value) (r : ℕ) : Type 0 where
  -- 0: the judgement is NotMentioned
  not_mentioned : r ≡ 0 → judgement table request ≡ J.NotMentioned → JudgeSays table request r
  -- 1: it is Allowed
  allowed : r ≡ 1 → judgement table request ≡ J.Allowed → JudgeSays table request r
  -- 2: it is DeniedByRule
  denied : r ≡ 2 → judgement table request ≡ J.DeniedByRule → JudgeSays table request r
  -- from 2 ^ 32 on: it is the refusal that r says
  refused : 2 ^ 32 ≤ r → judgement table request ≡ J.Refused (number_in r) (place_in r) → 0 < number_in r → table_in r ≡ 0
      → JudgeSays table request r

-- what r says of the gaps of two tables
pub data GapsSay (first second : List ℕ) (r : ℕ) : Type 0 where
  -- below 2 ^ 32: there are r gaps
  counted : r < 2 ^ 32 → Compared 8192 first second (C.Gaps r) → GapsSay first second r
  -- from 2 ^ 32 on: the comparison is refused as r says
  refused : 2 ^ 32 ≤ r → Compared 8192 first second (C.Refused (number_in r) (table_in r) (place_in r)) → 0 < number_in r → GapsSay first second r

-- what r says of gap k of two tables, and what the value buffer holds before and after
pub data GapSays (first second : List ℕ) (k : ℕ) (before : List ℕ) (r : ℕ) (after : List ℕ) : Type 0 where
  -- from 2 ^ 63 on: the gap is shown; bits 32 to 36 say which keys are there, and the low 32 bits are the address
  shown : 2 ^ 63 ≤ r → (shape : Shape) → Shown 8192 first second k before (S.Shown shape, after)
      → shape.present ≡ present_of (r / 2 ^ 32) → shape.address ≡ r % 2 ^ 32 → GapSays first second k before r after
  -- below: the question is refused as r says, and the buffer is as it came
  refused : 2 ^ 32 ≤ r → r < 2 ^ 63 → Shown 8192 first second k before (S.Refused (number_in r) (table_in r) (place_in r), after)
      → 0 < number_in r → after ≡ before → GapSays first second k before r after

-- what r says of a JSON text, and what the buffer for its table holds before and after
pub data JsonSays (json before : List ℕ) (r : ℕ) (after : List ℕ) : Type 0 where
  -- below 2 ^ 56: r bytes of the buffer are the table
  written : r < 2 ^ 56 → JsonAnswered json before (R.Written r) after → JsonSays json before r after
  -- from 2 ^ 56 on: the text is refused with this number, at this place, as far as there is room for it, and the buffer is as it came
  refused : (place : ℕ) → 2 ^ 56 ≤ r → JsonAnswered json before (R.Refused (r / 2 ^ 56) place) after → r % 2 ^ 56 ≡ given_place place
      → after ≡ before → JsonSays json before r after
