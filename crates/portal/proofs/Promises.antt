-- What the entry points promise beyond their contracts, in statements that can be read without their proofs: what the numbers that they
-- return say, what the answers of one mean in the answers of the others, and that each leaves one possible answer, and `stamenhum_gap` and
-- `stamenhum_read_json`, which are lent memory to write to, one possible content of it. What an outcome may be is word for word the
-- contract's (src/lib.rt): an equation for `stamenhum_judge`, `Counts` for `stamenhum_gaps`, `Shows` for `stamenhum_gap` and `ReadsJson` for
-- `stamenhum_read_json`.
use Prim.Native.Nat.{ℕ, ◌*◌, ◌^◌, ◌≤◌, ◌<◌}
use mathlib.Core.Path.{◌≡◌, ◌∙◌, sym, ap}
use mathlib.Core.Bool.{true, false}
use mathlib.Core.List.{List}
use mathlib.Core.Logic.{◌↔◌}
use lib.ListN.{length, take, drop}
use Rattle.json_text.specs.Grammar.{Text}
use Rattle.stored.specs.Choice.{some}
use Rattle.stored.specs.Values.{in_range}
use Rattle.judging.specs.Requests.{Value, columns, first_fault, request_of}
use Rattle.judging.specs.Meaning.{applies, some_denies, is_allowed}
use Rattle.judging.specs.Judging.{rows_of, judgement, Judgement as J}
use Rattle.comparing.specs.Order.{Earlier}
use Rattle.comparing.specs.Gaps.{AlikeFrom, IsGap}
use Rattle.comparing.specs.Compared.{value_bytes, value_room, padded, shape_of, Shown}
use Rattle.comparing.specs.Outcomes.{IsTable}
use Rattle.comparing.specs.Answers.{Shape, Showing, Showing as S}
use Rattle.comparing.proofs.Promises.{one_answer, one-answer-shown}
use Rattle.records.specs.Documents.{statements_of}
use Rattle.policy.specs.Answers.{document_of}
use Rattle.portal.specs.Codes.{present_of, judgement_code, counting_code, showing_code}
use Rattle.portal.specs.Answers.{Counts, Shows, ReadsJson}
use Rattle.portal.specs.Saying.{JudgeSays, GapsSay, GapSays, JsonSays}
use Rattle.portal.specs.Asked.{Asked, CanBeAsked, request_asked, judge_returns, shown_string, asked_by}
use Rattle.portal.proofs.JudgeBack
use Rattle.portal.proofs.GapsBack
use Rattle.portal.proofs.AskedBack
use Rattle.portal.proofs.AskedJudged
use Rattle.portal.proofs.GapsShown
use Rattle.portal.proofs.JsonBack

-- Demand 1 at the door, "an answer or a numbered refusal" (RULES 9.3, 9.4). Every number that `stamenhum_judge` may return for a table and
-- a request says the judgement: 0, 1 and 2 the three verdicts, and any number from 2 ^ 32 on the refusal whose number and place are read
-- off it. There is no other.
module _ (table : List ℕ) (request : List Value) (r : ℕ) (returned : r ≡ judgement_code (judgement table request)) where
  pub judge-read-back : JudgeSays table request r
  judge-read-back = JudgeBack.judge-read-back table request r returned

  pub judge-not-mentioned : (r ≡ 0) ↔ (judgement table request ≡ J.NotMentioned)
  judge-not-mentioned = JudgeBack.judge-not-mentioned table request r returned

  pub judge-allowed : (r ≡ 1) ↔ (judgement table request ≡ J.Allowed)
  judge-allowed = JudgeBack.judge-allowed table request r returned

  pub judge-denied : (r ≡ 2) ↔ (judgement table request ≡ J.DeniedByRule)
  judge-denied = JudgeBack.judge-denied table request r returned

-- Every number that `stamenhum_gaps` may return says the comparison's answer: below 2 ^ 32 it is the number of gaps, and from there on the
-- refusal whose number, table and place are read off it.
pub gaps-read-back : (first second : List ℕ) (r : ℕ) → Counts first second r → GapsSay first second r
gaps-read-back = GapsBack.gaps-read-back

-- Every number that `stamenhum_gap` may return says the answer: from 2 ^ 63 on gap k is shown, and which keys it has and its address are read
-- off the number; below, it is refused as the number says, and the buffer is as it came.
pub gap-read-back : (first second : List ℕ) (k : ℕ) (before : List ℕ) (r : ℕ) (after : List ℕ)
    → Shows first second k before r after → GapSays first second k before r after
gap-read-back = GapsBack.gap-read-back

-- Demand 2 at the door. `stamenhum_judge` returns 1 exactly when the byte string is a table, no column of the request is faulty, and some
-- allow statement of the table applies and no deny statement does; of such a table and request it returns 2 exactly when some deny
-- statement applies, and 0 exactly when no statement does.
pub door-allowed-exactly : (table : List ℕ) (q : Asked)
    → (judge_returns table q ≡ 1)
    ↔ (IsTable table × (first_fault 0 (request_asked q) ≡ columns) × (is_allowed (request_asked q) (rows_of table) ≡ true))
door-allowed-exactly = AskedJudged.one-exactly

pub door-denied-exactly : (table : List ℕ) (q : Asked)
    → (judge_returns table q ≡ 2)
    ↔ (IsTable table × (first_fault 0 (request_asked q) ≡ columns) × (some_denies (request_asked q) (rows_of table) ≡ true))
door-denied-exactly = AskedJudged.two-exactly

pub door-not-mentioned-exactly : (table : List ℕ) (q : Asked)
    → (judge_returns table q ≡ 0)
    ↔ (IsTable table × (first_fault 0 (request_asked q) ≡ columns) × (some (applies (request_asked q)) (rows_of table) ≡ false))
door-not-mentioned-exactly = AskedJudged.nought-exactly

-- Demand 3 at the door, "the list is empty exactly when there is none". Where `stamenhum_gaps` gives a number of gaps it is 0 exactly when
-- `stamenhum_judge` returns 1 by the second table for everything that a program can ask it and that it returns 1 for by the first.
pub door-none-exactly : (first second : List ℕ) (r : ℕ) → Counts first second r → r < 2 ^ 32
    → (r ≡ 0) ↔ ((q : Asked) → CanBeAsked q → judge_returns first q ≡ 1 → judge_returns second q ≡ 1)
door-none-exactly = AskedJudged.zero-exactly

-- Demand 3 at the door, "each with a request that shows it". Where `stamenhum_gap` shows gap k, what is read off its number and the value
-- buffer alone can be asked of `stamenhum_judge`, which returns 1 by the first table and not by the second; and it asks about the request
-- that is gap k.
pub door-gap-shows : (first second : List ℕ) (k : ℕ) (before : List ℕ) (r : ℕ) (after : List ℕ) → Shows first second k before r after → 2 ^ 63 ≤ r
    → CanBeAsked (asked_by r after)
    × (judge_returns first (asked_by r after) ≡ 1)
    × (judge_returns second (asked_by r after) ≡ 1 → ⊥)
    × IsGap (rows_of first) (rows_of second) k (request_asked (asked_by r after))
door-gap-shows = AskedBack.gap-asked

-- Where `stamenhum_gaps` gives a number of gaps, `stamenhum_gap` shows gap k exactly for every k below it, given a value buffer of 3,584 bytes or more.
pub door-shown-exactly : (first second : List ℕ) (n : ℕ) → Counts first second n → n < 2 ^ 32
    → (k : ℕ) (before : List ℕ) → value_bytes ≤ length before → (r : ℕ) (after : List ℕ) → Shows first second k before r after
    → (2 ^ 63 ≤ r) ↔ (k < n)
door-shown-exactly = GapsShown.shown-exactly

-- Reading up to the first zero loses nothing: no byte of a shown string is zero, since all lie in 21 to 7E hex, and the bytes behind it in its
-- 512 all are.
pub shown-never-zero : (first second : List ℕ) (k : ℕ) (before : List ℕ) (r : ℕ) (after : List ℕ) → Shows first second k before r after → 2 ^ 63 ≤ r
    → (column : ℕ) → column < 7
    → (in_range (shown_string after column) ≡ true) × (take value_room (drop (column * value_room) after) ≡ padded (shown_string after column))
shown-never-zero = AskedBack.strings-padded

-- And the lengths, the keys and the address of the answer are those of what is so read.
pub shown-lengths : (first second : List ℕ) (k : ℕ) (before : List ℕ) (r : ℕ) (after : List ℕ) → Shows first second k before r after → 2 ^ 63 ≤ r
    → (shape : Shape) → Shown 8192 first second k before (S.Shown shape, after) → shape ≡ shape_of (request_asked (asked_by r after))
shown-lengths = AskedBack.shape-asked

-- Two gap numbers show two requests: the lower one's is the earlier, and they are not alike.
pub door-gaps-differ : (first second : List ℕ) (j k : ℕ) → j < k
    → (before : List ℕ) (r : ℕ) (after : List ℕ) → Shows first second j before r after → 2 ^ 63 ≤ r
    → (before' : List ℕ) (r' : ℕ) (after' : List ℕ) → Shows first second k before' r' after' → 2 ^ 63 ≤ r'
    → Earlier (request_asked (asked_by r after)) (request_asked (asked_by r' after'))
    × (AlikeFrom (rows_of first) (rows_of second) 0 (request_asked (asked_by r after)) (request_asked (asked_by r' after')) → ⊥)
door-gaps-differ = AskedBack.asked-ascend

-- Any two numbers that the contract of `stamenhum_judge` permits for a table and a request are equal.
pub one-answer-judge :
    (table principal action resource : List ℕ) (present : ℕ) (vpc prefix vpce referer : List ℕ) (address : ℕ) (r s : ℕ)
    → r ≡ judgement_code (judgement table (request_of principal action resource (present_of present) vpc prefix vpce referer address))
    → s ≡ judgement_code (judgement table (request_of principal action resource (present_of present) vpc prefix vpce referer address))
    → r ≡ s
one-answer-judge table principal action resource present vpc prefix vpce referer address r s answered again = answered ∙ sym again

-- Any two numbers that the contract of `stamenhum_gaps` permits for two tables are equal.
pub one-answer-gaps : (first second : List ℕ) (r s : ℕ) → Counts first second r → Counts first second s → r ≡ s
one-answer-gaps first second r s (answer, compared, coded) (other, compared', coded') =
    coded ∙ ap counting_code (one_answer 8192 first second answer other compared compared') ∙ sym coded'

-- Any two outcomes that the contract of `stamenhum_gap` permits for two tables, a k and a value buffer are equal: the number, and what the
-- buffer then holds.
pub one-answer-gap : (first second : List ℕ) (k : ℕ) (before : List ℕ) (r s : ℕ) (after after' : List ℕ)
    → Shows first second k before r after → Shows first second k before s after' → (r ≡ s) × (after ≡ after')
one-answer-gap first second k before r s after after' (answer, shown, coded) (other, shown', coded') = (
  coded ∙ ap (λ (outcome : Showing × List ℕ). showing_code outcome.0) same ∙ sym coded',
  ap (λ (outcome : Showing × List ℕ). outcome.1) same,
)
  where
    same : ◌≡◌ {A = Showing × List ℕ} (answer, after) (other, after')
    same = one-answer-shown k before 8192 first second (answer, after) (other, after') shown shown'

-- Every number that `stamenhum_read_json` may return says the answer (RULES 9.6): below 2 ^ 56 so many bytes of the buffer are the table, and
-- from there on the text is refused with the number and the place that are read off it, and the buffer is as it came.
pub json-read-back : (json before : List ℕ) (r : ℕ) (after : List ℕ) → ReadsJson json before r after → JsonSays json before r after
json-read-back = JsonBack.json-read-back

-- Any two outcomes that its contract permits for a text and a buffer are equal: the number, and what the buffer then holds.
pub one-answer-json : (json before : List ℕ) (r s : ℕ) (after after' : List ℕ)
    → ReadsJson json before r after → ReadsJson json before s after' → (r ≡ s) × (after ≡ after')
one-answer-json = JsonBack.one-answer-json

-- "What the table means equals what the document says": by the table that `stamenhum_read_json` has written, `stamenhum_judge` returns 1
-- exactly when no column of the request is faulty and some allow statement of the document applies and no deny statement does. A document's
-- statements do not depend on the way in which its text is one of the grammar (`one-tree` of `json`).
pub json-judged : (json before : List ℕ) (r : ℕ) (after : List ℕ) → ReadsJson json before r after → r < 2 ^ 56 → (x : Text json) (q : Asked)
    → (judge_returns (take r after) q ≡ 1)
    ↔ ((first_fault 0 (request_asked q) ≡ columns) × (is_allowed (request_asked q) (statements_of (document_of x)) ≡ true))
json-judged = JsonBack.judged
