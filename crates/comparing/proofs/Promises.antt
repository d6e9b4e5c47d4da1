-- What comparing promises, in statements that can be read without their proofs. `Compared` and `Shown` are what the two questions may
-- answer: the number of gaps of two tables, and gap k; `judgement` is what the judge answers. A request has eight columns, and its strings
-- may be of any length. `AlikeFrom .. 0` says that every statement of both tables holds alike of two requests, column by column.
use Rattle.std.proofs.Common.{ℕ, ◌≤◌, ◌<◌, ◌≡◌, true, false, ◌||◌, List, [], ◌++◌, ◌↔◌, ltb, length, get_or}
use Rattle.stored.specs.Reading.{reading, ReadAnswer as A}
use Rattle.stored.specs.Tables.{Statement}
use Rattle.matching.specs.State.{state_of}
use Rattle.judging.specs.Requests.{Value, text}
use Rattle.judging.specs.Meaning.{is_allowed}
use Rattle.judging.specs.Judging.{rows_of, judgement, Judgement as J}
use Rattle.columns.specs.Values.{values_in}
use Rattle.comparing.specs.Order.{Earlier, In}
use Rattle.comparing.specs.Requests.{IsRequest}
use Rattle.comparing.specs.Gaps.{footprint, AlikeFrom, Gaps, Counted, IsGap}
use Rattle.comparing.specs.Compared.{workspace_words, value_bytes, most_kinds, Compared, Shown}
use Rattle.comparing.specs.Outcomes.{CountOutcome, order_of_count, GapOutcome, order_of_gap, number_of_count, number_of_gap, Left}
use Rattle.comparing.specs.Means.{CountMeans, ShownMeans, Said, NotRefused}
use Rattle.comparing.specs.Answers.{Counting, Counting as C, Shape, Showing, Showing as S}
use Rattle.comparing.proofs.Requests
use Rattle.comparing.proofs.Means
use Rattle.comparing.proofs.kinds.FewGaps
use Rattle.comparing.proofs.Outcomes
use Rattle.comparing.proofs.compare.WorkspaceLeft
use Rattle.comparing.proofs.OneAnswer
use Rattle.comparing.proofs.SomeAnswer
use Rattle.comparing.proofs.GapList
use Rattle.comparing.proofs.Judged
use Rattle.comparing.proofs.Deciding

-- What a request is: just what the judge can be given (`Said`) and does not refuse with 9 by any table (`NotRefused`).
pub requests-all : (r : List Value) → IsRequest r ↔ (Said r × NotRefused r)
requests-all = Requests.requests-all

-- Demand 3, "the comparison lists every kind of request that the first allows and the second does not, each once, each with a request that
-- shows it, for requests of any length" (RULES 6.4, 6.5). Where it answers n, both byte strings are tables, and there is a list of n
-- requests, in order and no two alike, the one at k gap k, each allowed by the first table and not by the second in the judge's words, so
-- that every request that the judge allows by the first and not by the second is alike to one of them.
pub counted-means : (room : ℕ) (a b : List ℕ) (n : ℕ) → Compared room a b (C.Gaps n) → CountMeans a b n
counted-means = Means.counted-means

-- Demand 3, "the list is empty exactly when there is none": the answer is 0 exactly when every request that the judge allows by the first
-- table it allows by the second.
pub none-means : (room : ℕ) (a b : List ℕ) (n : ℕ) → Compared room a b (C.Gaps n)
    → (n ≡ 0) ↔ ((r : List Value) → IsRequest r → judgement a r ≡ J.Allowed → judgement b r ≡ J.Allowed)
none-means = Means.none-means

-- There are no more gaps than kinds of request: at most 16,777,216.
pub few-gaps : (room : ℕ) (a b : List ℕ) (n : ℕ) → Compared room a b (C.Gaps n) → n ≤ most_kinds
few-gaps = FewGaps.count_low

-- Demand 3, "each with a request that shows it" (RULES 6.5). The request that is read off the answer and the value buffer is gap k, and the
-- judge allows it by the first table and not by the second; no value is longer than 512 bytes, the bytes behind a value are zero, and those
-- from 3,584 on stay as they came.
pub shown-means : (room : ℕ) (a b : List ℕ) (k : ℕ) (buffer : List ℕ) (shape : Shape) (values : List ℕ)
    → Shown room a b k buffer (S.Shown shape, values) → ShownMeans a b k buffer shape values
shown-means = Means.shown-means

-- Demand 3, "refused exactly when a stated count passes its limit or a buffer is short" (RULES 7.3). For every size of the workspace and
-- every two byte strings, the comparison may answer r exactly when a case of `CountOutcome` says so: 14, first table, second table, 10 by
-- column, 11 by column, 12, the number of gaps. Each refusal has a case, with its count, number, table and place.
pub refused-exactly : (room : ℕ) (a b : List ℕ) (r : Counting) → Compared room a b r ↔ CountOutcome room a b r
refused-exactly = Outcomes.compared-exactly

-- Any two cases that hold are one case, with one answer.
pub one-case : (room : ℕ) (a b : List ℕ) (r s : Counting) (x : CountOutcome room a b r) (y : CountOutcome room a b s)
    → (r ≡ s) × (order_of_count x ≡ order_of_count y)
one-case = Outcomes.count-outcome-one

-- The same of the question for gap k, for every value buffer too: 13 stands behind 12, and a refusal leaves the buffer unchanged.
pub refused-exactly-shown : (k : ℕ) (buffer : List ℕ) (room : ℕ) (a b : List ℕ) (r : Showing × List ℕ)
    → Shown room a b k buffer r ↔ GapOutcome room a b k buffer r
refused-exactly-shown = Outcomes.shown-exactly

pub one-case-shown : (k : ℕ) (buffer : List ℕ) (room : ℕ) (a b : List ℕ) (r s : Showing × List ℕ)
    (x : GapOutcome room a b k buffer r) (y : GapOutcome room a b k buffer s)
    → (r ≡ s) × (order_of_gap x ≡ order_of_gap y)
one-case-shown = Outcomes.gap-outcome-one

-- 15, a shown value over 512 bytes, is never given.
pub fifteen-never : (k : ℕ) (buffer : List ℕ) (room : ℕ) (a b : List ℕ) (place : ℕ) (values : List ℕ)
    → Shown room a b k buffer (S.Refused 15 0 place, values) → ⊥
fifteen-never = Outcomes.fifteen-never

-- Demand 1, "what the lent memory then holds is laid down" (RULES 6.6). What the contracts leave in the workspace, `cleared`: after 14 it
-- is as it was, and after any answer and any other refusal all of it is zero.
pub workspace-left : (words a b : List ℕ) (r : Counting) → Compared (length words) a b r
    → Left (ltb (length words) workspace_words) (number_of_count r) words
workspace-left = WorkspaceLeft.workspace-left

pub workspace-left-shown : (k : ℕ) (buffer words a b : List ℕ) (r : Showing × List ℕ) → Shown (length words) a b k buffer r
    → Left (ltb (length words) workspace_words || ltb (length buffer) value_bytes) (number_of_gap r.0) words
workspace-left-shown = WorkspaceLeft.workspace-left-shown

-- Any two outcomes that `Compared` permits are equal, and any two that `Shown` permits, the value buffer included. (What the workspace
-- holds is an equation in the contracts.)
pub one_answer : (room : ℕ) (a b : List ℕ) (r s : Counting) → Compared room a b r → Compared room a b s → r ≡ s
one_answer = OneAnswer.compared-one

pub one-answer-shown : (k : ℕ) (buffer : List ℕ) (room : ℕ) (a b : List ℕ) (r s : Showing × List ℕ)
    → Shown room a b k buffer r → Shown room a b k buffer s → r ≡ s
one-answer-shown = OneAnswer.shown-one

-- Demand 1, "every table, request and lent buffer gets an answer or a numbered refusal": no workspace, no two byte strings, no number and
-- no value buffer are left without an outcome. With `refused-exactly` and `one-case` exactly one case holds for every input.
pub some-answer : (room : ℕ) (a b : List ℕ) → (r : Counting) × Compared room a b r
some-answer = SomeAnswer.some-answer

pub some-answer-shown : (room : ℕ) (a b : List ℕ) (k : ℕ) (buffer : List ℕ) → (r : Showing × List ℕ) × Shown room a b k buffer r
some-answer-shown = SomeAnswer.some-answer-shown

-- What alike means: the judge answers the same for two requests that are alike, by either table, refusals included.
pub alike-judged-alike : (a b : List ℕ) (r s : List Value) → IsRequest r → IsRequest s → AlikeFrom (rows_of a) (rows_of b) 0 r s
    → (judgement a r ≡ judgement a s) × (judgement b r ≡ judgement b s)
alike-judged-alike = Judged.alike-judged-alike

-- Strings with the same state have the same footprint.
pub state-decides : (first second : List Statement) (column : ℕ) (s u : List ℕ)
    → state_of (values_in column (first ++ second)) s ≡ state_of (values_in column (first ++ second)) u
    → footprint first second column (text s) ≡ footprint first second column (text u)
state-decides = Deciding.state-decides

-- The list of gaps itself (`Gaps`; `Counted` says how many there are, `IsGap` which is gap k): it is complete, it has each kind once, each is
-- shown by a request, and it is empty exactly when there is none.
pub gaps-complete : (first second : List Statement) (list : List (List Value)) → Gaps first second list
    → (r : List Value) → IsRequest r → is_allowed r first ≡ true → is_allowed r second ≡ false
    → (s : List Value) × In s list × AlikeFrom first second 0 r s
gaps-complete = GapList.gaps-complete

pub gaps-once : (first second : List Statement) (list : List (List Value)) → Gaps first second list
    → (i j : ℕ) → i < j → j < length list
    → Earlier (get_or list i []) (get_or list j []) × (AlikeFrom first second 0 (get_or list i []) (get_or list j []) → ⊥)
gaps-once = GapList.gaps-once

pub gap-shows : (a b : List ℕ) (m n : ℕ) → reading a ≡ A.Accepted m → reading b ≡ A.Accepted n
    → (k : ℕ) (r : List Value) → IsGap (rows_of a) (rows_of b) k r
    → (judgement a r ≡ J.Allowed) × (judgement b r ≡ J.Allowed → ⊥)
gap-shows = GapList.gap-shows

pub none-exactly : (a b : List ℕ) (m n : ℕ) → reading a ≡ A.Accepted m → reading b ≡ A.Accepted n
    → Counted (rows_of a) (rows_of b) 0 ↔ ((r : List Value) → IsRequest r → judgement a r ≡ J.Allowed → judgement b r ≡ J.Allowed)
none-exactly = GapList.none-judged
