-- The cases that a question about two tables can fall in, in the order in which they are tried (RULES 7.3): 14, first table, second table,
-- 10 by column, 11 by column, 12, then the answer; to the question for a gap that is 13, or its values. Each case says what it is given
-- for, and that none of those before it is. (15 is no case: it is never given.)
use Rattle.std.specs.Prelude.{ℕ, ◌≤◌, ◌<◌, ◌≡◌, Bool, true, false, List, ◌++◌, ◌⊎◌, length, drop, replicate}
use Rattle.stored.specs.Reading.{reading, ReadAnswer as A}
use Rattle.stored.specs.Tables.{Statement}
use Rattle.judging.specs.Requests.{Value, columns}
use Rattle.judging.specs.Judging.{rows_of}
use Rattle.comparing.specs.Gaps.{Counted, IsGap}
use Rattle.comparing.specs.Columns.{is_wide}
use Rattle.comparing.specs.Compared.{workspace_words, value_bytes, most_kinds, Crowded, Uncrowded, CountsFrom, product, IsCount, laid, shape_of, keeps, cleared}
use Rattle.comparing.specs.Answers.{Counting, Counting as C, Showing, Showing as S}

-- a byte string is a table: the reader accepts it
abbrev pub IsTable : List ℕ → Type 0
IsTable t = (n : ℕ) × (reading t ≡ A.Accepted n)

-- the lowest column that refusal 10 is given for
pub record Wide (rows : List Statement) (column : ℕ) : Type 0 where
  pub low : column < columns
  pub wide : is_wide rows column ≡ true
  pub below : (d : ℕ) → d < column → is_wide rows d ≡ false

-- 10 is given for no column
abbrev pub NoneWide : List Statement → Type 0
NoneWide rows = (d : ℕ) → d < columns → is_wide rows d ≡ false

-- the lent memory is long enough, and both byte strings are tables
pub record Comparable (Short : Type 0) (a b : List ℕ) : Type 0 where
  pub long : Short → ⊥
  pub first : IsTable a
  pub second : IsTable b

-- 10 and 11 are given for no column, and the eight columns have these numbers of footprints
pub record WithinColumns (first second : List Statement) (counts : List ℕ) : Type 0 where
  pub narrow : NoneWide (first ++ second)
  pub few : Uncrowded (first ++ second)
  pub footprints : CountsFrom first second 0 counts

-- `Short` says that a lent buffer is too short, `no number table place` is a refusal, and `Answer` says what the answer is to two tables
-- that no refusal up to 12 is given for
pub data Outcome {R : Type 0} (Short : Type 0) (no : ℕ → ℕ → ℕ → R) (Answer : List Statement → List Statement → R → Type 0) (a b : List ℕ) (r : R) : Type 0 where
  -- 14: a lent buffer is too short
  short : Short → r ≡ no 14 0 0 → Outcome Short no Answer a b r
  -- the first table is refused as the reader refuses it
  first_table : (Short → ⊥) → (n place : ℕ) → reading a ≡ A.Refused n place → r ≡ no n 1 place → Outcome Short no Answer a b r
  -- the first is a table, and the second is refused
  second_table : (Short → ⊥) → IsTable a → (n place : ℕ) → reading b ≡ A.Refused n place → r ≡ no n 2 place → Outcome Short no Answer a b r
  -- 10: the sum of (length plus 1) over both tables above 512; column 7: over 128 networks; the lowest such column
  wide : Comparable Short a b → (c : ℕ) → Wide (rows_of a ++ rows_of b) c → r ≡ no 10 0 c → Outcome Short no Answer a b r
  -- 11: over 512 different states among all strings, the empty one included; the lowest such column
  crowded : Comparable Short a b → NoneWide (rows_of a ++ rows_of b) → (c : ℕ) → Crowded (rows_of a ++ rows_of b) c → r ≡ no 11 0 c
      → Outcome Short no Answer a b r
  -- 12: the product of the eight numbers of footprints above 16,777,216
  many_kinds : Comparable Short a b → (counts : List ℕ) → WithinColumns (rows_of a) (rows_of b) counts → most_kinds < product counts → r ≡ no 12 0 0
      → Outcome Short no Answer a b r
  -- the answer
  answered : Comparable Short a b → (counts : List ℕ) → WithinColumns (rows_of a) (rows_of b) counts → product counts ≤ most_kinds
      → Answer (rows_of a) (rows_of b) r → Outcome Short no Answer a b r

-- the place of a case in the order, given the place of its answer
abbrev pub order_of : {R Short : Type 0} {no : ℕ → ℕ → ℕ → R} {Answer : List Statement → List Statement → R → Type 0} {a b : List ℕ} {r : R}
    → (Answer (rows_of a) (rows_of b) r → ℕ) → Outcome Short no Answer a b r → ℕ
order_of last (short s e) = 0
order_of last (first_table l n place f e) = 1
order_of last (second_table l t n place f e) = 2
order_of last (wide t c w e) = 3
order_of last (crowded t none c k e) = 4
order_of last (many_kinds t counts p over e) = 5
order_of last (answered t counts p within answer) = last answer

-- the cases of the comparison, with a workspace of so many words; its answer is the number of gaps
abbrev pub CountOutcome : ℕ → List ℕ → List ℕ → Counting → Type 0
CountOutcome room a b r = Outcome (room < workspace_words) C.Refused IsCount a b r

-- their places
abbrev pub order_of_count : {room : ℕ} {a b : List ℕ} {r : Counting} → CountOutcome room a b r → ℕ
order_of_count x = order_of (λ is. 7) x

-- the answers to the question for gap k, with the value buffer behind them
pub data GapAnswer (k : ℕ) (buffer : List ℕ) (first second : List Statement) (r : Showing × List ℕ) : Type 0 where
  -- 13: k is not below the number of gaps
  behind : (n : ℕ) → Counted first second n → n ≤ k → r ≡ keeps buffer 13 0 0 → GapAnswer k buffer first second r
  -- the values of gap k, laid over the first 3,584 bytes
  shows : (n : ℕ) → Counted first second n → k < n → (request : List Value) → IsGap first second k request
      → r ≡ (S.Shown (shape_of request), laid 7 request ++ drop value_bytes buffer) → GapAnswer k buffer first second r

-- the cases of the question for gap k, with a workspace of so many words and a value buffer
abbrev pub GapOutcome : ℕ → List ℕ → List ℕ → ℕ → List ℕ → Showing × List ℕ → Type 0
GapOutcome room a b k buffer r =
    Outcome ((room < workspace_words) ⊎ (length buffer < value_bytes)) (keeps buffer) (GapAnswer k buffer) a b r

-- their places
abbrev pub order_of_answer : {k : ℕ} {buffer : List ℕ} {first second : List Statement} {r : Showing × List ℕ} → GapAnswer k buffer first second r → ℕ
order_of_answer (behind n counted high e) = 6
order_of_answer (shows n counted low request gap e) = 7

abbrev pub order_of_gap : {room : ℕ} {a b : List ℕ} {k : ℕ} {buffer : List ℕ} {r : Showing × List ℕ} → GapOutcome room a b k buffer r → ℕ
order_of_gap x = order_of order_of_answer x

-- the number of a refusal, 0 where there is none
abbrev pub number_of_count : Counting → ℕ
number_of_count (C.Gaps n) = 0
number_of_count (C.Refused n table place) = n

abbrev pub number_of_gap : Showing → ℕ
number_of_gap (S.Shown shape) = 0
number_of_gap (S.Refused n table place) = n

-- what a question leaves in the workspace: as it was on 14, and else all zero
abbrev pub Left : Bool → ℕ → List ℕ → Type 0
Left too_short number words =
    ((number ≡ 14) × (cleared too_short words ≡ words)) ⊎ ((number ≡ 14 → ⊥) × (cleared too_short words ≡ replicate (length words) 0))
