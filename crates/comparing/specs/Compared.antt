-- The answers of the comparison, in the order of RULES 7.3: 14, first table, second table, 10 by column, 11 by column, 12, then the number of
-- gaps; and for a gap asked for: 13, 15, then its values.
use Rattle.std.specs.Prelude.{ℕ, zero, suc, ◌-◌, ◌*◌, ◌<◌, ◌≡◌, Bool, ◌||◌, List, [], ◌∷◌, ◌++◌, ◌⊎◌, ltb, length, take, drop, replicate}
use Rattle.stored.specs.Choice.{pick}
use Rattle.stored.specs.Reading.{reading, ReadAnswer, ReadAnswer as A}
use Rattle.stored.specs.Tables.{Statement}
use Rattle.judging.specs.Requests.{Value, absent, text, number, is_present, columns, column_of, request_of}
use Rattle.judging.specs.Judging.{rows_of}
use Rattle.columns.specs.Values.{values_in}
use Rattle.comparing.specs.Gaps.{Counted, IsGap}
use Rattle.comparing.specs.Columns.{is_wide, Few, TooMany, Footprints}
use Rattle.comparing.specs.Answers.{Counting, Counting as C, Shape, Showing, Showing as S}

-- the words that a workspace has at least, the bytes that a value buffer has at least, the most kinds, the room of a shown value
abbrev pub workspace_words : ℕ
workspace_words = 8192

abbrev pub value_bytes : ℕ
value_bytes = 3584

abbrev pub most_kinds : ℕ
most_kinds = 16777216

abbrev pub value_room : ℕ
value_room = 512

-- the lowest of n columns from a column on for which a test holds, or the column behind them
abbrev pub lowest : (ℕ → Bool) → ℕ → ℕ → ℕ
lowest test column zero = column
lowest test column (suc n) = pick (test column) column (lowest test (suc column) n)

-- the lowest column that refusal 10 is given for
abbrev pub first_wide : List Statement → ℕ
first_wide rows = lowest (is_wide rows) 0 columns

-- the lowest column that refusal 11 is given for
pub record Crowded (rows : List Statement) (column : ℕ) : Type 0 where
  pub low : column < 7
  pub many : TooMany (values_in column rows)
  pub below : (d : ℕ) → d < column → Few (values_in d rows)

-- 11 is given for no column
abbrev pub Uncrowded : List Statement → Type 0
Uncrowded rows = (d : ℕ) → d < 7 → Few (values_in d rows)

-- the numbers of footprints of the eight columns, and their product
abbrev pub CountsFrom : List Statement → List Statement → ℕ → List ℕ → Type 0
CountsFrom first second column [] = column ≡ columns
CountsFrom first second column (n ∷ counts) = Footprints first second column n × CountsFrom first second (suc column) counts

abbrev pub product : List ℕ → ℕ
product [] = 1
product (n ∷ counts) = n * product counts

-- what a question about two tables may answer: `no number table place` is a refusal, and Yes says what an answer is
module _ {R : Type 0} (no : ℕ → ℕ → ℕ → R) (Yes : List Statement → List Statement → R → Type 0) where
  -- 12, then the answer
  abbrev pub FromKinds : List Statement → List Statement → R → Type 0
  FromKinds first second r =
      (counts : List ℕ)
      × CountsFrom first second 0 counts
      × pick (ltb most_kinds (product counts)) (r ≡ no 12 0 0) (Yes first second r)

  -- 11 by column
  abbrev pub FromStates : List Statement → List Statement → R → Type 0
  FromStates first second r =
      ((column : ℕ) × Crowded (first ++ second) column × (r ≡ no 11 0 column))
      ⊎ (Uncrowded (first ++ second) × FromKinds first second r)

  -- 10 by column
  abbrev pub FromWidths : List Statement → List Statement → R → Type 0
  FromWidths first second r =
      pick (ltb (first_wide (first ++ second)) columns)
      (r ≡ no 10 0 (first_wide (first ++ second)))
      (FromStates first second r)

  -- the first table, then the second
  abbrev pub FromTables : ReadAnswer → ReadAnswer → List Statement → List Statement → R → Type 0
  FromTables (A.Refused n place) other first second r = r ≡ no n 1 place
  FromTables (A.Accepted m) (A.Refused n place) first second r = r ≡ no n 2 place
  FromTables (A.Accepted m) (A.Accepted n) first second r = FromWidths first second r

  -- 14 before all
  abbrev pub Answered : Bool → List ℕ → List ℕ → R → Type 0
  Answered short a b r = pick short (r ≡ no 14 0 0) (FromTables (reading a) (reading b) (rows_of a) (rows_of b) r)

-- the number of gaps
abbrev pub IsCount : List Statement → List Statement → Counting → Type 0
IsCount first second r = (n : ℕ) × Counted first second n × (r ≡ C.Gaps n)

-- the comparison of two tables, with a workspace of so many words
abbrev pub Compared : ℕ → List ℕ → List ℕ → Counting → Type 0
Compared room a b r = Answered C.Refused IsCount (ltb room workspace_words) a b r

-- what a column shows
abbrev pub bytes_in : Value → List ℕ
bytes_in absent = []
bytes_in (text s) = s
bytes_in (number n) = []

abbrev pub address_in : Value → ℕ
address_in absent = 0
address_in (text s) = 0
address_in (number n) = n

-- a value in its 512 bytes, the rest zero
abbrev pub padded : List ℕ → List ℕ
padded s = s ++ replicate (value_room - length s) 0

-- the values of n columns, one behind the other
abbrev pub laid : ℕ → List Value → List ℕ
laid zero request = []
laid (suc n) [] = []
laid (suc n) (v ∷ request) = padded (bytes_in v) ++ laid n request

-- the lowest column whose value is over 512 bytes, or the number of columns
abbrev pub first_long : ℕ → List Value → ℕ
first_long column [] = column
first_long column (v ∷ request) = pick (ltb value_room (length (bytes_in v))) column (first_long (suc column) request)

-- the lengths, which keys are there, and the address
abbrev pub shape_of : List Value → Shape
shape_of request =
    record {
      principal = length (bytes_in (column_of request 0));
      action = length (bytes_in (column_of request 1));
      resource = length (bytes_in (column_of request 2));
      vpc = length (bytes_in (column_of request 3));
      prefix = length (bytes_in (column_of request 4));
      vpce = length (bytes_in (column_of request 5));
      referer = length (bytes_in (column_of request 6));
      present =
          record {
            vpc = is_present (column_of request 3);
            prefix = is_present (column_of request 4);
            vpce = is_present (column_of request 5);
            referer = is_present (column_of request 6);
            address = is_present (column_of request 7);
          };
      address = address_in (column_of request 7);
    }

-- a shown string: the first so many bytes of its column's 512
abbrev pub shown_bytes : List ℕ → ℕ → ℕ → List ℕ
shown_bytes values column size = take size (take value_room (drop (column * value_room) values))

-- the request that an answer for a gap and the value buffer show
abbrev pub request_shown : Shape → List ℕ → List Value
request_shown shape values =
    request_of
    (shown_bytes values 0 shape.principal)
    (shown_bytes values 1 shape.action)
    (shown_bytes values 2 shape.resource)
    shape.present
    (shown_bytes values 3 shape.vpc)
    (shown_bytes values 4 shape.prefix)
    (shown_bytes values 5 shape.vpce)
    (shown_bytes values 6 shape.referer)
    shape.address

-- gap k: 15, then its values, laid over the first 3,584 bytes of the buffer
abbrev pub IsShown : ℕ → List ℕ → List Statement → List Statement → Showing × List ℕ → Type 0
IsShown k buffer first second r =
    (request : List Value)
    × IsGap first second k request
    × pick (ltb (first_long 0 request) columns)
    (r ≡ (S.Refused 15 0 (first_long 0 request), buffer))
    (r ≡ (S.Shown (shape_of request), laid 7 request ++ drop value_bytes buffer))

-- 13, then gap k
abbrev pub IsAnswer : ℕ → List ℕ → List Statement → List Statement → Showing × List ℕ → Type 0
IsAnswer k buffer first second r =
    (n : ℕ)
    × Counted first second n
    × pick (ltb k n) (IsShown k buffer first second r) (r ≡ (S.Refused 13 0 0, buffer))

abbrev pub keeps : List ℕ → ℕ → ℕ → ℕ → Showing × List ℕ
keeps buffer n table place = (S.Refused n table place, buffer)

-- the question for gap k, with a workspace of so many words and a value buffer: the answer, and what the buffer then holds
abbrev pub Shown : ℕ → List ℕ → List ℕ → ℕ → List ℕ → Showing × List ℕ → Type 0
Shown room a b k buffer r =
    Answered (keeps buffer) (IsAnswer k buffer) (ltb room workspace_words || ltb (length buffer) value_bytes) a b r

-- what the workspace holds afterwards: zeros, unless the refusal is 14
abbrev pub cleared : Bool → List ℕ → List ℕ
cleared short words = pick short words (replicate (length words) 0)
