-- What the answers of the comparison mean, in the judge's words and for requests of any length: what `Promises` shows of a number of gaps
-- and of a gap that is shown; and what a request is, in the judge's words too.
use Rattle.std.specs.Prelude.{ℕ, ◌^◌, ◌≤◌, ◌<◌, ◌≡◌, List, [], length, get_or, take, drop}
use Rattle.stored.specs.Entries.{Bytes}
use Rattle.judging.specs.Requests.{Value, column_of, request_of, Present}
use Rattle.judging.specs.Judging.{rows_of, judgement, Judgement as J}
use Rattle.comparing.specs.Order.{Earlier, In, Ascending}
use Rattle.comparing.specs.Requests.{Each, IsRequest}
use Rattle.comparing.specs.Gaps.{AlikeFrom, FirstOf, IsGap}
use Rattle.comparing.specs.Compared.{value_bytes, value_room, bytes_in, laid, shape_of, request_shown}
use Rattle.comparing.specs.Outcomes.{IsTable}
use Rattle.comparing.specs.Answers.{Shape}

-- two byte strings are tables that have n gaps
pub record CountMeans (a b : List ℕ) (n : ℕ) : Type 0 where
  -- both are tables
  pub first : IsTable a
  pub second : IsTable b
  -- there is a list of n requests
  pub list : List (List Value)
  pub size : length list ≡ n
  pub requests : (r : List Value) → In r list → IsRequest r
  -- the judge allows each by the first table, and does not by the second
  pub allowed : (r : List Value) → In r list → judgement a r ≡ J.Allowed
  pub missed : (r : List Value) → In r list → judgement b r ≡ J.Allowed → ⊥
  -- each has in every column the first value with its footprint
  pub firsts : (r : List Value) → In r list → Each (FirstOf (rows_of a) (rows_of b)) 0 r
  -- in order, by column 0, then 1, and so on to 7; the one at k is gap k
  pub order : Ascending Earlier list
  pub numbered : (k : ℕ) → k < length list → IsGap (rows_of a) (rows_of b) k (get_or list k [])
  -- no two are alike
  pub apart : (i j : ℕ) → i < j → j < length list → AlikeFrom (rows_of a) (rows_of b) 0 (get_or list i []) (get_or list j []) → ⊥
  -- every request that the judge allows by the first table and not by the second is alike to one of them
  pub complete :
      (r : List Value) → IsRequest r → judgement a r ≡ J.Allowed → (judgement b r ≡ J.Allowed → ⊥)
      → (s : List Value) × In s list × AlikeFrom (rows_of a) (rows_of b) 0 r s

-- a shape and the value buffer show gap k of two tables; `buffer` is what was lent
pub record ShownMeans (a b : List ℕ) (k : ℕ) (buffer : List ℕ) (shape : Shape) (values : List ℕ) : Type 0 where
  -- both are tables
  pub first : IsTable a
  pub second : IsTable b
  -- what is shown is a request, and it is gap k
  pub request : IsRequest (request_shown shape values)
  pub gap : IsGap (rows_of a) (rows_of b) k (request_shown shape values)
  -- the judge allows it by the first table, and does not by the second
  pub allowed : judgement a (request_shown shape values) ≡ J.Allowed
  pub missed : judgement b (request_shown shape values) ≡ J.Allowed → ⊥
  -- the lengths are those of its strings, and none is longer than 512 bytes
  pub lengths : shape ≡ shape_of (request_shown shape values)
  pub short : (column : ℕ) → length (bytes_in (column_of (request_shown shape values) column)) ≤ value_room
  -- the first 3,584 bytes are its values, the rest of them zero, and bytes from 3,584 on stay as they came
  pub laid_down : take value_bytes values ≡ laid 7 (request_shown shape values)
  pub kept : drop value_bytes values ≡ drop value_bytes buffer
  pub size : length values ≡ length buffer

-- the judge can be given it: byte strings for the columns that hold strings, which keys are there, and an address of 32 bits
pub record Said (r : List Value) : Type 0 where
  pub principal : List ℕ
  pub action : List ℕ
  pub resource : List ℕ
  pub present : Present
  pub vpc : List ℕ
  pub prefix : List ℕ
  pub vpce : List ℕ
  pub referer : List ℕ
  pub address : ℕ
  pub bytes :
      Bytes principal × Bytes action × Bytes resource × Bytes vpc × Bytes prefix × Bytes vpce × Bytes referer
  pub small : address < 2 ^ 32
  pub is : r ≡ request_of principal action resource present vpc prefix vpce referer address

-- by no table does the judge refuse it with 9
abbrev pub NotRefused : List Value → Type 0
NotRefused r = (t : List ℕ) → IsTable t → (c : ℕ) → judgement t r ≡ J.Refused 9 c → ⊥
