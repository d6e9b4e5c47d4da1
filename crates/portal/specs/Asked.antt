-- What another program hands to `stamenhum_judge` beside the table, the number that it gets for it, and how it reads the question for the
-- judge off a shown gap: off the number that `stamenhum_gap` returns and the value buffer alone.
use Rattle.std.specs.Prelude.{ℕ, ◌*◌, ◌/◌, ◌%◌, ◌^◌, ◌<◌, List, [], ◌∷◌, eqb, length, take, drop}
use Rattle.stored.specs.Choice.{pick}
use Rattle.stored.specs.Entries.{Bytes}
use Rattle.judging.specs.Requests.{Value, request_of}
use Rattle.judging.specs.Judging.{judgement}
use Rattle.comparing.specs.Compared.{value_room}
use Rattle.portal.specs.Codes.{present_of, judgement_code}

-- the strings, the flags of the keys that are there, and the address
pub record Asked : Type 0 where
  pub principal : List ℕ
  pub action : List ℕ
  pub resource : List ℕ
  pub present : ℕ
  pub vpc : List ℕ
  pub prefix : List ℕ
  pub vpce : List ℕ
  pub referer : List ℕ
  pub address : ℕ

-- a string that a program can hand over: bytes, as many as 64 bits can say
pub record ByteString (s : List ℕ) : Type 0 where
  pub bytes : Bytes s
  pub size : length s < 2 ^ 64

-- a program can hand it over: seven such strings and two numbers of 32 bits
pub record CanBeAsked (q : Asked) : Type 0 where
  pub principal : ByteString q.principal
  pub action : ByteString q.action
  pub resource : ByteString q.resource
  pub present : q.present < 2 ^ 32
  pub vpc : ByteString q.vpc
  pub prefix : ByteString q.prefix
  pub vpce : ByteString q.vpce
  pub referer : ByteString q.referer
  pub address : q.address < 2 ^ 32

-- the request that is asked about
abbrev pub request_asked : Asked → List Value
request_asked q =
    request_of
    q.principal
    q.action
    q.resource
    (present_of q.present)
    q.vpc
    q.prefix
    q.vpce
    q.referer
    q.address

-- the number that `stamenhum_judge` returns: its contract's words
abbrev pub judge_returns : List ℕ → Asked → ℕ
judge_returns table q = judgement_code (judgement table (request_asked q))

-- what stands before the first zero
abbrev pub before_zero : List ℕ → List ℕ
before_zero [] = []
before_zero (b ∷ bytes) = pick (eqb b 0) [] (b ∷ before_zero bytes)

-- the string that a column shows: what stands before the first zero of its 512 bytes
abbrev pub shown_string : List ℕ → ℕ → List ℕ
shown_string values column = before_zero (take value_room (drop (column * value_room) values))

-- the question that the number for a shown gap and the value buffer hold
abbrev pub asked_by : ℕ → List ℕ → Asked
asked_by r values =
    record {
      principal = shown_string values 0;
      action = shown_string values 1;
      resource = shown_string values 2;
      present = r / 2 ^ 32;
      vpc = shown_string values 3;
      prefix = shown_string values 4;
      vpce = shown_string values 5;
      referer = shown_string values 6;
      address = r % 2 ^ 32;
    }
