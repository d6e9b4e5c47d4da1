-- Answers as numbers (RULES 9). Below 2 ^ 32 is the answer itself; a refusal is table * 2 ^ 48 + number * 2 ^ 32 + place; a shown gap has
-- bit 63. A policy's refusal is number * 2 ^ 56 + place.
use Rattle.std.specs.Prelude.{ℕ, ◌+◌, ◌*◌, ◌/◌, ◌%◌, ◌^◌, Bool, true, false, eqb, ltb}
use Rattle.stored.specs.Choice.{pick}
use Rattle.judging.specs.Requests.{Present}
use Rattle.judging.specs.Judging.{Judgement, Judgement as J}
use Rattle.comparing.specs.Answers.{Counting, Counting as C, Shape, Showing, Showing as S}
use Rattle.policy.specs.Answers.{JsonAnswer, JsonAnswer as R}

-- bit i of a number
abbrev pub is_set : ℕ → ℕ → Bool
is_set flags i = eqb (flags / 2 ^ i % 2) 1

-- bit i says that the key with code i is there
abbrev pub present_of : ℕ → Present
present_of flags =
    record { vpc = is_set flags 0; prefix = is_set flags 1; vpce = is_set flags 2; referer = is_set flags 3; address = is_set flags 4 }

abbrev pub flag_of : Bool → ℕ → ℕ
flag_of true flag = flag
flag_of false flag = 0

abbrev pub flags_of : Present → ℕ
flags_of p = flag_of p.vpc 1 + flag_of p.prefix 2 + flag_of p.vpce 4 + flag_of p.referer 8 + flag_of p.address 16

-- the number, the table and the place of a refusal (every place is below 2 ^ 32)
abbrev pub refusal_code : ℕ → ℕ → ℕ → ℕ
refusal_code number table place = table * 0x1000000000000 + number * 0x100000000 + place % 0x100000000

-- the place that a refusal's code says
abbrev pub place_in : ℕ → ℕ
place_in code = code % 2 ^ 32

-- the number for no that it says
abbrev pub number_in : ℕ → ℕ
number_in code = code / 2 ^ 32 % 2 ^ 16

-- the table that it says: 1 the first, 2 the second, 0 the comparison itself, or judging
abbrev pub table_in : ℕ → ℕ
table_in code = code / 2 ^ 48

-- 0 NotMentioned, 1 Allowed, 2 DeniedByRule
abbrev pub judgement_code : Judgement → ℕ
judgement_code J.Allowed = 1
judgement_code J.DeniedByRule = 2
judgement_code J.NotMentioned = 0
judgement_code (J.Refused n place) = refusal_code n 0 place

-- the number of gaps
abbrev pub counting_code : Counting → ℕ
counting_code (C.Gaps n) = n
counting_code (C.Refused n table place) = refusal_code n table place

-- 2 ^ 63 + present * 2 ^ 32 + address
abbrev pub shape_code : Shape → ℕ
shape_code shape = 0x8000000000000000 + flags_of shape.present * 0x100000000 + shape.address

abbrev pub showing_code : Showing → ℕ
showing_code (S.Shown shape) = shape_code shape
showing_code (S.Refused n table place) = refusal_code n table place

-- a place as a policy's refusal gives it: 2 ^ 56 - 1 where it is that or more
abbrev pub given_place : ℕ → ℕ
given_place place = pick (ltb place 0xFFFFFFFFFFFFFF) place 0xFFFFFFFFFFFFFF

-- the number and the place of a policy's refusal
abbrev pub json_refusal_code : ℕ → ℕ → ℕ
json_refusal_code number place = number * 0x100000000000000 + given_place place

-- the bytes written
abbrev pub json_code : JsonAnswer → ℕ
json_code (R.Written size) = size
json_code (R.Refused number place) = json_refusal_code number place
