-- The machine inside a number: where one byte leads. A number ends before the byte that is none of it.
use Rattle.std.specs.Prelude.{ℕ, Bool, true, false, eqb}
use Rattle.json_text.specs.Choice.{pick}
use Rattle.json_text.specs.Bytes.{within, is_digit, is_exponent, is_sign}
use Rattle.json_text.specs.declared.numbers.Numeral.{Numeral}
use Rattle.json_text.specs.declared.numbers.Numeral.TheVariants as N
use Rattle.json_text.specs.declared.numbers.Counted.{Counted}
use Rattle.json_text.specs.declared.numbers.Counted.TheVariants as C

abbrev pub counted_if : Bool → Numeral → Counted
counted_if good next = pick good (C.Goes next) C.Fails

abbrev pub minus_step : ℕ → Counted
minus_step b = pick (eqb b 0x30) (C.Goes N.Zero) (counted_if (within 0x31 0x39 b) N.Whole)

abbrev pub tail_step : ℕ → Counted
tail_step b = pick (eqb b 0x2E) (C.Goes N.Point) (pick (is_exponent b) (C.Goes N.Exponent) C.Ends)

abbrev pub whole_step : ℕ → Counted
whole_step b = pick (is_digit b) (C.Goes N.Whole) (tail_step b)

abbrev pub part_step : ℕ → Counted
part_step b = pick (is_digit b) (C.Goes N.Part) (pick (is_exponent b) (C.Goes N.Exponent) C.Ends)

abbrev pub exponent_step : ℕ → Counted
exponent_step b = pick (is_sign b) (C.Goes N.Sign) (counted_if (is_digit b) N.Power)

abbrev pub power_step : ℕ → Counted
power_step b = pick (is_digit b) (C.Goes N.Power) C.Ends

abbrev pub numeral_step : Numeral → ℕ → Counted
numeral_step N.Minus b = minus_step b
numeral_step N.Zero b = tail_step b
numeral_step N.Whole b = whole_step b
numeral_step N.Point b = counted_if (is_digit b) N.Part
numeral_step N.Part b = part_step b
numeral_step N.Exponent b = exponent_step b
numeral_step N.Sign b = counted_if (is_digit b) N.Power
numeral_step N.Power b = power_step b

abbrev pub can_end : Numeral → Bool
can_end N.Minus = false
can_end N.Zero = true
can_end N.Whole = true
can_end N.Point = false
can_end N.Part = true
can_end N.Exponent = false
can_end N.Sign = false
can_end N.Power = true
