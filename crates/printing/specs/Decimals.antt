-- Numbers in decimal.
use Rattle.std.specs.Prelude.{ℕ, zero, suc, ◌+◌, ◌/◌, ◌%◌, List, [], ◌∷◌, ◌++◌, ltb}
use Rattle.json_text.specs.Choice.{pick}

-- the byte of a digit
abbrev pub digit : ℕ → ℕ
digit d = 48 + d

-- a number in decimal with no zero in front, as long as it has no more digits than the first number says
abbrev pub decimal_digits : ℕ → ℕ → List ℕ
decimal_digits zero n = []
decimal_digits (suc most) n = pick (ltb n 10) (digit n ∷ []) (decimal_digits most (n / 10) ++ (digit (n % 10) ∷ []))

-- a number in decimal: every number below 2^64 has at most 20 digits
unfoldable pub decimal_of : ℕ → List ℕ
decimal_of n = decimal_digits 20 n
