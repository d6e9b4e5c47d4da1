-- The codes of the positions of a column. A position stands in front of a value's symbols or behind one of them; its code says what
-- the step to it asks of a byte. Code 0 says that no position is here.
use Rattle.std.specs.Prelude.{ℕ, ◌+◌, ◌*◌, Bool, true, false, ◌||◌, List, [], ◌∷◌, ◌++◌, map, ◌==◌}
use Rattle.matching.specs.declared.reading.Reading.{Reading}
use Rattle.matching.specs.Symbols.{Symbol, star, one, byte, symbols, fold_byte, ignores_case}

-- the start of a value
abbrev pub start_code : ℕ
start_code = 1

-- behind `*`
abbrev pub star_code : ℕ
star_code = 2

-- behind `?`
abbrev pub one_code : ℕ
one_code = 3

-- behind a byte: odd from 5 where it is compared without its case, even from 4 where it is compared exactly
abbrev pub byte_code : Bool → ℕ → ℕ
byte_code true b = fold_byte b * 2 + 5
byte_code false b = b * 2 + 4

-- the code of the position behind a symbol
abbrev pub symbol_code : Bool → Symbol → ℕ
symbol_code fold star = star_code
symbol_code fold one = one_code
symbol_code fold (byte b) = byte_code fold b

-- the codes behind the symbols of a value
abbrev pub symbol_codes : Reading → List ℕ → List ℕ
symbol_codes reading value = map (symbol_code (ignores_case reading)) (symbols reading value)

-- the codes of a value: its start, then one behind each symbol
abbrev pub value_codes : Reading → List ℕ → List ℕ
value_codes reading value = start_code ∷ symbol_codes reading value

-- the codes of a list of values, laid behind each other
abbrev pub codes_of : List (Reading × List ℕ) → List ℕ
codes_of [] = []
codes_of (v ∷ vs) = value_codes v.0 v.1 ++ codes_of vs

-- whether the byte b leads to a position behind a byte
abbrev pub takes_byte : ℕ → ℕ → Bool
takes_byte code b = code == byte_code false b || code == byte_code true b

-- whether it leads to a position behind a symbol that is no star
abbrev pub takes_symbol : ℕ → ℕ → Bool
takes_symbol code b = code == one_code || takes_byte code b
