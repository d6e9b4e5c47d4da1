-- When the symbols of a value match a whole string (RULES 4.1). How two bytes are compared is a parameter.
use Rattle.std.specs.Prelude.{ℕ, Bool, true, false, ◌&&◌, ◌||◌, List, [], ◌∷◌, take}
use Rattle.matching.specs.declared.reading.Reading.{Reading}
use Rattle.matching.specs.Symbols.{Symbol, star, one, byte, symbols, compare_of}

abbrev pub is_empty : List ℕ → Bool
is_empty [] = true
is_empty (b ∷ s) = false

-- some end of the string, the whole string and the empty one among them, passes the test
abbrev pub some_end : (List ℕ → Bool) → List ℕ → Bool
some_end test [] = test []
some_end test (b ∷ s) = test (b ∷ s) || some_end test s

-- the string has a first byte that passes one test, and the rest passes the other
abbrev pub first_and_rest : (ℕ → Bool) → (List ℕ → Bool) → List ℕ → Bool
first_and_rest first rest [] = false
first_and_rest first rest (b ∷ s) = first b && rest s

abbrev pub any_byte : ℕ → Bool
any_byte b = true

-- `*` matches any run of bytes, none included; `?` exactly one byte; every other byte itself
abbrev pub matches : (ℕ → ℕ → Bool) → List Symbol → List ℕ → Bool
matches eq [] = is_empty
matches eq (star ∷ p) = some_end (matches eq p)
matches eq (one ∷ p) = first_and_rest any_byte (matches eq p)
matches eq (byte c ∷ p) = first_and_rest (eq c) (matches eq p)

-- a value, read as its column or operator reads it, matches the whole string
unfoldable pub value_matches : Reading → List ℕ → List ℕ → Bool
value_matches reading value string = matches (compare_of reading) (symbols reading value) string

-- the first j symbols match the whole string: the pair (value, j) is in the string's state
unfoldable pub prefix_matches : (ℕ → ℕ → Bool) → List Symbol → List ℕ → ℕ → Bool
prefix_matches eq p string j = matches eq (take j p) string
