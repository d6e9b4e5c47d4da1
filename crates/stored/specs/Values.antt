-- What the bytes of a value may be (RULES 7.1, 7 and 8).
use Rattle.std.specs.Prelude.{ℕ, Bool, false, ◌&&◌, ◌||◌, List, [], ◌∷◌, eqb, leb, length, get_or}
use Rattle.stored.specs.Choice.{some, every}

abbrev pub byte_in_range : ℕ → Bool
byte_in_range b = leb 0x21 b && leb b 0x7E

-- every byte lies in 21 to 7E hex
abbrev pub in_range : List ℕ → Bool
in_range bs = every byte_in_range bs

abbrev pub is_wildcard : ℕ → Bool
is_wildcard b = eqb b 0x2A || eqb b 0x3F

-- `*` or `?` stands somewhere
abbrev pub has_wildcard : List ℕ → Bool
has_wildcard bs = some is_wildcard bs

-- `${` stands somewhere
abbrev pub has_variable : List ℕ → Bool
has_variable [] = false
has_variable (b ∷ bs) = (eqb b 0x24 && eqb (get_or bs 0 0) 0x7B) || has_variable bs

-- `*` and nothing else
abbrev pub is_star_alone : List ℕ → Bool
is_star_alone bs = eqb (length bs) 1 && eqb (get_or bs 0 0) 0x2A
