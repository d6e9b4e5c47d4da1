-- What one symbol more, or one byte more, asks of a string.
use Rattle.std.specs.Prelude.{ℕ, Bool, false, ◌&&◌, ◌||◌}
use Rattle.matching.specs.Symbols.{Symbol, star, one, byte}

-- what one symbol more asks of the empty string, given the symbols in front of it
abbrev pub symbol_first : Symbol → Bool → Bool
symbol_first star new = new
symbol_first one new = false
symbol_first (byte c) new = false

-- what one symbol more asks of a string that ends in b. `new`: the symbols in front match the string; `before`: they match it
-- without b; `here`: they match it without b with the symbol itself
abbrev pub symbol_step : (ℕ → ℕ → Bool) → ℕ → Symbol → Bool → Bool → Bool → Bool
symbol_step eq b star new before here = new || here
symbol_step eq b one new before here = before
symbol_step eq b (byte c) new before here = before && eq c b
