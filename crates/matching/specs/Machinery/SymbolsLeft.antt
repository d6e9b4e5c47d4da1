-- The symbols of a value that are left to be read.
use Rattle.std.specs.Prelude.{ℕ, Bool, List, map}
use Rattle.matching.specs.declared.symbols.Symbols.{Symbols}
use Rattle.matching.specs.Symbols.{Symbol, symbol_of, same_byte}
use Rattle.matching.specs.Matches.{matches}
use Rattle.matching.specs.Machinery.Codes.{symbol_code}

-- the codes behind all symbols that are left
unfoldable pub symbols_left : Symbols → List ℕ
symbols_left s = map (λ b. symbol_code s.fold (symbol_of s.wild b)) s.bytes.now

-- those symbols themselves
unfoldable pub symbols_ahead : Symbols → List Symbol
symbols_ahead s = map (symbol_of s.wild) s.bytes.now

-- they match the whole string
unfoldable pub left_matches : Symbols → List ℕ → Bool
left_matches s string = matches (same_byte s.fold) (symbols_ahead s) string
