-- The symbols of a value and how bytes are compared, by the reading of its column or operator (RULES 4.1 to 4.3).
use Rattle.std.specs.Prelude.{ℕ, ◌+◌, Bool, true, false, ◌&&◌, List, map, length, ◌==◌, nat_le, slice_index}
pub use Rattle.stored.specs.Choice.{pick}
use Rattle.matching.specs.declared.reading.Reading.{Reading}
use Rattle.matching.specs.declared.reading.Reading.TheVariants as R

-- `*` matches any run of bytes, `?` exactly one byte, every other byte itself
pub data Symbol : Type 0 where
  star : Symbol
  one : Symbol
  byte : ℕ → Symbol

-- the bytes `*` and `?`
abbrev pub star_byte : ℕ
star_byte = 42

abbrev pub one_byte : ℕ
one_byte = 63

-- a byte as a symbol, where wildcards stand for other bytes or are plain bytes
abbrev pub symbol_of : Bool → ℕ → Symbol
symbol_of true b = pick (b == star_byte) star (pick (b == one_byte) one (byte b))
symbol_of false b = byte b

-- `*` alone
abbrev pub is_everyone : List ℕ → Bool
is_everyone value = length value == 1 && slice_index value 0 == star_byte

-- whether `*` and `?` are wildcards in this value: in actions, resources, StringLike and StringNotLike; of a principal only `*` alone
abbrev pub is_wild : Reading → List ℕ → Bool
is_wild R.Fold value = true
is_wild R.Plain value = true
is_wild R.Literal value = false
is_wild R.Principal value = is_everyone value

-- the symbols of a value
abbrev pub symbols : Reading → List ℕ → List Symbol
symbols reading value = map (symbol_of (is_wild reading value)) value

-- an ASCII letter without its case (`A` to `Z` become `a` to `z`), any other byte as it is
abbrev pub fold_byte : ℕ → ℕ
fold_byte b = pick (nat_le 65 b && nat_le b 90) (b + 32) b

-- only actions ignore the case of ASCII letters
abbrev pub ignores_case : Reading → Bool
ignores_case R.Fold = true
ignores_case R.Plain = false
ignores_case R.Literal = false
ignores_case R.Principal = false

-- whether two bytes are the same, without their case or exactly
abbrev pub same_byte : Bool → ℕ → ℕ → Bool
same_byte true a b = fold_byte a == fold_byte b
same_byte false a b = a == b

-- how a reading compares bytes
abbrev pub compare_of : Reading → ℕ → ℕ → Bool
compare_of reading = same_byte (ignores_case reading)
