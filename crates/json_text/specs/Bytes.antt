-- Classes of bytes: those that the grammar of JSON (RFC 8259) and of UTF-8 (RFC 3629) speak of.
use Rattle.std.specs.Prelude.{ℕ, ◌+◌, ◌%◌, Bool, not, ◌&&◌, ◌||◌, eqb, leb}
use Rattle.json_text.specs.Choice.{pick}

-- from low to high, both among them
abbrev pub within : ℕ → ℕ → ℕ → Bool
within low high b = leb low b && leb b high

-- space, tab, line feed, carriage return (RFC 8259, section 2: ws)
abbrev pub is_blank : ℕ → Bool
is_blank b = eqb b 0x20 || (eqb b 0x09 || (eqb b 0x0A || eqb b 0x0D))

-- 0 to 9
abbrev pub is_digit : ℕ → Bool
is_digit b = within 0x30 0x39 b

-- 0 to 9, A to F, a to f
abbrev pub is_hex : ℕ → Bool
is_hex b = is_digit b || (within 0x41 0x46 b || within 0x61 0x66 b)

-- e, E (RFC 8259, section 6)
abbrev pub is_exponent : ℕ → Bool
is_exponent b = eqb b 0x65 || eqb b 0x45

-- + and -
abbrev pub is_sign : ℕ → Bool
is_sign b = eqb b 0x2B || eqb b 0x2D

-- quote, backslash and slash, which stand for themselves behind a backslash (RFC 8259, section 7). Of the other letters that it has
-- there, u is a code's, and b f n r t are not taken.
abbrev pub is_simple : ℕ → Bool
is_simple b = eqb b 0x22 || (eqb b 0x5C || eqb b 0x2F)

-- a character of one byte that stands for itself: 20 to 7F without quote and backslash (RFC 8259, section 7: unescaped)
abbrev pub is_plain : ℕ → Bool
is_plain b = within 0x20 0x7F b && (not (eqb b 0x22) && not (eqb b 0x5C))

-- a byte behind the first of a character of several (RFC 3629, section 4: UTF8-tail)
abbrev pub is_tail : ℕ → Bool
is_tail b = within 0x80 0xBF b

-- the number that a hex digit stands for
abbrev pub hex_of : ℕ → ℕ
hex_of b = pick (leb b 0x39) (b % 16) ((b % 16 + 9) % 16)
