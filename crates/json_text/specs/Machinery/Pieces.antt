-- The bytes of a string, its escapes read, one after the other from the byte behind its opening quote.
use Rattle.std.specs.Prelude.{Option, Some, None}
use Rattle.std.specs.Prelude.{ℕ, zero, suc, ◌+◌, ◌*◌, ◌%◌, List, [], ◌∷◌, eqb, length, get_or, drop}
use Rattle.json_text.specs.Choice.{pick}
use Rattle.json_text.specs.Bytes.{hex_of}
use Rattle.json_text.specs.declared.pieces.Piece.{Piece}
use Rattle.json_text.specs.declared.pieces.StringBytes.{StringBytes}

-- a byte, and how many bytes of the text it takes
abbrev pub piece : ℕ → ℕ → Piece
piece b n = record { byte = b; wide = n }

-- behind a backslash: u with four digits, the first two zero and the third below 8; or a byte that stands for itself
abbrev pub escape_of : List ℕ → Option Piece
escape_of s =
    pick (eqb (get_or s 1 0) 0x75) (Some (piece (get_or s 4 0 % 8 * 16 + hex_of (get_or s 5 0)) 6)) (Some (piece (get_or s 1 0) 2))

-- the end of the bytes closes a string too
abbrev pub piece_of : List ℕ → Option Piece
piece_of [] = None
piece_of (a ∷ s) = pick (eqb a 0x22) None (pick (eqb a 0x5C) (escape_of (a ∷ s)) (Some (piece a 1)))

abbrev pub after_piece : (List ℕ → List ℕ) → List ℕ → Option Piece → List ℕ
after_piece go s None = []
after_piece go s (Some x) = x.byte ∷ go (drop x.wide s)

-- the bytes of the string that begins here, at most so many
abbrev pub content : ℕ → List ℕ → List ℕ
content zero s = []
content (suc fuel) s = after_piece (content fuel) s (piece_of s)

unfoldable pub content_of : List ℕ → List ℕ
content_of s = content (length s) s

-- the bytes that an iterator over a string has still to give
unfoldable pub bytes_left : StringBytes → List ℕ
bytes_left iterator = content_of iterator.rest.now
