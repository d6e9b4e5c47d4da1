-- The words of the workspace that a column is explored in, below 5,976: 512 rows of eight words, the key of each row, the codes of the
-- column's positions, a row of the positions that take each byte, one of those behind stars, and the set of those bytes that follow a
-- smaller one, which is taken by the same positions.
use Rattle.std.specs.Prelude.{ℕ, ◌+◌, ◌*◌, ◌^◌, ◌≤◌, ◌<◌, Bool, true, false, List, get_or, take, drop}

-- each word has 64 bits
abbrev pub WordsFit : List ℕ → Type 0
WordsFit words = (k : ℕ) → get_or words k 0 < 2 ^ 64

-- the room for rows, and where keys and codes begin
abbrev pub most_states : ℕ
most_states = 512

abbrev pub keys_at : ℕ
keys_at = 4096

abbrev pub codes_at : ℕ
codes_at = 4608

-- row i
abbrev pub row_at : List ℕ → ℕ → List ℕ
row_at words i = take 8 (drop (i * 8) words)

-- the key of row i
abbrev pub key_at : List ℕ → ℕ → ℕ
key_at words i = get_or words (keys_at + i) 0

-- the codes of a column's positions
abbrev pub codes_laid : ℕ → List ℕ → List ℕ
codes_laid positions words = take positions (drop codes_at words)

-- the bytes of strings
abbrev pub IsByte : ℕ → Type 0
IsByte b = (0x21 ≤ b) × (b ≤ 0x7E)

-- an answer that says whether P
abbrev pub Tells : Bool → Type 0 → Type 0
Tells true P = P
Tells false P = P → ⊥

-- where the rows of the bytes begin, the row of the stars, and the set of the bytes that follow others, and where that ends
abbrev pub taken_at : ℕ
taken_at = 5120

abbrev pub stars_at : ℕ
stars_at = 5872

abbrev pub followers_at : ℕ
followers_at = 5880

abbrev pub followers_end : ℕ
followers_end = 5882

-- the row of a byte, the first byte's being number 640, and the row of the stars
abbrev pub taken_laid : List ℕ → ℕ → List ℕ
taken_laid words b = row_at words (607 + b)

abbrev pub stars_laid : List ℕ → List ℕ
stars_laid words = row_at words 734

-- the bytes that follow others
abbrev pub followers_laid : List ℕ → List ℕ
followers_laid words = take 2 (drop followers_at words)

-- where the footprints of all columns begin
abbrev pub prints_at : ℕ
prints_at = 5976
