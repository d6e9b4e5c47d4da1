-- A state as a row of eight words: bit p says whether the string reaches position p, given the codes of the positions.
use Rattle.std.specs.Prelude.{ℕ, zero, suc, ◌+◌, ◌*◌, ◌/◌, ◌%◌, ◌^◌, Bool, true, false, ◌&&◌, ◌||◌, List, [], ◌∷◌, ◌++◌, ◌==◌, bit_or, slice_index, slice_set}
use Rattle.matching.specs.Symbols.{pick}
use Rattle.matching.specs.Machinery.Codes.{start_code, star_code, one_code, takes_byte}

-- the positions of a row: eight words of 64 bits
abbrev pub positions : ℕ
positions = 512

-- Whether the string reaches the position with this code. `begins`: the string is empty, else b is its last byte and the string
-- without it is the old one. `new`: the string reaches the position in front; `before`: the old string did; `here`: the old string
-- reached this position.
abbrev pub cell_step : Bool → ℕ → ℕ → Bool → Bool → Bool → Bool
cell_step begins b code new before here =
    pick (code == start_code) begins (pick (code == star_code) (new || here) (pick (code == one_code) before (before && takes_byte code b)))

-- the same at every position, from the lowest on
abbrev pub cell_bit : Bool → ℕ → List ℕ → (ℕ → Bool) → ℕ → Bool
cell_bit begins b codes old zero = cell_step begins b (slice_index codes 0) false false (old 0)
cell_bit begins b codes old (suc p) =
    cell_step begins b (slice_index codes (suc p)) (cell_bit begins b codes old p) (old p) (old (suc p))

abbrev pub nowhere : ℕ → Bool
nowhere p = false

-- the positions that the empty string reaches
abbrev pub first_bit : List ℕ → ℕ → Bool
first_bit codes = cell_bit true 0 codes nowhere

-- the positions that a string reaches, given its last byte and those that it reached without it
abbrev pub step_bit : List ℕ → ℕ → (ℕ → Bool) → ℕ → Bool
step_bit codes b old = cell_bit false b codes old

-- bit k of a word
abbrev pub word_bit : ℕ → ℕ → Bool
word_bit word k = word / 2 ^ k % 2 == 1

-- bit p of a row
unfoldable pub row_bit : List ℕ → ℕ → Bool
row_bit row p = word_bit (slice_index row (p / 64)) (p % 64)

abbrev pub bit_number : Bool → ℕ
bit_number true = 1
bit_number false = 0

-- the word whose bits below k are f
unfoldable pub pack_word : ℕ → (ℕ → Bool) → ℕ
pack_word zero f = 0
pack_word (suc k) f = pack_word k (λ i. f (suc i)) * 2 + bit_number (f 0)

-- the n words whose bits are f
unfoldable pub pack : ℕ → (ℕ → Bool) → List ℕ
pack zero f = []
pack (suc n) f = pack_word 64 f ∷ pack n (λ p. f (64 + p))

-- a row with position p marked, or as it is
unfoldable pub mark_row : List ℕ → ℕ → Bool → List ℕ
mark_row row p true = slice_set row (p / 64) (bit_or (slice_index row (p / 64)) (2 ^ (p % 64)))
mark_row row p false = row

-- the row that a string reaches, given the row of the string without its last byte
unfoldable pub cell_row : Bool → ℕ → List ℕ → List ℕ → List ℕ
cell_row begins b codes row = pack 8 (cell_bit begins b codes (row_bit row))

-- the row of the empty string
unfoldable pub first_row : List ℕ → List ℕ
first_row codes = pack 8 (first_bit codes)

-- the row of a string, given its last byte and the row of the string without it
unfoldable pub step_row : List ℕ → ℕ → List ℕ → List ℕ
step_row codes b row = pack 8 (step_bit codes b (row_bit row))

-- the row after the bytes of a string, from a row on
abbrev pub row_after : List ℕ → List ℕ → List ℕ → List ℕ
row_after codes row [] = row
row_after codes row (b ∷ s) = row_after codes (step_row codes b row) s

-- the row of a string
unfoldable pub row_of : List ℕ → List ℕ → List ℕ
row_of codes s = row_after codes (first_row codes) s

-- a string that is given last byte first
abbrev pub forward : List ℕ → List ℕ
forward [] = []
forward (b ∷ r) = forward r ++ (b ∷ [])

-- the row of a string that is given last byte first
abbrev pub row_backward : List ℕ → List ℕ → List ℕ
row_backward codes [] = first_row codes
row_backward codes (b ∷ r) = step_row codes b (row_backward codes r)
