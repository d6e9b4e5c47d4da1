-- The step of a state by sets of positions: which positions a byte leads to, which stand behind a star, and the row by words.
use Rattle.std.specs.Prelude.{ℕ, zero, suc, ◌*◌, Bool, false, ◌&&◌, ◌||◌, List, ◌==◌, nat_lt, slice_index}
use Rattle.matching.specs.Machinery.Codes.{star_code, one_code, takes_byte}
use Rattle.matching.specs.Machinery.Rows.{row_bit, pack}

-- the positions behind a symbol that takes the byte b: `?`, or that byte
abbrev pub taken_bit : List ℕ → ℕ → ℕ → Bool
taken_bit codes b p = slice_index codes p == one_code || takes_byte (slice_index codes p) b

unfoldable pub taken_row : List ℕ → ℕ → List ℕ
taken_row codes b = pack 8 (taken_bit codes b)

-- the positions behind a star
abbrev pub star_bit : List ℕ → ℕ → Bool
star_bit codes p = slice_index codes p == star_code

unfoldable pub star_row : List ℕ → List ℕ
star_row codes = pack 8 (star_bit codes)

-- one byte more, by sets of positions: behind a symbol that takes it from the position in front; a star keeps what it had and takes
-- over what the position in front has now
abbrev pub set_step : (ℕ → Bool) → (ℕ → Bool) → (ℕ → Bool) → ℕ → Bool
set_step taken stars old zero = stars 0 && old 0
set_step taken stars old (suc p) = (taken (suc p) && old p) || (stars (suc p) && (old (suc p) || set_step taken stars old p))

-- the positions of the first words
abbrev pub in_words : ℕ → (ℕ → Bool) → ℕ → Bool
in_words used f p = nat_lt p (64 * used) && f p

-- the row by sets: its first `used` words, the others zero
unfoldable pub words_row : ℕ → List ℕ → List ℕ → List ℕ → List ℕ
words_row used taken stars row = pack 8 (in_words used (set_step (row_bit taken) (row_bit stars) (row_bit row)))

-- one position up, with what stands in front of the first
abbrev pub moved_up : (ℕ → Bool) → Bool → ℕ → Bool
moved_up f before zero = before
moved_up f before (suc k) = f k

-- the positions behind those of a row
unfoldable pub ahead_row : List ℕ → List ℕ
ahead_row row = pack 8 (moved_up (row_bit row) false)

-- in one word: what the byte leads to, and the stars that keep what they had. `before`: the position in front of the word was reached
abbrev pub base_bit : (ℕ → Bool) → (ℕ → Bool) → (ℕ → Bool) → Bool → ℕ → Bool
base_bit taken stars old before k = (moved_up old before k && taken k) || (old k && stars k)

-- in one word: each star takes over what the position in front has now. `before`: the position in front of the word has it
abbrev pub over_bit : (ℕ → Bool) → (ℕ → Bool) → Bool → ℕ → Bool
over_bit base stars before zero = base 0 || (stars 0 && before)
over_bit base stars before (suc k) = base (suc k) || (stars (suc k) && over_bit base stars before k)
