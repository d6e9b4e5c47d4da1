-- What words and texts stand for: the bytes they lay into a room from a place on, and the place behind them.
use Rattle.std.specs.Prelude.{ℕ, zero, suc, ◌+◌, ◌-◌, ◌*◌, ◌%◌, Bool, ◌&&◌, ◌||◌, List, [], ◌∷◌, eqb, leb, ltb, length, get_or, take, drop, set}
use Rattle.stored.specs.Choice.{pick}
use Rattle.cases.specs.Text.{part_of, up_to, is_blank, is_digit, digit_of}

-- what the room holds, and the place behind what was laid down
pub record Laid : Type 0 where
  pub room : List ℕ
  pub to : ℕ

-- nothing is laid down
abbrev pub unlaid : List ℕ → ℕ → Laid
unlaid room at = record { room = room; to = at }

-- a byte, so many times, as far as there is room
abbrev pub byte_laid : ℕ → ℕ → List ℕ → ℕ → Laid
byte_laid zero byte room at = unlaid room at
byte_laid (suc times) byte room at = pick (leb (length room) at) (unlaid room at) (byte_laid times byte (set room at byte) (at + 1))

abbrev pub is_hex_digit : ℕ → Bool
is_hex_digit b = is_digit b || (leb 0x41 b && leb b 0x46)

-- a number with one digit more, unless it has five already; a byte that is no digit is passed over
abbrev pub with_digit : ℕ → ℕ → ℕ
with_digit number byte = pick (ltb number 10000) (pick (is_digit byte) (number * 10 + digit_of byte) number) number

-- the decimal number that bytes continue
abbrev pub number_of : List ℕ → ℕ → ℕ
number_of [] number = number
number_of (b ∷ bs) number = number_of bs (with_digit number b)

-- `61*128` is 128 times, `61` is once
unfoldable pub times_of : List ℕ → ℕ
times_of word = pick (eqb (get_or word 2 0) 0x2A) (number_of (drop 3 word) 0) 1

-- a word in hex: two digits are a byte
unfoldable pub hex_laid : List ℕ → List ℕ → ℕ → Laid
hex_laid word room from =
    pick (is_hex_digit (get_or word 0 0))
    (byte_laid (times_of word) (digit_of (get_or word 0 0) * 16 + digit_of (get_or word 1 0)) room from)
    (unlaid room from)

-- the place behind what stands at a place of a text: one byte, or all up to the closing brace
unfoldable pub sign_behind : List ℕ → ℕ → ℕ
sign_behind text at = pick (eqb (get_or text at 0) 0x7B) (at + up_to 1 0x7D (drop at text)) (at + 1)

-- one byte, or what stands between braces
unfoldable pub sign_laid : List ℕ → List ℕ → ℕ → Laid
sign_laid sign room from =
    pick (eqb (get_or sign 0 0) 0x7B) (hex_laid (part_of sign 1 (length sign)) room from) (byte_laid 1 (get_or sign 0 0) room from)

-- what is laid down behind something
abbrev pub behind : (List ℕ → ℕ → Laid) → Laid → Laid
behind more laid = more laid.room laid.to

-- the signs of a text from a place on up to its first blank, at most as many as the first number says
abbrev pub signs_laid : ℕ → List ℕ → ℕ → List ℕ → ℕ → Laid
signs_laid zero text at room to = unlaid room to
signs_laid (suc fuel) text at room to =
    pick (ltb at (length text))
    (pick (is_blank (get_or text at 0)) (unlaid room to)
    (behind (signs_laid fuel text (sign_behind text at)) (sign_laid (take (sign_behind text at - at) (drop at text)) room to)))
    (unlaid room to)

-- every sign takes a byte at least, so that the text's length is enough
unfoldable pub text_laid : List ℕ → List ℕ → ℕ → Laid
text_laid text room from = signs_laid (length text) text 0 room from

-- the kind of a value whose bytes stand between two places
abbrev pub kind_between : ℕ → ℕ → ℕ
kind_between start end = ((end - start) % 256 + 0x3F) % 256

-- the kind in front of what was laid down behind its place
abbrev pub kind_laid : ℕ → ℕ → Laid → Laid
kind_laid from start laid =
    record { room = (byte_laid 1 (kind_between start laid.to) laid.room from).room; to = laid.to }

-- a text as a value, its kind in front
unfoldable pub value_laid : List ℕ → List ℕ → ℕ → Laid
value_laid text room from = kind_laid from (byte_laid 1 0 room from).to (behind (text_laid text) (byte_laid 1 0 room from))

unfoldable pub word_laid : List ℕ → List ℕ → ℕ → Laid
word_laid word room from =
    pick (eqb (get_or word 0 0) 0x3D) (value_laid (part_of word 1 (length word)) room from) (hex_laid word room from)

-- the place behind the word at a place
abbrev pub word_behind : List ℕ → ℕ → ℕ
word_behind words at = at + up_to 1 0x20 (drop at words)

-- the words from a place on, at most as many as the first number says
abbrev pub words_from : ℕ → List ℕ → ℕ → List ℕ → ℕ → Laid
words_from zero words at room to = unlaid room to
words_from (suc fuel) words at room to =
    pick (ltb at (length words))
    (behind (words_from fuel words (word_behind words at)) (word_laid (take (word_behind words at - at) (drop at words)) room to))
    (unlaid room to)

-- every word takes a byte at least, so that their length is enough
unfoldable pub words_laid : List ℕ → List ℕ → Laid
words_laid words room = words_from (length words) words 0 room 0
