-- Sets of bytes as rows of two words: what is put into them, what is looked for in them, and which bytes are tried from a state.
use Rattle.std.specs.Prelude.{ℕ, ◌+◌, ◌≤◌, ◌<◌, ◌≡◌, Bool, true, false, not, ◌&&◌, ◌||◌, List, ◌⊎◌, Option, None, Some, eqb, get_or}
use Rattle.matching.specs.Machinery.Codes.{takes_byte}
use Rattle.matching.specs.Machinery.Rows.{word_bit, row_bit}
use Rattle.states.specs.Machinery.Rows.{codes_at, IsByte}

-- the bytes of a set and those of which f holds
abbrev pub Adds : List ℕ → (ℕ → Bool) → List ℕ → Type 0
Adds set f r = (x : ℕ) → x < 128 → row_bit r x ≡ (row_bit set x || f x)

-- a set has the bytes of which f holds, and no others
abbrev pub SetOf : (ℕ → Bool) → List ℕ → Type 0
SetOf f r = (x : ℕ) → x < 128 → row_bit r x ≡ f x

-- a set has the bytes that another has not; those that two have both
abbrev pub Others : List ℕ → List ℕ → Type 0
Others set r = (x : ℕ) → x < 128 → row_bit r x ≡ not (row_bit set x)

abbrev pub Common : List ℕ → List ℕ → List ℕ → Type 0
Common one two r = (x : ℕ) → x < 128 → row_bit r x ≡ (row_bit one x && row_bit two x)

-- r is the lowest number from one on, and below a bound, of which f holds
pub record Lowest (f : ℕ → Bool) (from bound r : ℕ) : Type 0 where
  pub low : from ≤ r
  pub high : r < bound
  pub between : (k : ℕ) → from ≤ k → k < r → f k ≡ false
  pub here : f r ≡ true

-- it is the answer, or there is none
abbrev pub Next : (ℕ → Bool) → ℕ → ℕ → Option ℕ → Type 0
Next f from bound None = (k : ℕ) → from ≤ k → k < bound → f k ≡ false
Next f from bound (Some r) = Lowest f from bound r

-- the lowest bit of a word, from one on, that is set
abbrev pub NextBit : ℕ → ℕ → Option ℕ → Type 0
NextBit word from r = Next (word_bit word) from 64 r

-- a word without one of its bits
abbrev pub Without : ℕ → ℕ → ℕ → Type 0
Without word k r = (j : ℕ) → j < 64 → word_bit r j ≡ (word_bit word j && not (eqb j k))

-- the lowest byte of a set, from one on, that is no more than the last byte of strings
abbrev pub NextByte : List ℕ → ℕ → Option ℕ → Type 0
NextByte set from r = Next (row_bit set) from 127 r

-- a byte that is not to be tried follows another; or it is not named, and neither is a smaller one
abbrev pub ToTry : List ℕ → List ℕ → List ℕ → Type 0
ToTry named followers r =
    (x : ℕ) → IsByte x → row_bit r x ≡ false
    → (row_bit followers x ≡ true) ⊎ ((row_bit named x ≡ false) × ((a : ℕ) × IsByte a × (a < x) × (row_bit named a ≡ false)))

-- a set has all that another has, and the bytes that positions of a word take by name, of those below a bound; from: the word's first position
pub record NamesWord (words : List ℕ) (from word : ℕ) (before after : List ℕ) (bound : ℕ) : Type 0 where
  pub kept : (x : ℕ) → x < 128 → row_bit before x ≡ true → row_bit after x ≡ true
  pub names :
      (k x : ℕ) → k < bound → word_bit word k ≡ true → x < 128 → takes_byte (get_or words (codes_at + from + k) 0) x ≡ true → row_bit after x ≡ true

-- a set has the bytes that positions of a row take by name, of those below a bound
abbrev pub Names : List ℕ → List ℕ → ℕ → List ℕ → Type 0
Names words row bound r =
    (p x : ℕ) → p < bound → row_bit row p ≡ true → x < 128 → takes_byte (get_or words (codes_at + p) 0) x ≡ true → row_bit r x ≡ true
