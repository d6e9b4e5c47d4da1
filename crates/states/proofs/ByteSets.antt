-- Sets of bytes as rows of two words: a byte put into one, the next one in it, and which bytes are to be tried.
use Rattle.std.proofs.Common.{ℕ, ◌+◌, ◌-◌, ◌*◌, ◌/◌, ◌%◌, ◌^◌, ◌≤◌, ◌<◌, ◌≡◌, sym, ◌∙◌, ap, ap₂, Bool, false, ◌||◌, List, [], ◌∷◌, ◌⊎◌, inl, inr, arith, eqb, get_or, ne_eqb}
use mathlib.Core.Bool.{or-false}
use lib.Bits.{bit_or}
use lib.Count.{count_trailing_zeros}
use Rattle.matching.specs.Machinery.Rows.{word_bit, row_bit}
use Rattle.matching.proofs.MarkedRows.{row-at}
use Rattle.std.specs.Prelude.{None}
use Rattle.matching.proofs.Rows.{row_zero}
use Rattle.states.specs.Machinery.Bytes.{Adds, SetOf, Lowest, NextBit, NextByte}
use Rattle.states.proofs.Below.{below-or-from}
use Rattle.states.proofs.BitsOfWords.{bit-or, bit-power, bit-left, trailing-here, left-zeros, left-few}
use Rattle.states.proofs.CodeBytes.{eqb_same}

-- a set of two words, bit by bit
pub two-words : (low high : ℕ) (f : ℕ → Bool) → ((k : ℕ) → k < 64 → word_bit low k ≡ f k) → ((k : ℕ) → k < 64 → word_bit high k ≡ f (64 + k))
    → (x : ℕ) → x < 128 → row_bit (low ∷ high ∷ []) x ≡ f x
unfolding row_bit
two-words low high f first second x few = by (below-or-from x 64)
  where
    bit_at : ℕ → ℕ → Bool
    bit_at i k = word_bit (get_or (low ∷ high ∷ []) i 0) k

    by : (x < 64) ⊎ (64 ≤ x) → bit_at (x / 64) (x % 64) ≡ f x
    by (inl less) = ap₂ bit_at {x = x / 64} {y = 0} {u = x % 64} {v = x} (omega arith) (omega arith) ∙ first x less
    by (inr from) =
        ap₂ bit_at {x = x / 64} {y = 1} {u = x % 64} {v = x - 64} (omega arith) (omega arith)
        ∙ second (x - 64) (omega arith)
        ∙ ap f {x = 64 + (x - 64)} {y = x} (omega arith)

-- the bits of its words
pub low_bit : (row : List ℕ) (k : ℕ) → k < 64 → word_bit (get_or row 0 0) k ≡ row_bit row k
low_bit row k low = row-at row 0 k low ∙ ap (row_bit row) {x = 64 * 0 + k} {y = k} (omega arith)

pub high_bit : (row : List ℕ) (k : ℕ) → k < 64 → word_bit (get_or row 1 0) k ≡ row_bit row (64 + k)
high_bit row k low = row-at row 1 k low ∙ ap (row_bit row) {x = 64 * 1 + k} {y = 64 + k} (omega arith)

-- a byte more, by the word that it is in

pub adds-low : (row : List ℕ) (b : ℕ) → b < 64 → Adds row (λ x. eqb x b) (bit_or (get_or row 0 0) (2 ^ (b % 64)) ∷ get_or row 1 0 ∷ [])
adds-low row b few =
    two-words (bit_or (get_or row 0 0) (2 ^ (b % 64))) (get_or row 1 0) (λ x. row_bit row x || eqb x b)
    (λ k low.
    bit-or (get_or row 0 0) (2 ^ (b % 64)) k ∙ ap₂ ◌||◌ (low_bit row k low) (bit-power (b % 64) k ∙ ap (eqb k) {x = b % 64} {y = b} (omega arith)))
    (λ k low. high_bit row k low ∙ sym (or-false (row_bit row (64 + k))) ∙ ap (λ (t : Bool). row_bit row (64 + k) || t) (sym (ne_eqb (64 + k) b (λ w. omega arith))))

pub adds-high : (row : List ℕ) (b : ℕ) → 64 ≤ b → b < 128 → Adds row (λ x. eqb x b) (get_or row 0 0 ∷ bit_or (get_or row 1 0) (2 ^ (b % 64)) ∷ [])
adds-high row b from few =
    two-words (get_or row 0 0) (bit_or (get_or row 1 0) (2 ^ (b % 64))) (λ x. row_bit row x || eqb x b)
    (λ k low. low_bit row k low ∙ sym (or-false (row_bit row k)) ∙ ap (λ (t : Bool). row_bit row k || t) (sym (ne_eqb k b (λ w. omega arith))))
    (λ k low.
    bit-or (get_or row 1 0) (2 ^ (b % 64)) k
    ∙ ap₂ ◌||◌ (high_bit row k low) (bit-power (b % 64) k ∙ eqb_same k (b % 64) (64 + k) b (λ w. omega arith) (λ w. omega arith)))

-- none
pub adds_none : (row : List ℕ) (f : ℕ → Bool) → ((x : ℕ) → x < 128 → f x ≡ false) → Adds row f row
adds_none row f none x few = sym (or-false (row_bit row x)) ∙ ap (λ (t : Bool). row_bit row x || t) (sym (none x few))

-- the same bytes, said otherwise
pub adds-as : (row more : List ℕ) (f g : ℕ → Bool) → Adds row f more → ((x : ℕ) → x < 128 → f x ≡ g x) → Adds row g more
adds-as row more f g adds said x few = adds x few ∙ ap (λ (t : Bool). row_bit row x || t) (said x few)

-- some bytes, then others
pub adds-both : (row more all : List ℕ) (f g h : ℕ → Bool) → Adds row f more → Adds more g all
    → ((x : ℕ) → ((f x ≡ false) × (g x ≡ h x)) ⊎ ((g x ≡ false) × (f x ≡ h x))) → Adds row h all
adds-both row more all f g h one two parts x few =
    two x few ∙ ap (λ (t : Bool). t || g x) (one x few) ∙ by (parts x)
  where
    by : ((f x ≡ false) × (g x ≡ h x)) ⊎ ((g x ≡ false) × (f x ≡ h x)) → ((row_bit row x || f x) || g x) ≡ (row_bit row x || h x)
    by (inl e) = ap₂ (λ (s t : Bool). (row_bit row x || s) || t) e.0 e.1 ∙ ap (λ (t : Bool). t || h x) (or-false (row_bit row x))
    by (inr e) = ap₂ (λ (s t : Bool). (row_bit row x || s) || t) e.1 e.0 ∙ or-false (row_bit row x || h x)

-- what is put into no byte is all that the set has
abbrev pub empty : List ℕ
empty = 0 ∷ 0 ∷ []

pub set-added : (f : ℕ → Bool) (row : List ℕ) → Adds empty f row → SetOf f row
set-added f row adds x few = adds x few ∙ ap (λ (t : Bool). t || f x) (row_zero 2 x)

-- the next bit of a word

pub next-some : (word from : ℕ) → word < 2 ^ 64 → from < 64 → 0 < word / 2 ^ from → Lowest (word_bit word) from 64 (from + count_trailing_zeros 64 (word / 2 ^ from))
next-some word from fits low some =
    let few = left-few word from fits (omega arith) some in
    record {
      low = omega arith;
      high = omega arith;
      between = λ k h l. left-zeros word from k h l;
      here = sym (bit-left word from (count_trailing_zeros 64 (word / 2 ^ from))) ∙ trailing-here 64 (word / 2 ^ from) (omega arith);
    }

-- the next byte of a set

pub next_low : (row : List ℕ) (from r : ℕ) → Lowest (word_bit (get_or row 0 0)) from 64 r → Lowest (row_bit row) from 127 r
next_low row from r next =
    let few = next.high in
    record {
      low = next.low;
      high = omega arith;
      between = λ x h l. sym (low_bit row x (omega arith)) ∙ next.between x h l;
      here = sym (low_bit row r few) ∙ next.here;
    }

-- nothing in the first word
module _ (row : List ℕ) (from : ℕ) (none : (k : ℕ) → from ≤ k → k < 64 → word_bit (get_or row 0 0) k ≡ false) where
  -- nor in the second before some bit
  none-before : (bit : ℕ) → ((k : ℕ) → from - 64 ≤ k → k < bit → word_bit (get_or row 1 0) k ≡ false)
      → (x : ℕ) → from ≤ x → x < 128 → x < 64 + bit → row_bit row x ≡ false
  none-before bit before x h few low = by (below-or-from x 64)
    where
      by : (x < 64) ⊎ (64 ≤ x) → row_bit row x ≡ false
      by (inl less) = sym (low_bit row x less) ∙ none x h less
      by (inr more) =
          ap (row_bit row) {x = x} {y = 64 + (x - 64)} (omega arith)
          ∙ sym (high_bit row (x - 64) (omega arith))
          ∙ before (x - 64) (omega arith) (omega arith)

  pub next_high : (bit : ℕ) → Lowest (word_bit (get_or row 1 0)) (from - 64) 64 bit → 64 + bit < 127 → Lowest (row_bit row) from 127 (64 + bit)
  next_high bit next last =
      let up = next.low in
      record {
        low = omega arith;
        high = last;
        between = λ x h l. none-before bit next.between x h (omega arith) l;
        here = sym (high_bit row bit (omega arith)) ∙ next.here;
      }

  pub next-last : (bit : ℕ) → Lowest (word_bit (get_or row 1 0)) (from - 64) 64 bit → 126 < 64 + bit → NextByte row from None
  next-last bit next last x h l = none-before bit next.between x h (omega arith) (omega arith)

  pub next-none : NextBit (get_or row 1 0) (from - 64) None → NextByte row from None
  next-none next x h l = none-before 64 next x h (omega arith) (omega arith)
