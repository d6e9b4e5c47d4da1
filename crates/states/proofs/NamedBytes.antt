-- The bytes that positions name, bit by bit of a word of a row and word by word.
use Rattle.std.proofs.Common.{ℕ, ◌+◌, ◌-◌, ◌*◌, ◌≤◌, ◌<◌, ◌≡◌, ◌∙◌, ap, true, false, List, ◌⊎◌, inl, inr, arith, get_or}
use Rattle.matching.specs.Machinery.Codes.{takes_byte}
use Rattle.matching.specs.Machinery.Rows.{word_bit, row_bit}
use Rattle.matching.proofs.MarkedRows.{row-at}
use Rattle.states.specs.Machinery.Rows.{codes_at}
use Rattle.states.specs.Machinery.Bytes.{NamesWord, Names}
use Rattle.states.proofs.Below.{below-or-from}

-- a set has all that another has, and the bytes that positions of a word take by name, of those whose bits are not left
pub record NamesBut (words : List ℕ) (from word left : ℕ) (before after : List ℕ) : Type 0 where
  pub kept : (x : ℕ) → x < 128 → row_bit before x ≡ true → row_bit after x ≡ true
  pub names :
      (k x : ℕ) → k < 64 → word_bit word k ≡ true → word_bit left k ≡ false → x < 128 → takes_byte (get_or words (codes_at + from + k) 0) x ≡ true → row_bit after x ≡ true

-- what is left of a word: bits of it, and all that it has from one of them on
pub record LeftOf (word left : ℕ) : Type 0 where
  pub among : (k : ℕ) → k < 64 → word_bit left k ≡ true → word_bit word k ≡ true
  pub passed : (j k : ℕ) → j < 64 → k < 64 → word_bit word j ≡ true → word_bit left j ≡ false → word_bit left k ≡ true → j < k

-- a word more
pub names_more : (words row named more : List ℕ) (i : ℕ) → Names words row (64 * i) named → NamesWord words (i * 64) (get_or row i 0) named more 64
    → Names words row (64 * (i + 1)) more
names_more words row named more i old new p x low set few takes = by (below-or-from p (64 * i))
  where
    by : (p < 64 * i) ⊎ (64 * i ≤ p) → row_bit more x ≡ true
    by (inl before) = new.kept x few (old p x before set few takes)
    by (inr later) =
        new.names (p - 64 * i) x (omega arith)
        (row-at row i (p - 64 * i) (omega arith) ∙ ap (row_bit row) {x = 64 * i + (p - 64 * i)} {y = p} (omega arith) ∙ set)
        few
        (ap (λ (m : ℕ). takes_byte (get_or words m 0) x) {x = codes_at + i * 64 + (p - 64 * i)} {y = codes_at + p} (omega arith) ∙ takes)
