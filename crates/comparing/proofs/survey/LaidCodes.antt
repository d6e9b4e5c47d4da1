-- The codes of two tables' values laid down in the workspace, one behind the other: they are the codes of both, and the footprints stay.
use Rattle.std.proofs.Common.{ℕ, ◌+◌, ◌≤◌, ◌≡◌, refl, sym, ap, ap₂, ◌∙◌, List, ◌++◌, arith, length, take, drop, length-append, length-drop, take_at, drop_at, drop-drop, length-take-le}
use Rattle.std.proofs.Math.Seq.{sets, sets-eq, length-sets, take-append-le}
use Rattle.stored.specs.Tables.{Statement}
use Rattle.matching.specs.Machinery.Codes.{codes_of}
use Rattle.states.specs.Machinery.Rows.{prints_at, codes_at, taken_at, codes_laid}
use Rattle.columns.specs.Values.{values_in, sum_of}
use Rattle.columns.specs.Machinery.Both.{Narrow}
use Rattle.columns.proofs.Widths.{codes-sum, sum_both}
use Rattle.columns.proofs.StateWalk.{codes-both}

-- the workspace with other words in the place of the codes
abbrev pub with_codes : List ℕ → List ℕ → List ℕ
with_codes words part = take codes_at words ++ (part ++ drop 512 (drop codes_at words))

pub part_length : (words : List ℕ) → prints_at ≤ length words → length (take 512 (drop codes_at words)) ≡ 512
part_length words room = length-take-le 512 (drop codes_at words) (omega (arith, length-drop codes_at words))

module _ (words part : List ℕ) (room : prints_at ≤ length words) (size : length part ≡ 512) where
  pub with-length : length (with_codes words part) ≡ length words
  with-length =
      length-append (take codes_at words) (part ++ drop 512 (drop codes_at words))
      ∙ ap₂ ◌+◌ (length-take-le codes_at words (omega arith)) (length-append part (drop 512 (drop codes_at words)))
      ∙ omega (arith, length-drop codes_at words, length-drop 512 (drop codes_at words))

  pub from-codes : drop codes_at (with_codes words part) ≡ part ++ drop 512 (drop codes_at words)
  from-codes = drop_at (take codes_at words) (part ++ drop 512 (drop codes_at words)) codes_at (length-take-le codes_at words (omega arith))

  pub from-taken : drop taken_at (with_codes words part) ≡ drop taken_at words
  from-taken =
      sym (drop-drop 512 codes_at (with_codes words part))
      ∙ ap (drop 512) from-codes
      ∙ drop_at part (drop 512 (drop codes_at words)) 512 size
      ∙ drop-drop 512 codes_at words

-- two lists laid down one behind the other
laid-twice : (part one two : List ℕ) → length one + length two ≤ length part
    → take (length one + length two) (sets (sets part 0 one) (length one) two) ≡ one ++ two
laid-twice part one two room =
    ap (take (length one + length two))
    (sets-eq two (sets part 0 one) (length one) (omega (arith, length-sets part 0 one))
    ∙ ap (λ (l : List ℕ). (l ++ two) ++ drop (length one + length two) (sets part 0 one)) front)
    ∙ take_at (one ++ two) (drop (length one + length two) (sets part 0 one)) (length one + length two) (length-append one two)
  where
    front : take (length one) (sets part 0 one) ≡ one
    front =
        ap (take (length one)) (sets-eq one part 0 (omega arith))
        ∙ take_at one (drop (0 + length one) part) (length one) refl

module _ (words : List ℕ) (room : prints_at ≤ length words) where
  pub codes-both-laid : (column : ℕ) (first second : List Statement) → Narrow (first ++ second) column
      → (one two : List ℕ) (own positions : ℕ) → own ≡ 0 + sum_of (values_in column first)
      → one ≡ sets (take 512 (drop codes_at words)) 0 (codes_of (values_in column first))
      → positions ≡ own + sum_of (values_in column second)
      → two ≡ sets (take 512 (drop codes_at (with_codes words one))) own (codes_of (values_in column second))
      → codes_laid positions (with_codes (with_codes words one) two) ≡ codes_of (values_in column (first ++ second))
  codes-both-laid column first second narrow one two own positions mine is_one all is-two =
      ap (take positions) (from-codes (with_codes words one) two long size-two)
      ∙ take-append-le positions two (drop 512 (drop codes_at (with_codes words one))) (omega (arith, sums, size-two))
      ∙ ap₂ take {x = positions} {y = length a + length b} (omega (arith, codes-sum (values_in column first), codes-sum (values_in column second))) laid
      ∙ laid-twice (take 512 (drop codes_at words)) a b
      (omega (arith, part_length words room, sums, codes-sum (values_in column first), codes-sum (values_in column second)))
      ∙ sym (codes-both column first second)
    where
      a : List ℕ
      a = codes_of (values_in column first)

      b : List ℕ
      b = codes_of (values_in column second)

      sums : sum_of (values_in column (first ++ second)) ≡ sum_of (values_in column first) + sum_of (values_in column second)
      sums = sum_both column first second

      size-one : length one ≡ 512
      size-one = ap length is_one ∙ length-sets (take 512 (drop codes_at words)) 0 a ∙ part_length words room

      long : prints_at ≤ length (with_codes words one)
      long = omega (arith, with-length words one room size-one)

      size-two : length two ≡ 512
      size-two = ap length is-two ∙ length-sets (take 512 (drop codes_at (with_codes words one))) own b ∙ part_length (with_codes words one) long

      here : take 512 (drop codes_at (with_codes words one)) ≡ one
      here = ap (take 512) (from-codes words one room size-one) ∙ take_at one (drop 512 (drop codes_at words)) 512 size-one

      laid : two ≡ sets (sets (take 512 (drop codes_at words)) 0 a) (length a) b
      laid =
          is-two
          ∙ ap₂ (λ (n : ℕ) (l : List ℕ). sets l n b) {x = own} {y = length a} (omega (arith, codes-sum (values_in column first))) (here ∙ is_one)

  pub prints-stay : (one two laid after : List ℕ) → length one ≡ 512 → length two ≡ 512
      → drop prints_at laid ≡ drop prints_at (with_codes (with_codes words one) two) → drop codes_at after ≡ drop codes_at laid
      → drop prints_at after ≡ drop prints_at words
  prints-stay one two laid after size-one size-two kept same =
      sym (drop-drop 1368 codes_at after)
      ∙ ap (drop 1368) same
      ∙ drop-drop 1368 codes_at laid
      ∙ kept
      ∙ sym (drop-drop 856 taken_at (with_codes (with_codes words one) two))
      ∙ ap (drop 856)
      (from-taken (with_codes words one) two (omega (arith, with-length words one room size-one)) size-two
      ∙ from-taken words one room size-one)
      ∙ drop-drop 856 taken_at words
