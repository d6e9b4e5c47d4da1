-- The step by words is the step by codes; and bytes that lead to the same positions make the same step.
use Rattle.std.proofs.Common.{◌≡◌, ℕ, zero, suc, ◌+◌, ◌*◌, ◌<◌, ◌≤◌, Bool, true, false, ◌&&◌, ◌||◌, eqb, ltb, List, length, get_or, sym, refl, ap, ◌∙◌, ap₂, arith, ltb-false, ltb-true, eqb-true}
use Rattle.std.proofs.Math.Bool.{and_comm, or_comm, or-false, false≢true}
use Rattle.matching.specs.Symbols.{pick, fold_byte}
use Rattle.matching.specs.Machinery.Codes.{star_code, one_code, takes_byte}
use Rattle.matching.specs.Machinery.Rows.{positions, cell_step, step_bit, row_bit, step_row}
use Rattle.matching.specs.Machinery.Words.{taken_bit, taken_row, star_bit, star_row, set_step, in_words, words_row}
use Rattle.matching.proofs.Rows.{row-bit, row_same, upto-below, upto-past}
use Rattle.matching.proofs.Sweeps.{cell-outside}

-- only the code of a byte takes a byte
takes-large : (code b : ℕ) → takes_byte code b ≡ true → 4 ≤ code
takes-large code b = by (eqb code (b * 2 + 4)) (eqb code (fold_byte b * 2 + 5)) refl refl
  where
    by : (x y : Bool) → eqb code (b * 2 + 4) ≡ x → eqb code (fold_byte b * 2 + 5) ≡ y → (x || y) ≡ true → 4 ≤ code
    by true y ex ey e = omega (arith, eqb-true code (b * 2 + 4) ex)
    by false true ex ey e = omega (arith, eqb-true code (fold_byte b * 2 + 5) ey)
    by false false ex ey e = absurd (false≢true e)

-- what a code asks, said of the two sets
cell-by-sets : (code b : ℕ) (new before here : Bool)
    → ((eqb code one_code || takes_byte code b) && before || eqb code star_code && (here || new)) ≡ cell_step false b code new before here
cell-by-sets code b new before here = by (eqb code 1) (eqb code 2) (eqb code 3) (takes_byte code b) refl refl refl refl
  where
    by : (a s o t : Bool) → eqb code 1 ≡ a → eqb code 2 ≡ s → eqb code 3 ≡ o → takes_byte code b ≡ t
        → ((o || t) && before || s && (here || new)) ≡ pick a false (pick s (new || here) (pick o before (before && t)))
    by true true o t ea es eo et = absurd (omega (arith, eqb-true code 1 ea, eqb-true code 2 es))
    by true false true t ea es eo et = absurd (omega (arith, eqb-true code 1 ea, eqb-true code 3 eo))
    by true false false true ea es eo et = absurd (omega (arith, eqb-true code 1 ea, takes-large code b et))
    by true false false false ea es eo et = refl
    by false true true t ea es eo et = absurd (omega (arith, eqb-true code 2 es, eqb-true code 3 eo))
    by false true false true ea es eo et = absurd (omega (arith, eqb-true code 2 es, takes-large code b et))
    by false true false false ea es eo et = or_comm here new
    by false false true t ea es eo et = or-false before
    by false false false t ea es eo et = or-false (t && before) ∙ and_comm t before

module _ (codes : List ℕ) (b : ℕ) (taken stars old : ℕ → Bool)
    (takes : (p : ℕ) → p < positions → taken p ≡ taken_bit codes b p) (starred : (p : ℕ) → p < positions → stars p ≡ star_bit codes p) where
  set-cell : (p : ℕ) → p < positions → set_step taken stars old p ≡ step_bit codes b old p
  set-cell zero h =
      ap (λ (s : Bool). s && old 0) (starred 0 h)
      ∙ first (taken_bit codes b 0) (star_bit codes 0) (old 0)
      ∙ cell-by-sets (get_or codes 0 0) b false false (old 0)
    where
      first : (t s here : Bool) → (s && here) ≡ (t && false || s && (here || false))
      first true true here = sym (or-false here)
      first true false here = refl
      first false true here = sym (or-false here)
      first false false here = refl
  set-cell (suc p) h =
      ap₂ (λ (t s : Bool). t && old p || s && (old (suc p) || set_step taken stars old p)) (takes (suc p) h) (starred (suc p) h)
      ∙ ap (λ (new : Bool). taken_bit codes b (suc p) && old p || star_bit codes (suc p) && (old (suc p) || new)) (set-cell p (omega arith))
      ∙ cell-by-sets (get_or codes (suc p) 0) b (step_bit codes b old p) (old p) (old (suc p))

-- enough words for all codes: the step by words is the step
pub step-by-words : (codes row : List ℕ) (b used : ℕ) → used ≤ 8 → length codes ≤ 64 * used
    → words_row used (taken_row codes b) (star_row codes) row ≡ step_row codes b row
unfolding words_row taken_row star_row step_row
step-by-words codes row b used few enough =
    row_same 8 (in_words used (set_step (row_bit (taken_row codes b)) (row_bit (star_row codes)) (row_bit row))) (step_bit codes b (row_bit row))
    (λ p h. by p h (ltb p (64 * used)) refl)
  where
    by : (p : ℕ) → p < positions → (t : Bool) → ltb p (64 * used) ≡ t
        → in_words used (set_step (row_bit (taken_row codes b)) (row_bit (star_row codes)) (row_bit row)) p ≡ step_bit codes b (row_bit row) p
    by p h true e =
        upto-below (64 * used) p (set_step (row_bit (taken_row codes b)) (row_bit (star_row codes)) (row_bit row)) (ltb-true p (64 * used) e)
        ∙ set-cell codes b (row_bit (taken_row codes b)) (row_bit (star_row codes)) (row_bit row)
        (λ q l. row-bit 8 q (taken_bit codes b) l) (λ q l. row-bit 8 q (star_bit codes) l) p h
    by p h false e =
        let past : 64 * used ≤ p = ltb-false p (64 * used) e in
        upto-past (64 * used) p (set_step (row_bit (taken_row codes b)) (row_bit (star_row codes)) (row_bit row)) past
        ∙ sym (cell-outside false b codes (row_bit row) p (omega arith))

-- bytes that lead to the same positions make the same step
pub same_taken : (codes row : List ℕ) (b c : ℕ) → length codes ≤ positions → taken_row codes b ≡ taken_row codes c → step_row codes b row ≡ step_row codes c row
same_taken codes row b c few same =
    sym (step-by-words codes row b 8 (omega arith) (omega arith))
    ∙ ap (λ (taken : List ℕ). words_row 8 taken (star_row codes) row) same
    ∙ step-by-words codes row c 8 (omega arith) (omega arith)
