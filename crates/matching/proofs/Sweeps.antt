-- Going over the codes of a column once, from the lowest position on, marks exactly the positions that the string reaches.
use Rattle.std.proofs.Common.{◌≡◌, ℕ, zero, suc, ◌+◌, ◌*◌, ◌<◌, ◌≤◌, Bool, true, false, ◌&&◌, ◌||◌, ltb, List, [], ◌∷◌, length, get_or, take, replicate, sym, refl, ap, ◌∙◌, ap₂, add-zero, zero-add, add-one, arith, length-take, take_all, get_or-take, ltb-false, ltb-true, ne_eqb}
use Rattle.std.proofs.Math.Path.{fun_ext}
use Rattle.std.proofs.Math.Bool.{and-false}
use Rattle.std.proofs.Math.ListN.{get_or-eq_default}
use Rattle.matching.specs.Symbols.{fold_byte}
use Rattle.matching.specs.Machinery.Rows.{positions, cell_step, cell_bit, nowhere, row_bit, pack, mark_row, cell_row, first_row, step_row}
use Rattle.matching.proofs.Rows.{upto, upto-below, upto-past, row_same, row-mark, row-none, row_zero}

-- the codes that are left, the row so far, the next position, and the neighbour's bits, new and old
abbrev pub sweep : Bool → ℕ → (ℕ → Bool) → List ℕ → List ℕ → ℕ → Bool → Bool → List ℕ
sweep begins b old [] next p new before = next
sweep begins b old (code ∷ codes) next p new before =
    sweep begins b old codes (mark_row next p (cell_step begins b code new before (old p))) (suc p) (cell_step begins b code new before (old p)) (old p)

abbrev prior : (ℕ → Bool) → ℕ → Bool
prior f zero = false
prior f (suc p) = f p

outside : (begins : Bool) (b : ℕ) (new before here : Bool) → cell_step begins b 0 new before here ≡ false
outside begins b new before here =
    ap (λ (t : Bool). before && t)
    (ap₂ ◌||◌ (ne_eqb 0 (b * 2 + 4) (λ w. omega arith)) (ne_eqb 0 (fold_byte b * 2 + 5) (λ w. omega arith)))
    ∙ and-false before

module _ (begins : Bool) (b : ℕ) (codes : List ℕ) (old : ℕ → Bool) where
  cell-next : (p : ℕ) → cell_step begins b (get_or codes p 0) (prior (cell_bit begins b codes old) p) (prior old p) (old p) ≡ cell_bit begins b codes old p
  cell-next zero = refl
  cell-next (suc p) = refl

  sweep-bits : (rest : List ℕ) (p : ℕ) → ((i : ℕ) → i < length rest → get_or rest i 0 ≡ get_or codes (p + i) 0) → p + length rest ≤ positions
      → sweep begins b old rest (pack 8 (upto p (cell_bit begins b codes old))) p (prior (cell_bit begins b codes old) p) (prior old p)
      ≡ pack 8 (upto (p + length rest) (cell_bit begins b codes old))
  sweep-bits [] p same few = ap (λ (n : ℕ). pack 8 (upto n (cell_bit begins b codes old))) (sym (add-zero p))
  sweep-bits (code ∷ rest) p same few =
      ap (λ (bit : Bool). sweep begins b old rest (mark_row (pack 8 (upto p (cell_bit begins b codes old))) p bit) (suc p) bit (old p))
      (ap (λ (n : ℕ). cell_step begins b n (prior (cell_bit begins b codes old) p) (prior old p) (old p)) (same 0 (omega arith) ∙ ap (λ (n : ℕ). get_or codes n 0) (add-zero p))
      ∙ cell-next p)
      ∙ ap (λ (row : List ℕ). sweep begins b old rest row (suc p) (cell_bit begins b codes old p) (old p)) (row-mark 8 p (cell_bit begins b codes old) (omega arith))
      ∙ sweep-bits rest (suc p) (λ i h. same (suc i) (omega arith) ∙ ap (λ (n : ℕ). get_or codes n 0) {x = p + suc i} {y = suc p + i} (omega arith)) (omega arith)
      ∙ ap (λ (n : ℕ). pack 8 (upto n (cell_bit begins b codes old))) {x = suc p + length rest} {y = p + suc (length rest)} (omega arith)

  -- no string reaches a position that is not there
  pub cell-outside : (p : ℕ) → length codes ≤ p → cell_bit begins b codes old p ≡ false
  cell-outside zero h = ap (λ (code : ℕ). cell_step begins b code false false (old 0)) (get_or-eq_default codes 0 h) ∙ outside begins b false false (old 0)
  cell-outside (suc p) h =
      ap (λ (code : ℕ). cell_step begins b code (cell_bit begins b codes old p) (old p) (old (suc p))) (get_or-eq_default codes 0 h)
      ∙ outside begins b (cell_bit begins b codes old p) (old p) (old (suc p))

  whole : pack 8 (upto (length (take positions codes)) (cell_bit begins b codes old)) ≡ pack 8 (cell_bit begins b codes old)
  whole = row_same 8 (upto (length (take positions codes)) (cell_bit begins b codes old)) (cell_bit begins b codes old) (λ q h. by q h (ltb q (length (take positions codes))) refl)
    where
      by : (q : ℕ) → q < positions → (t : Bool) → ltb q (length (take positions codes)) ≡ t → upto (length (take positions codes)) (cell_bit begins b codes old) q ≡ cell_bit begins b codes old q
      by q h true e = upto-below (length (take positions codes)) q (cell_bit begins b codes old) (ltb-true q (length (take positions codes)) e)
      by q h false e =
          let past : length (take positions codes) ≤ q = ltb-false q (length (take positions codes)) e in
          upto-past (length (take positions codes)) q (cell_bit begins b codes old) past
          ∙ sym (cell-outside q (omega (arith, length-take positions codes)))

  sweep-all : sweep begins b old (take positions codes) (replicate 8 0) 0 false false ≡ pack 8 (cell_bit begins b codes old)
  sweep-all =
      ap (λ (row : List ℕ). sweep begins b old (take positions codes) row 0 false false)
      (sym (row-none 8 (upto 0 (cell_bit begins b codes old)) (λ q. upto-past 0 q (cell_bit begins b codes old) (omega arith))))
      ∙ sweep-bits (take positions codes) 0
      (λ i h. get_or-take positions codes i 0 (omega (arith, length-take positions codes)) ∙ ap (λ (n : ℕ). get_or codes n 0) (sym (zero-add i)))
      (omega (arith, length-take positions codes))
      ∙ ap (λ (n : ℕ). pack 8 (upto n (cell_bit begins b codes old))) (zero-add (length (take positions codes)))
      ∙ whole

-- a sweep over the first 512 codes makes the row
pub sweep-row : (begins : Bool) (b : ℕ) (codes row : List ℕ) → sweep begins b (row_bit row) (take positions codes) (replicate 8 0) 0 false false ≡ cell_row begins b codes row
unfolding cell_row
sweep-row begins b codes row = sweep-all begins b codes (row_bit row)

pub sweep-few : (begins : Bool) (b : ℕ) (codes row : List ℕ) → length codes ≤ positions → sweep begins b (row_bit row) codes (replicate 8 0) 0 false false ≡ cell_row begins b codes row
sweep-few begins b codes row few =
    ap (λ (l : List ℕ). sweep begins b (row_bit row) l (replicate 8 0) 0 false false) (sym (take_all positions codes few)) ∙ sweep-row begins b codes row

-- from no position it makes the row of the empty string
pub sweep-first : (codes : List ℕ) → sweep true 0 nowhere (take positions codes) (replicate 8 0) 0 false false ≡ first_row codes
unfolding first_row
sweep-first codes = sweep-all true 0 codes nowhere

-- the rows of the empty string and of one byte more
pub first-cells : (codes : List ℕ) → cell_row true 0 codes (replicate 8 0) ≡ first_row codes
unfolding cell_row first_row
first-cells codes = ap (λ (old : ℕ → Bool). pack 8 (cell_bit true 0 codes old)) (fun_ext (λ (p : ℕ). row_zero 8 p))

pub step-cells : (codes : List ℕ) (b : ℕ) (row : List ℕ) → cell_row false b codes row ≡ step_row codes b row
unfolding cell_row step_row
step-cells codes b row = refl

-- one turn of a sweep, as the code makes it
pub sweep-next : (begins : Bool) (b : ℕ) (old : ℕ → Bool) (codes : List ℕ) (code : ℕ) (rest next : List ℕ) (p : ℕ) (new before : Bool)
    (marked : List ℕ) (reached here : Bool)
    → codes ≡ code ∷ rest → here ≡ old p → reached ≡ cell_step begins b code new before here → marked ≡ mark_row next p reached
    → sweep begins b old rest marked (p + 1) reached here ≡ sweep begins b old codes next p new before
sweep-next begins b old codes code rest next p new before marked reached here split was is row =
    ap (λ (n : ℕ). sweep begins b old rest marked n reached here) (add-one p)
    ∙ ap (λ (t : Bool). sweep begins b old rest marked (suc p) reached t) was
    ∙ ap (λ (m : List ℕ). sweep begins b old rest m (suc p) reached (old p)) row
    ∙ ap (λ (t : Bool). sweep begins b old rest (mark_row next p t) (suc p) t (old p)) (is ∙ ap (cell_step begins b code new before) was)
    ∙ sym (ap (λ (l : List ℕ). sweep begins b old l next p new before) split)
