-- Gap k's footprints are laid column by column: those before a column are in place and the others 0, as they are behind a column that
-- has no footprint.
use Rattle.std.proofs.Common.{ℕ, zero, suc, ◌+◌, ◌-◌, ◌<◌, ◌≡◌, refl, sym, ◌∙◌, ap, subst, Bool, List, [], ◌∷◌, ◌++◌, append_assoc, mod-eq_of_lt, add-one, arith, bit_and, length, get_or, take, drop, set, replicate, take-append-drop, length-set, pow_pos, drop-drop, drop-set-lt, take-suc-set, le-ltb}
use Rattle.std.specs.Int.Bits.{and_zero_l, and_zero_r}
use Rattle.stored.specs.Choice.{pick}
use Rattle.comparing.specs.Machinery.Kinds.{count_of, steps_to, left_of, step_of, prints_along, prints_from, prints_in}
use Rattle.comparing.specs.declared.sides.Sides.{Sides}
use Rattle.comparing.specs.declared.kinds.Step.{Step}
use Rattle.comparing.proofs.kinds.GapRows.{shortcut}
use Rattle.comparing.proofs.kinds.KindsInWords.{along-on, step_in}

-- the footprints of the columns before a column are laid, and the others are still 0
pub record Laid (whole prints rest : List ℕ) (column : ℕ) : Type 0 where
  pub size : length prints ≡ 8
  pub zeros : drop column prints ≡ replicate (8 - column) 0
  pub joined : take column prints ++ rest ≡ whole

-- one more
pub laid_on : {whole prints old rest : List ℕ} {v column : ℕ} → column < 8 → Laid whole prints old column → old ≡ v ∷ rest
    → Laid whole (set prints column v) rest (column + 1)
laid_on {whole} {prints} {rest = rest} {v = v} {column = column} low laid e =
    subst (λ (n : ℕ). Laid whole (set prints column v) rest n) (sym (add-one column))
    (record {
      size = length-set prints column v ∙ laid.size;
      zeros =
          drop-set-lt (suc column) prints column v (omega arith)
          ∙ ap (λ (n : ℕ). drop n prints) one_more
          ∙ sym (drop-drop 1 column prints)
          ∙ ap (drop 1) laid.zeros
          ∙ ap (λ (n : ℕ). drop 1 (replicate n 0)) one_less;
      joined =
          ap (λ (l : List ℕ). l ++ rest) (take-suc-set prints column v (omega (arith, laid.size)))
          ∙ append_assoc (take column prints) (v ∷ []) rest
          ∙ sym (ap (λ (l : List ℕ). take column prints ++ l) e)
          ∙ laid.joined;
    })
  where
    one_more : suc column ≡ column + 1
    one_more = omega arith

    one_less : 8 - column ≡ suc (8 - suc column)
    one_less = omega arith

-- where the others are 0, all are laid
pub laid_done : {whole prints rest : List ℕ} {column : ℕ} → Laid whole prints rest column → rest ≡ replicate (8 - column) 0 → prints ≡ whole
laid_done {prints = prints} {column = column} laid e =
    sym (take-append-drop column prints)
    ∙ ap (λ (l : List ℕ). take column prints ++ l) (laid.zeros ∙ sym e)
    ∙ laid.joined

-- without gaps no footprint is found, and k is left as it is
no_step : (f : ℕ → ℕ) → ((x : ℕ) → f x ≡ 0) → (l : List ℕ) (k : ℕ) → step_in f k l ≡ record { print = 0; left = k }
no_step f none [] k = refl
no_step f none (x ∷ l) k =
    ap by (le-ltb k (f x) (omega (arith, none x))) ∙ ap (λ (n : ℕ). step_in f n l) same ∙ no_step f none l k
  where
    by : Bool → Step
    by t = record { print = get_or (x ∷ l) (pick t 0 (suc (steps_to f l (k - f x)))) 0; left = pick t k (left_of f l (k - f x)) }

    same : k - f x ≡ k
    same = omega (arith, none x)

-- so where no rows are left all footprints are 0
no_rows : (sides : Sides) (lists : List (List ℕ)) (k : ℕ) → prints_along sides lists 0 k ≡ replicate (length lists) 0
no_rows sides [] k = refl
no_rows sides (prints ∷ lists) k =
    ap (λ (step : Step). step.print ∷ prints_along sides lists (bit_and 0 step.print) step.left)
    (no_step (λ (f : ℕ). count_of sides lists (bit_and 0 f)) none prints k)
    ∙ ap (λ (l : List ℕ). 0 ∷ l) (no_rows sides lists k)
  where
    none : (f : ℕ) → count_of sides lists (bit_and 0 f) ≡ 0
    none f =
        ap (count_of sides lists) (and_zero_l f)
        ∙ shortcut sides lists 0
        (ap (λ (n : ℕ). bit_and n sides.allow) (mod-eq_of_lt (pow_pos sides.size)) ∙ and_zero_l sides.allow)

module _ (sides : Sides) (words bounds : List ℕ) (column rows k : ℕ) where
  -- from a column on in which gap k does not lie all are 0
  pub along-none : column < 8 → (step_of sides (prints_in words bounds column) rows k).print ≡ 0
      → prints_along sides (prints_in words bounds column) rows k ≡ replicate (8 - column) 0
  along-none low e =
      along-on words bounds column low sides rows k (step_of sides (prints_in words bounds column) rows k) refl
      ∙ ap (λ (n : ℕ). n ∷ prints_along sides behind (bit_and rows n) left) e
      ∙ ap (λ (n : ℕ). 0 ∷ prints_along sides behind n left) (and_zero_r rows)
      ∙ ap (λ (l : List ℕ). 0 ∷ l) (no_rows sides behind left ∙ ap (λ (n : ℕ). replicate n 0) (many (8 - (column + 1)) (column + 1)))
      ∙ ap (λ (n : ℕ). replicate n 0) one_less
    where
      behind : List (List ℕ)
      behind = prints_in words bounds (column + 1)

      left : ℕ
      left = (step_of sides (prints_in words bounds column) rows k).left

      one_less : suc (8 - (column + 1)) ≡ 8 - column
      one_less = omega arith

      many : (n c : ℕ) → length (prints_from n words bounds c) ≡ n
      many zero c = refl
      many (suc n) c = ap suc (many n (suc c))
