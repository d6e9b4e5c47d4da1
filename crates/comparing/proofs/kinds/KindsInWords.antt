-- The footprints of the columns as they stand in the workspace: what a loop over a column has left to count, and to search, is a sum over the
-- column's footprints from one on.
use Rattle.std.proofs.Common.{ℕ, zero, suc, ◌+◌, ◌-◌, ◌*◌, ◌≤◌, ◌<◌, ◌≡◌, sym, ◌∙◌, ap, subst, Bool, List, [], ◌∷◌, map, add-one, arith, bit_and, length, get_or, drop, length-drop, drop-cons, lt-ltb, le-ltb}
use Rattle.std.proofs.Math.Nat.{le_trans, suc-mul}
use Rattle.std.proofs.Math.ListN.{drop_of_length-le}
use Rattle.std.proofs.Math.Seq.{length-take-le}
use Rattle.stored.specs.Choice.{pick}
use Rattle.states.specs.Machinery.Rows.{prints_at}
use Rattle.comparing.specs.Compared.{product, most_kinds}
use Rattle.comparing.specs.Machinery.Kinds.{total, count_of, steps_to, left_of, step_of, prints_along, column_prints, prints_from, prints_in, Bounded}
use Rattle.comparing.specs.declared.sides.Sides.{Sides}
use Rattle.comparing.specs.declared.kinds.Step.{Step}

-- where the first of some lists is not empty, the product of the others is at most the whole
rest-most : (n rest : ℕ) → 0 < n → rest ≤ n * rest
rest-most zero rest h = absurd (omega arith)
rest-most (suc n) rest h = omega (arith, suc-mul n rest)

module _ (words bounds : List ℕ) (column : ℕ) (low : column < 8) where
  pub next-bound : get_or bounds (column + 1) 0 ≡ get_or bounds (suc column) 0
  next-bound = ap (λ (n : ℕ). get_or bounds n 0) (add-one column)

  -- the columns from a column on are this one and those behind it
  pub prints-on : prints_in words bounds column ≡ column_prints words bounds column ∷ prints_in words bounds (column + 1)
  prints-on =
      let less : 8 - column ≡ suc (8 - suc column) = omega arith in
      ap (λ (n : ℕ). prints_from n words bounds column) less
      ∙ sym (ap (λ (n : ℕ). column_prints words bounds column ∷ prints_in words bounds n) (add-one column))

  -- so gap k's footprints are this column's and those behind it
  pub along-on : (sides : Sides) (rows k : ℕ) (step : Step) → step ≡ step_of sides (prints_in words bounds column) rows k
      → prints_along sides (prints_in words bounds column) rows k
      ≡ step.print ∷ prints_along sides (prints_in words bounds (column + 1)) (bit_and rows step.print) step.left
  along-on sides rows k step e =
      ap (λ (l : List (List ℕ)). prints_along sides l rows k) prints-on
      ∙ sym (ap (λ (s : Step). s.print ∷ prints_along sides (prints_in words bounds (column + 1)) (bit_and rows s.print) s.left)
      (e ∙ ap (λ (l : List (List ℕ)). step_of sides l rows k) prints-on))

module _ {words bounds : List ℕ} (bounded : Bounded words bounds) where
  bound-within : (n column : ℕ) → column + n ≡ 8 → prints_at + get_or bounds column 0 ≤ length words
  bound-within zero column e =
      let last : 8 ≡ column = omega arith in
      subst (λ (c : ℕ). prints_at + get_or bounds c 0 ≤ length words) last bounded.within
  bound-within (suc n) column e =
      let more = bound-within n (suc column) (omega arith) in
      let here = bounded.ascends column (omega arith) in
      omega arith

  module _ (column : ℕ) (low : column < 8) where
    -- a column's bounds ascend, and lie in the words
    pub up : get_or bounds column 0 ≤ get_or bounds (column + 1) 0
    up = omega (arith, bounded.ascends column low, next-bound words bounds column low)

    pub next-within : prints_at + get_or bounds (column + 1) 0 ≤ length words
    next-within = bound-within (7 - column) (column + 1) (omega arith)

    -- as many footprints as lie between the bounds
    pub prints-length : length (column_prints words bounds column) ≡ get_or bounds (column + 1) 0 - get_or bounds column 0
    prints-length =
        let top = next-within in
        let next = next-bound words bounds column low in
        length-take-le (get_or bounds (suc column) 0 - get_or bounds column 0) (drop (prints_at + get_or bounds column 0) words)
        (omega (arith, up, length-drop (prints_at + get_or bounds column 0) words))
        ∙ ap (λ (n : ℕ). n - get_or bounds column 0) (sym next)

    -- where a column has a footprint, the columns behind it have no more kinds
    pub fewer-kinds : 0 < length (column_prints words bounds column)
        → product (map length (prints_in words bounds column)) ≤ most_kinds
        → product (map length (prints_in words bounds (column + 1))) ≤ most_kinds
    fewer-kinds some few =
        le_trans
        (rest-most (length (column_prints words bounds column)) (product (map length (prints_in words bounds (column + 1)))) some)
        (subst (λ (l : List (List ℕ)). product (map length l) ≤ most_kinds) (prints-on words bounds column low) few)

-- the gaps among the kinds of the columns behind a column, with a footprint of it
abbrev pub gaps_behind : Sides → List ℕ → List ℕ → ℕ → ℕ → ℕ → ℕ
gaps_behind sides words bounds column rows f = count_of sides (prints_in words bounds (column + 1)) (bit_and rows f)

-- where gap k lies among some footprints of a column
abbrev pub step_in : (ℕ → ℕ) → ℕ → List ℕ → Step
step_in among k l = record { print = get_or l (steps_to among l k) 0; left = left_of among l k }

-- all gaps from a column on lie behind its footprints
module _ (sides : Sides) (words bounds : List ℕ) (column : ℕ) (low : column < 8) (rows : ℕ) where
  pub gaps-all : total (gaps_behind sides words bounds column rows) (column_prints words bounds column) ≡ count_of sides (prints_in words bounds column) rows
  gaps-all = sym (ap (λ (l : List (List ℕ)). count_of sides l rows) (prints-on words bounds column low))

  pub step-all : (k : ℕ) → step_in (gaps_behind sides words bounds column rows) k (column_prints words bounds column)
      ≡ step_of sides (prints_in words bounds column) rows k
  step-all k = sym (ap (λ (l : List (List ℕ)). step_of sides l rows k) (prints-on words bounds column low))

-- of the footprints from one on the first is that one
module _ (among : ℕ → ℕ) (l : List ℕ) (i : ℕ) (low : i < length l) where
  first-left : drop i l ≡ get_or l i 0 ∷ drop (i + 1) l
  first-left = drop-cons l i 0 low ∙ ap (λ (n : ℕ). get_or l i 0 ∷ drop n l) (sym (add-one i))

  pub gaps-on : total among (drop i l) ≡ among (get_or l i 0) + total among (drop (i + 1) l)
  gaps-on = ap (total among) first-left

  abbrev step_by : ℕ → Bool → Step
  step_by k t =
      record {
        print = get_or (get_or l i 0 ∷ drop (i + 1) l) (pick t 0 (suc (steps_to among (drop (i + 1) l) (k - among (get_or l i 0))))) 0;
        left = pick t k (left_of among (drop (i + 1) l) (k - among (get_or l i 0)));
      }

  -- gap k lies in it, or behind it
  pub step-here : (k : ℕ) → k < among (get_or l i 0) → step_in among k (drop i l) ≡ record { print = get_or l i 0; left = k }
  step-here k h = ap (step_in among k) first-left ∙ ap (step_by k) (lt-ltb k (among (get_or l i 0)) h)

  pub step-on : (k : ℕ) → among (get_or l i 0) ≤ k → step_in among k (drop i l) ≡ step_in among (k - among (get_or l i 0)) (drop (i + 1) l)
  step-on k h = ap (step_in among k) first-left ∙ ap (step_by k) (le-ltb k (among (get_or l i 0)) h)

-- and behind the last there is none
pub none_left : (l : List ℕ) (i : ℕ) → length l ≤ i → drop i l ≡ []
none_left l i h = drop_of_length-le l {i = i} h
