-- Sums over a list, and where a number falls in one.
use Rattle.std.proofs.Common.{ℕ, suc, ◌+◌, ◌-◌, ◌*◌, ◌<◌, ◌≤◌, ◌≡◌, refl, ap₂, Bool, true, false, List, [], ◌∷◌, suc-mul, not-suc-le-zero, arith, ltb, length, get_or, ltb-true, ltb-false}
use Rattle.stored.specs.Choice.{pick}
use Rattle.comparing.specs.Machinery.Kinds.{total, steps_to, left_of}

-- a sum of zeros
pub total-none : (f : ℕ → ℕ) (l : List ℕ) → ((x : ℕ) → f x ≡ 0) → total f l ≡ 0
total-none f [] e = refl
total-none f (x ∷ l) e = ap₂ ◌+◌ (e x) (total-none f l e)

-- at most as many times the most
pub total-most : (f : ℕ → ℕ) (most : ℕ) (l : List ℕ) → ((x : ℕ) → f x ≤ most) → total f l ≤ length l * most
total-most f most [] h = omega arith
total-most f most (x ∷ l) h = omega (arith, h x, total-most f most l h, suc-mul (length l) most)

-- a number below the sum falls into some part, and what is left of it is below that part
abbrev Falls : (ℕ → ℕ) → List ℕ → ℕ → Type 0
Falls f l k = (steps_to f l k < length l) × (left_of f l k < f (get_or l (steps_to f l k) 0))

falls : (f : ℕ → ℕ) (l : List ℕ) (k : ℕ) → k < total f l → Falls f l k
falls f [] k h = absurd (not-suc-le-zero h)
falls f (x ∷ l) k h = by (ltb k (f x)) refl (falls f l (k - f x))
  where
    by : (t : Bool) → ltb k (f x) ≡ t → (k - f x < total f l → Falls f l (k - f x))
        → (pick t 0 (suc (steps_to f l (k - f x))) < suc (length l))
        × (pick t k (left_of f l (k - f x)) < f (get_or (x ∷ l) (pick t 0 (suc (steps_to f l (k - f x)))) 0))
    by true e more = (omega arith, ltb-true k (f x) e)
    by false e more =
        let past = ltb-false k (f x) e in
        let m = more (omega arith) in
        (omega (arith, m.0), m.1)

module _ (f : ℕ → ℕ) (l : List ℕ) (k : ℕ) (low : k < total f l) where
  pub steps_low : steps_to f l k < length l
  steps_low = (falls f l k low).0

  pub left-low : left_of f l k < f (get_or l (steps_to f l k) 0)
  left-low = (falls f l k low).1
