-- The orders of values and of requests are total and asymmetric: of two that differ just one comes before the other.
use Rattle.std.proofs.Common.{ℕ, ◌<◌, ◌≡◌, refl, sym, ap, ap₂, subst, Bool, true, false, List, [], ◌∷◌, ◌⊎◌, inl, inr, arith, ltb, length, ltb-true, ltb-false}
use Rattle.judging.specs.Requests.{Value, absent, text, number}
use Rattle.comparing.specs.Order.{Smaller, Before, Earlier}

-- x is before y, is y, or is behind y
abbrev pub Compares {ℓ} : {A : Type ℓ} → (A → A → Type 0) → A → A → Type ℓ
Compares P x y = P x y ⊎ ((x ≡ y) ⊎ P y x)

below_total : (a b : ℕ) → Compares ◌<◌ a b
below_total a b = by (ltb a b) (ltb b a) refl refl
  where
    by : (t u : Bool) → ltb a b ≡ t → ltb b a ≡ u → Compares ◌<◌ a b
    by true u e f = inl (ltb-true a b e)
    by false true e f = inr (inr (ltb-true b a f))
    by false false e f = inr (inl (omega (arith, ltb-false a b e, ltb-false b a f)))

smaller-total : (s t : List ℕ) → length s ≡ length t → Compares Smaller s t
smaller-total [] [] e = inr (inl refl)
smaller-total [] (b ∷ t) e = absurd (omega arith)
smaller-total (a ∷ s) [] e = absurd (omega arith)
smaller-total (a ∷ s) (b ∷ t) e = by (below_total a b) (smaller-total s t (omega arith))
  where
    by : Compares ◌<◌ a b → Compares Smaller s t → Compares Smaller (a ∷ s) (b ∷ t)
    by (inl p) q = inl (inl p)
    by (inr (inr p)) q = inr (inr (inl p))
    by (inr (inl p)) (inl q) = inl (inr (p, q))
    by (inr (inl p)) (inr (inl q)) = inr (inl (ap₂ ◌∷◌ p q))
    by (inr (inl p)) (inr (inr q)) = inr (inr (inr (sym p, q)))

smaller-asym : (s t : List ℕ) → Smaller s t → Smaller t s → ⊥
smaller-asym [] t p q = p
smaller-asym (a ∷ s) [] p q = p
smaller-asym (a ∷ s) (b ∷ t) (inl p) (inl q) = omega arith
smaller-asym (a ∷ s) (b ∷ t) (inl p) (inr q) = omega (arith, q.0)
smaller-asym (a ∷ s) (b ∷ t) (inr p) (inl q) = omega (arith, p.0)
smaller-asym (a ∷ s) (b ∷ t) (inr p) (inr q) = smaller-asym s t p.1 q.1

-- two values are the same, or one is before the other
pub before-total : (v w : Value) → Compares Before v w
before-total absent absent = inr (inl refl)
before-total absent (text t) = inl tt
before-total absent (number n) = inl tt
before-total (text s) absent = inr (inr tt)
before-total (text s) (text t) = by (below_total (length s) (length t))
  where
    same : length s ≡ length t → Compares Smaller s t → Compares Before (text s) (text t)
    same e (inl p) = inl (inr (e, p))
    same e (inr (inl p)) = inr (inl (ap text p))
    same e (inr (inr p)) = inr (inr (inr (sym e, p)))

    by : Compares ◌<◌ (length s) (length t) → Compares Before (text s) (text t)
    by (inl p) = inl (inl p)
    by (inr (inl p)) = same p (smaller-total s t p)
    by (inr (inr p)) = inr (inr (inl p))
before-total (text s) (number n) = inl tt
before-total (number m) absent = inr (inr tt)
before-total (number m) (text t) = inr (inr tt)
before-total (number m) (number n) = by (below_total m n)
  where
    by : Compares ◌<◌ m n → Compares Before (number m) (number n)
    by (inl p) = inl p
    by (inr (inl p)) = inr (inl (ap number p))
    by (inr (inr p)) = inr (inr p)

-- of two values not each is before the other
pub before-asym : (v w : Value) → Before v w → Before w v → ⊥
before-asym absent absent p q = p
before-asym absent (text t) p q = q
before-asym absent (number n) p q = q
before-asym (text s) absent p q = p
before-asym (text s) (text t) (inl p) (inl q) = omega arith
before-asym (text s) (text t) (inl p) (inr q) = omega (arith, q.0)
before-asym (text s) (text t) (inr p) (inl q) = omega (arith, p.0)
before-asym (text s) (text t) (inr p) (inr q) = smaller-asym s t p.1 q.1
before-asym (text s) (number n) p q = q
before-asym (number m) absent p q = p
before-asym (number m) (text t) p q = p
before-asym (number m) (number n) p q = omega arith

-- no value is before itself
pub before-irrefl : (v w : Value) → v ≡ w → Before v w → ⊥
before-irrefl v w e p =
    let q : Before v v = subst (λ (x : Value). Before v x) (sym e) p in
    before-asym v v q q

-- two requests of as many columns are the same, or one is earlier
pub earlier-total : (r s : List Value) → length r ≡ length s → Compares Earlier r s
earlier-total [] [] e = inr (inl refl)
earlier-total [] (w ∷ s) e = absurd (omega arith)
earlier-total (v ∷ r) [] e = absurd (omega arith)
earlier-total (v ∷ r) (w ∷ s) e = by (before-total v w) (earlier-total r s (omega arith))
  where
    by : Compares Before v w → Compares Earlier r s → Compares Earlier (v ∷ r) (w ∷ s)
    by (inl p) q = inl (inl p)
    by (inr (inr p)) q = inr (inr (inl p))
    by (inr (inl p)) (inl q) = inl (inr (p, q))
    by (inr (inl p)) (inr (inl q)) = inr (inl (ap₂ ◌∷◌ p q))
    by (inr (inl p)) (inr (inr q)) = inr (inr (inr (sym p, q)))

-- of two requests not each is earlier than the other
pub earlier-asym : (r s : List Value) → Earlier r s → Earlier s r → ⊥
earlier-asym [] s p q = p
earlier-asym (v ∷ r) [] p q = p
earlier-asym (v ∷ r) (w ∷ s) (inl p) (inl q) = before-asym v w p q
earlier-asym (v ∷ r) (w ∷ s) (inl p) (inr q) = before-irrefl v w (sym q.0) p
earlier-asym (v ∷ r) (w ∷ s) (inr p) (inl q) = before-irrefl w v (sym p.0) q
earlier-asym (v ∷ r) (w ∷ s) (inr p) (inr q) = earlier-asym r s p.1 q.1
