use Rattle.std.proofs.Common.{ℕ, zero, suc, ◌≤◌, ◌<◌, ◌≡◌, subst, ◌⊎◌, inl, inr, arith}

-- What holds below a number and at it holds below the next.

pub below-or-from : (j i : ℕ) → (j < i) ⊎ (i ≤ j)
below-or-from j zero = inr (omega arith)
below-or-from zero (suc i) = inl (omega arith)
below-or-from (suc j) (suc i) = by (below-or-from j i)
  where
    by : (j < i) ⊎ (i ≤ j) → (suc j < suc i) ⊎ (suc i ≤ suc j)
    by (inl h) = inl (omega arith)
    by (inr h) = inr (omega arith)

pub below_next : (P : ℕ → Type 0) (n : ℕ) → ((j : ℕ) → j < n → P j) → P n → (j : ℕ) → j < suc n → P j
below_next P n old here j h = by (below-or-from j n)
  where
    by : (j < n) ⊎ (n ≤ j) → P j
    by (inl less) = old j less
    by (inr from) = let last : n ≡ j = omega arith in subst P last here
