-- Counts of different things are unique. Things that a function tells apart, each like one of a list, are no more than the list is long:
-- each takes a position of its own out of it. So no equality test is needed.
use Rattle.std.proofs.Common.{ℕ, suc, ◌≤◌, ◌≡◌, refl, sym, ap, ◌∙◌, List, [], ◌∷◌, ◌⊎◌, inl, inr, arith, length}
use Rattle.comparing.specs.Order.{In}
use Rattle.comparing.specs.Counts.{Apart, Different, MoreThan}

module _ {A : Type 0} where
  -- the list without the element at a position
  abbrev without : (x : A) (l : List A) → In x l → List A
  without x [] at = absurd at
  without x (y ∷ l) (inl e) = l
  without x (y ∷ l) (inr at) = y ∷ without x l at

  without-length : (x : A) (l : List A) (at : In x l) → length l ≡ suc (length (without x l at))
  without-length x [] at = absurd at
  without-length x (y ∷ l) (inl e) = refl
  without-length x (y ∷ l) (inr at) = ap suc (without-length x l at)

  -- another position is the same element or still in the list
  still-in : (x z : A) (l : List A) (at : In x l) → In z l → (z ≡ x) ⊎ In z (without x l at)
  still-in x z [] at other = absurd at
  still-in x z (y ∷ l) (inl e) (inl f) = inl (f ∙ sym e)
  still-in x z (y ∷ l) (inl e) (inr other) = inr other
  still-in x z (y ∷ l) (inr at) (inl f) = inr (inl f)
  still-in x z (y ∷ l) (inr at) (inr other) = deeper (still-in x z l at other)
    where
      deeper : (z ≡ x) ⊎ In z (without x l at) → (z ≡ x) ⊎ In z (y ∷ without x l at)
      deeper (inl e) = inl e
      deeper (inr i) = inr (inr i)

  -- what is told apart, each like one of a list, is no more than the list
  pub fits : {B : Type 0} (f : A → B) (xs ys : List A) → Apart f xs
      → ((x : A) → In x xs → (y : A) × In y ys × (f x ≡ f y)) → length xs ≤ length ys
  fits f [] ys apart like = omega arith
  fits f (x ∷ xs) ys apart like =
      let (y, at, same) = like x (inl refl) in
      omega (arith, without-length y ys at, fits f xs (without y ys at) apart.1 (λ z i. rest y at same z i (like z (inr i))))
    where
      rest : (y : A) (at : In y ys) → f x ≡ f y → (z : A) → In z xs → (w : A) × In w ys × (f z ≡ f w)
          → (w : A) × In w (without y ys at) × (f z ≡ f w)
      rest y at same z i (w, other, alike) = by (still-in y w ys at other)
        where
          by : (w ≡ y) ⊎ In w (without y ys at) → (w : A) × In w (without y ys at) × (f z ≡ f w)
          by (inl e) = absurd (apart.0 z i (same ∙ sym (ap f e) ∙ sym alike))
          by (inr j) = (w, j, alike)

  -- the number of different ones is one number
  pub different-unique : {B : Type 0} (P : A → Type 0) (f : A → B) (n m : ℕ) → Different P f n → Different P f m → n ≡ m
  different-unique P f n m d e =
      let low = fits f d.list e.list d.apart (λ x i. e.every x (d.all x i)) in
      let high = fits f e.list d.list e.apart (λ x i. d.every x (e.all x i)) in
      omega (arith, d.size, e.size)

  -- where there are at most k different ones there are not more than k
  pub not_more : {B : Type 0} (P : A → Type 0) (f : A → B) (n k : ℕ) → Different P f n → n ≤ k → MoreThan P f k → ⊥
  not_more P f n k d few more =
      let low = fits f more.list d.list more.apart (λ x i. d.every x (more.all x i)) in
      omega (arith, d.size, more.size)
