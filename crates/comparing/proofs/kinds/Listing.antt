-- Members of lists that are made longer by one, lists under functions that agree, and tests for a number.
use Rattle.std.proofs.Common.{ℕ, ◌≡◌, refl, sym, ◌∙◌, ap, ap₂, Bool, true, false, ◌||◌, List, [], ◌∷◌, ◌++◌, map, ◌⊎◌, inl, inr, eqb, eqb-true}
use borrow.Author.Tests.{eqb-false}
use Rattle.stored.specs.Choice.{some}
use Rattle.stored.proofs.Choosing.{never}
use Rattle.comparing.specs.Order.{In, Ascending}
use Rattle.comparing.proofs.Members.{in-joined, ascending-joined}

module _ {A : Type 0} where
  -- one more at the end
  pub in-more : (x : A) (l : List A) (y : A) → In x (l ++ (y ∷ [])) → In x l ⊎ (x ≡ y)
  in-more x l y h = by (in-joined x l (y ∷ []) h)
    where
      by : In x l ⊎ In x (y ∷ []) → In x l ⊎ (x ≡ y)
      by (inl k) = inl k
      by (inr (inl e)) = inr e
      by (inr (inr k)) = absurd k

  pub ascending-more : (P : A → A → Type 0) (l : List A) (x : A) → Ascending P l → ((y : A) → In y l → P y x) → Ascending P (l ++ (x ∷ []))
  ascending-more P l x up below = ascending-joined P l (x ∷ []) up ((λ y h. absurd h), tt) by
    where
      by : (y z : A) → In y l → In z (x ∷ []) → P y z
      by y z h (inl e) = rw e (below y h)
      by y z h (inr k) = absurd k

module _ {A B : Type 0} (f : A → B) where
  pub map_same : (g : A → B) (l : List A) → ((x : A) → In x l → f x ≡ g x) → map f l ≡ map g l
  map_same g [] e = refl
  map_same g (y ∷ l) e = ap₂ ◌∷◌ (e y (inl refl)) (map_same g l (λ x h. e x (inr h)))

-- some element has the number, or none has
module _ {A : Type 0} (f : A → ℕ) (n : ℕ) where
  pub some-true : (l : List A) → some (λ y. eqb (f y) n) l ≡ true → (y : A) × In y l × (f y ≡ n)
  some-true [] h = let z : ◌≡◌ {A = ℕ} 0 1 = cc in never z
  some-true (y ∷ l) h = by (eqb (f y) n) refl h (some-true l)
    where
      by : (t : Bool) → eqb (f y) n ≡ t → (t || some (λ y. eqb (f y) n) l) ≡ true
          → (some (λ y. eqb (f y) n) l ≡ true → (z : A) × In z l × (f z ≡ n)) → (z : A) × In z (y ∷ l) × (f z ≡ n)
      by true e h rest = (y, inl refl, eqb-true (f y) n e)
      by false e h rest = let r = rest h in (r.0, inr r.1, r.2)

  pub some-false : (l : List A) → some (λ y. eqb (f y) n) l ≡ false → (y : A) → In y l → f y ≡ n → ⊥
  some-false [] h y k = absurd k
  some-false (z ∷ l) h y k = by (eqb (f z) n) refl h k (some-false l)
    where
      by : (t : Bool) → eqb (f z) n ≡ t → (t || some (λ y. eqb (f y) n) l) ≡ false → In y (z ∷ l)
          → (some (λ y. eqb (f y) n) l ≡ false → (y : A) → In y l → f y ≡ n → ⊥) → f y ≡ n → ⊥
      by true e h k rest w = let q : ◌≡◌ {A = ℕ} 0 1 = cc in never q
      by false e h (inl i) rest w = eqb-false (f z) n e (ap f (sym i) ∙ w)
      by false e h (inr i) rest w = rest h y i w
