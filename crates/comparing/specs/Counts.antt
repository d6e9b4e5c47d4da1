-- How many different things there are among those with a property, as far as a function tells them apart.
use Rattle.std.specs.Prelude.{ℕ, suc, ◌≡◌, List, [], ◌∷◌, length}
use Rattle.comparing.specs.Order.{In}

-- no two elements of the list are alike
abbrev pub Apart : {A B : Type 0} → (A → B) → List A → Type 0
Apart f [] = Unit {0}
Apart {A} f (x ∷ l) = ((y : A) → In y l → f x ≡ f y → ⊥) × Apart f l

-- there are n different ones
pub record Different {A B : Type 0} (P : A → Type 0) (f : A → B) (n : ℕ) : Type 0 where
  pub list : List A
  pub size : length list ≡ n
  pub all : (x : A) → In x list → P x
  pub apart : Apart f list
  pub every : (x : A) → P x → (y : A) × In y list × (f x ≡ f y)

-- there are more than n
pub record MoreThan {A B : Type 0} (P : A → Type 0) (f : A → B) (n : ℕ) : Type 0 where
  pub list : List A
  pub size : length list ≡ suc n
  pub all : (x : A) → In x list → P x
  pub apart : Apart f list
