-- The few words that every definition here is made of: a choice by a test, "some element", "every element" and "an element" of a list.
use Rattle.std.specs.Prelude.{◌≡◌, ◌⊎◌, Bool, true, false, ◌&&◌, ◌||◌, List, [], ◌∷◌}

-- a where the test holds, else b
abbrev pub pick {ℓ} : {A : Type ℓ} → Bool → A → A → A
pick true a b = a
pick false a b = b

-- the test holds for some element
abbrev pub some {ℓ} : {A : Type ℓ} → (A → Bool) → List A → Bool
some p [] = false
some p (x ∷ xs) = p x || some p xs

-- the test holds for every element
abbrev pub every {ℓ} : {A : Type ℓ} → (A → Bool) → List A → Bool
every p [] = true
every p (x ∷ xs) = p x && every p xs

-- x is in a list
abbrev pub In : {A : Type 0} → A → List A → Type 0
In x [] = ⊥
In x (y ∷ l) = (x ≡ y) ⊎ In x l
