-- The order of values, absent first, then shorter, then smaller bytes, addresses ascending; and of requests, by column 0, then 1, and so on
-- to 7 (RULES 6.3, 6.4); and what an ascending list is.
use Rattle.std.specs.Prelude.{ℕ, ◌<◌, ◌≡◌, List, [], ◌∷◌, ◌⊎◌, length}
pub use Rattle.stored.specs.Choice.{In}
use Rattle.judging.specs.Requests.{Value, absent, text, number}

-- the first byte that differs is smaller
abbrev pub Smaller : List ℕ → List ℕ → Type 0
Smaller [] t = ⊥
Smaller (a ∷ s) [] = ⊥
Smaller (a ∷ s) (b ∷ t) = (a < b) ⊎ ((a ≡ b) × Smaller s t)

-- absent first, then shorter, then smaller bytes; addresses ascending. (No column holds both strings and addresses.)
abbrev pub Before : Value → Value → Type 0
Before absent absent = ⊥
Before absent (text t) = Unit {0}
Before absent (number n) = Unit {0}
Before (text s) absent = ⊥
Before (text s) (text t) = (length s < length t) ⊎ ((length s ≡ length t) × Smaller s t)
Before (text s) (number n) = Unit {0}
Before (number m) absent = ⊥
Before (number m) (text t) = ⊥
Before (number m) (number n) = m < n

-- by the first column that differs
abbrev pub Earlier : List Value → List Value → Type 0
Earlier [] s = ⊥
Earlier (v ∷ r) [] = ⊥
Earlier (v ∷ r) (w ∷ s) = Before v w ⊎ ((v ≡ w) × Earlier r s)

-- each element comes before all that follow
abbrev pub Ascending : {A : Type 0} → (A → A → Type 0) → List A → Type 0
Ascending P [] = Unit {0}
Ascending {A} P (x ∷ l) = ((y : A) → In y l → P x y) × Ascending P l
