-- What follows from the outcome of a choice by a test.
use Rattle.std.proofs.Common.{◌≡◌, refl, Bool, true, false, ◌&&◌, arith, ℕ}
use Rattle.stored.specs.Choice.{pick}

-- anything follows from 0 being 1
pub never {ℓ} : {A : Type ℓ} → ◌≡◌ {A = ℕ} 0 1 → A
never e = absurd (omega arith)

-- what holds of both sides, each under its outcome of the test, holds of the choice
pub pick-cases {ℓ} : {A : Type ℓ} (P : A → Type 0) (b : Bool) (x y : A) → (b ≡ true → P x) → (b ≡ false → P y) → P (pick b x y)
pick-cases P true x y f g = f refl
pick-cases P false x y f g = g refl

pub both_left : (a b : Bool) → (a && b) ≡ true → a ≡ true
both_left true b e = refl
both_left false b e = e

pub both_right : (a b : Bool) → (a && b) ≡ true → b ≡ true
both_right true b e = e
both_right false b e = cc
