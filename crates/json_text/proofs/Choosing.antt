-- What follows from the outcome of a choice by a test.
use Rattle.std.proofs.Common.{ℕ, ◌≤◌, ◌≡◌, refl, Bool, true, false, ◌&&◌, leb, arith, leb-true}
use Rattle.json_text.specs.Choice.{pick}
use Rattle.json_text.specs.Bytes.{within}

-- anything follows from 0 being 1
pub never {ℓ} : {A : Type ℓ} → ◌≡◌ {A = ℕ} 0 1 → A
never e = absurd (omega arith)

-- what is known of a choice is known of the side that was taken
pub choose {ℓ} : {A : Type ℓ} {G : Type 0} (P : A → Type 0) (b : Bool) (x y : A) → (b ≡ true → P x → G) → (b ≡ false → P y → G)
    → P (pick b x y) → G
choose P true x y f g h = f refl h
choose P false x y f g h = g refl h

pub both_left : (a b : Bool) → (a && b) ≡ true → a ≡ true
both_left true b e = refl
both_left false b e = e

pub both_right : (a b : Bool) → (a && b) ≡ true → b ≡ true
both_right true b e = e
both_right false b e = cc

pub ranged : (low high b : ℕ) → within low high b ≡ true → (low ≤ b) × (b ≤ high)
ranged low high b e =
    (leb-true low b (both_left (leb low b) (leb b high) e), leb-true b high (both_right (leb low b) (leb b high) e))
