-- A number has at least n zero bits at its low end exactly when its n lowest bits are zero.
use Rattle.std.proofs.Common.{◌≡◌, refl, sym, ap, ◌∙◌, ℕ, zero, suc, ◌+◌, ◌*◌, ◌/◌, ◌%◌, ◌^◌, ◌≤◌, le_of_suc-le-suc, not-suc-le-zero, add-one, arith, leb, eqb, eq-eqb, ne_eqb}
use Rattle.std.proofs.Math.Nat.{mod-one}
use lib.Count.{count_trailing_zeros, under}
use lib.Dec.{leb-zero, leb-suc-zero, leb-suc-suc, eqb-suc-zero}
use lib.Pow.{mod-pow-add}

-- the lowest n + 1 bits are the lowest one and the n above it
lowest : (a n : ℕ) → a % 2 ^ suc n ≡ (a / 2 % 2 ^ n) * 2 + a % 2
lowest a n = ap (λ (k : ℕ). a % 2 ^ k) (sym (add-one n)) ∙ mod-pow-add a n 1

doubled : (r : ℕ) → eqb r 0 ≡ eqb (r * 2 + 0) 0
doubled zero = refl
doubled (suc r) = eqb-suc-zero r ∙ sym (ne_eqb (suc r * 2 + 0) 0 (λ e. omega arith))

-- one bit more below: `bit` is the lowest one, `rest` the n above it
one_more : (bit t rest n : ℕ) → leb n t ≡ eqb rest 0 → leb (suc n) (under bit t) ≡ eqb (rest * 2 + bit) 0
one_more zero t rest n e = leb-suc-suc n t ∙ e ∙ doubled rest
one_more (suc b) t rest n e = leb-suc-zero n ∙ sym (ne_eqb (rest * 2 + suc b) 0 (λ h. omega arith))

pub low-bits-zero : (n k a : ℕ) → n ≤ k → leb n (count_trailing_zeros k a) ≡ eqb (a % 2 ^ n) 0
unfolding count_trailing_zeros
low-bits-zero zero k a h = leb-zero (count_trailing_zeros k a) ∙ sym (eq-eqb (a % 1) 0 (mod-one a))
low-bits-zero (suc n) zero a h = absurd (not-suc-le-zero h)
low-bits-zero (suc n) (suc k) a h =
    one_more (a % 2) (count_trailing_zeros k (a / 2)) (a / 2 % 2 ^ n) n (low-bits-zero n k (a / 2) (le_of_suc-le-suc h))
    ∙ ap (λ (x : ℕ). eqb x 0) (sym (lowest a n))
