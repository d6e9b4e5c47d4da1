-- What is seen behind one more mark.
use Rattle.std.proofs.Common.{ℕ, zero, suc, ◌+◌, ◌*◌, ◌/◌, ◌%◌, ◌^◌, ◌<◌, max, ◌≡◌, refl, sym, ◌∙◌, ap, Bool, false, ◌||◌, div-one, arith, bit_or, eqb}
use native.Mathlib.Nat.{pow-succ', zero-div, div-div-eq-div-mul}
use lib.Bits.{or_step, or_shr}
use lib.Dec.{eqb-zero-suc, eqb-suc-zero, eqb-suc-suc}
use Rattle.members.specs.Machinery.Verdicts.{is_seen, add}

or-lowest : (r s n q : ℕ) → r < 2 → s < 2 → n ≡ q * 2 + max r s → eqb (n % 2) 1 ≡ (eqb r 1 || eqb s 1)
or-lowest zero zero n q low small is = ap (λ (m : ℕ). eqb m 1) {x = n % 2} {y = 0} (omega arith)
or-lowest zero (suc zero) n q low small is = ap (λ (m : ℕ). eqb m 1) {x = n % 2} {y = 1} (omega arith)
or-lowest (suc zero) zero n q low small is = ap (λ (m : ℕ). eqb m 1) {x = n % 2} {y = 1} (omega arith)
or-lowest (suc zero) (suc zero) n q low small is = ap (λ (m : ℕ). eqb m 1) {x = n % 2} {y = 1} (omega arith)
or-lowest (suc (suc r)) s n q low small is = absurd (omega arith)
or-lowest zero (suc (suc s)) n q low small is = absurd (omega arith)
or-lowest (suc zero) (suc (suc s)) n q low small is = absurd (omega arith)

abbrev bit : ℕ → ℕ → Bool
bit n k = eqb (n / 2 ^ k % 2) 1

bit-or : (a b k : ℕ) → bit (bit_or a b) k ≡ (bit a k || bit b k)
bit-or a b k =
    ap (λ (n : ℕ). eqb (n % 2) 1) (or_shr a b k)
    ∙ or-lowest (a / 2 ^ k % 2) (b / 2 ^ k % 2) (bit_or (a / 2 ^ k) (b / 2 ^ k)) (bit_or (a / 2 ^ k / 2) (b / 2 ^ k / 2)) (omega arith) (omega arith)
    (or_step (a / 2 ^ k) (b / 2 ^ k))

behind : (n k : ℕ) → bit n (suc k) ≡ bit (n / 2) k
behind n k = ap (λ (m : ℕ). eqb (m % 2) 1) (ap (λ (m : ℕ). n / m) (pow-succ' 2 k) ∙ sym (div-div-eq-div-mul n 2 (2 ^ k)))

lowest : (n : ℕ) → bit n 0 ≡ eqb (n % 2) 1
lowest n = ap (λ (m : ℕ). eqb (m % 2) 1) (div-one n)

pub none_seen : (k : ℕ) → is_seen 0 k ≡ false
unfolding is_seen
none_seen k = ap (λ (n : ℕ). eqb (n % 2) 1) (zero-div (2 ^ k))

bit-power : (k j : ℕ) → bit (2 ^ k) j ≡ eqb j k
unfolding is_seen
bit-power zero zero = refl
bit-power zero (suc j) = behind 1 j ∙ none_seen j ∙ sym (eqb-suc-zero j)
bit-power (suc k) zero = lowest (2 ^ suc k) ∙ ap (λ (m : ℕ). eqb m 1) {x = 2 ^ suc k % 2} {y = 0} (omega (arith, pow-succ' 2 k)) ∙ sym (eqb-zero-suc k)
bit-power (suc k) (suc j) =
    behind (2 ^ suc k) j ∙ ap (λ (m : ℕ). bit m j) {x = 2 ^ suc k / 2} {y = 2 ^ k} (omega (arith, pow-succ' 2 k)) ∙ bit-power k j ∙ sym (eqb-suc-suc j k)

pub seen_more : (seen j k : ℕ) → is_seen (add seen j) k ≡ (is_seen seen k || eqb k j)
unfolding is_seen
seen_more seen j k = bit-or seen (2 ^ j) k ∙ ap (λ (b : Bool). bit seen k || b) (bit-power j k)
