-- The fewest digits that hold a number are the number in decimal.
use Rattle.std.proofs.Common.{ℕ, zero, suc, ◌-◌, ◌*◌, ◌/◌, ◌%◌, ◌^◌, ◌≤◌, ◌<◌, ◌≡◌, refl, ap, Bool, true, false, List, [], ◌∷◌, ◌++◌, arith, pow-suc, div-lt_iff_lt-mul, le-div_iff_mul-le, mod-lt, mod-eq_of_lt, ltb, lt-ltb, le-ltb, ltb-true, ltb-false}
use native.Mathlib.Nat.{pow-le-pow_right}
use Rattle.io.specs.Digits.{hex_digit_ascii, last_digits, IsDigitCount}
use Rattle.printing.specs.Decimals.{digit, decimal_digits, decimal_of}

glyph-digit : (d : ℕ) → d < 10 → hex_digit_ascii d ≡ digit d
glyph-digit d h = rw (lt-ltb d 10 h)

-- ten or more digits than one: the digits before the last are the fewest for the number without its last digit
fewer : (n j : ℕ) → IsDigitCount 10 1 n (suc (suc j)) → IsDigitCount 10 1 (n / 10) (suc j)
fewer n j w = (
  omega arith,
  (div-lt_iff_lt-mul {k = 10} {x = n} {y = 10 ^ suc j} (omega arith)).1 (rw pow-suc at w.1),
  λ h. (le-div_iff_mul-le {k = 10} {x = 10 ^ (suc j - 1)} {y = n} (omega arith)).1 (small h),
)
  where
    small : 1 < suc j → 10 ^ (suc j - 1) * 10 ≤ n
    small h =
        let least : 10 ^ (suc (suc j) - 1) ≤ n = w.2 (omega arith) in
        let here : suc (suc j) - 1 ≡ suc (suc j - 1) = omega arith in
        rw (← pow-suc) (rw here at least)

-- at least ten
pub big : (n j : ℕ) → IsDigitCount 10 1 n (suc (suc j)) → 10 ≤ n
big n j w =
    let least : 10 ^ (suc (suc j) - 1) ≤ n = w.2 (omega arith) in
    let power : 10 ^ 1 ≤ 10 ^ (suc (suc j) - 1) = pow-le-pow_right {n = 10} (omega arith) {i = 1} {j = suc (suc j) - 1} (omega arith) in
    omega arith

fewest : (f k n : ℕ) → k ≤ f → IsDigitCount 10 1 n k → last_digits 10 k n ≡ decimal_digits f n
fewest zero k n h w = absurd (omega (arith, w.0))
fewest (suc f) zero n h w = absurd (omega (arith, w.0))
fewest (suc f) (suc zero) n h w =
    let low : n < 10 = w.1 in
    let same : n % 10 ≡ n = mod-eq_of_lt low in
    rw (lt-ltb n 10 low, same) (ap (λ (d : ℕ). d ∷ []) (glyph-digit n low))
fewest (suc f) (suc (suc j)) n h w =
    let last : n % 10 < 10 = mod-lt n (omega arith) in
    rw (le-ltb n 10 (big n j w), glyph-digit (n % 10) last)
    (ap (λ (ds : List ℕ). ds ++ (digit (n % 10) ∷ [])) (fewest f (suc j) (n / 10) (omega arith) (fewer n j w)))

-- what the library prints is the number in decimal
pub decimal : (k n : ℕ) → k ≤ 20 → IsDigitCount 10 1 n k → last_digits 10 k n ≡ decimal_of n
unfolding decimal_of
decimal k n h w = fewest 20 k n h w

-- a number below 2^64 has at most 20 digits
pub at-most-20 : (k n : ℕ) → n < 18446744073709551616 → IsDigitCount 10 1 n k → k ≤ 20
at-most-20 k n h w = by-test (ltb 20 k) refl
  where
    by-test : (b : Bool) → ltb 20 k ≡ b → k ≤ 20
    by-test false e = ltb-false 20 k e
    by-test true e =
        let more : 20 < k = ltb-true 20 k e in
        let least : 10 ^ (k - 1) ≤ n = w.2 (omega arith) in
        let power : 10 ^ 20 ≤ 10 ^ (k - 1) = pow-le-pow_right {n = 10} (omega arith) {i = 20} {j = k - 1} (omega arith) in
        absurd (omega arith)
