-- The footprints of all columns fit: eight counts of 1 to 513 whose product is at most 16,777,216 have a sum of at most 1,094. A loop
-- over the columns keeps three linear facts of the sum of (count minus 1) and of the product so far.
use Rattle.std.proofs.Common.{ℕ, ◌+◌, ◌-◌, ◌*◌, ◌≤◌, ◌≡◌, refl, sym, ap, ◌∙◌, mul-add, add-mul, mul-one, mul-le-mul_left, arith, Bool, true, false, leb, leb-true, leb-false}

-- s: the sum of (count minus 1), p: the product of the counts so far
pub record Room (s p : ℕ) : Type 0 where
  pub one : s + 1 ≤ p
  pub two : 513 * s ≤ 262143 + p
  pub three : 263169 * s ≤ 269221887 + p

-- before the first column
pub room-start : Room 0 1
room-start = record { one = omega arith; two = omega arith; three = omega arith }

-- the product of what is missing to c and to d is not below 0
crossed : (c d p k : ℕ) → p ≤ c → k ≤ d → c * k + p * d ≤ c * d + p * k
crossed c d p k pc kd =
    let parts : c ≡ p + (c - p) = omega arith in
    let with-k : c * k ≡ p * k + (c - p) * k = ap (λ (n : ℕ). n * k) parts ∙ add-mul p (c - p) k in
    let with-d : c * d ≡ p * d + (c - p) * d = ap (λ (n : ℕ). n * d) parts ∙ add-mul p (c - p) d in
    let more : (c - p) * k ≤ (c - p) * d = mul-le-mul_left (c - p) kd in
    omega arith

-- a product with a number of at least c
scaled : (c p k : ℕ) → c ≤ p → c * k ≤ p * k
scaled c p k cp =
    let parts : p ≡ c + (p - c) = omega arith in
    let with-k : p * k ≡ c * k + (p - c) * k = ap (λ (n : ℕ). n * k) parts ∙ add-mul c (p - c) k in
    omega arith

more_by : (s p k : ℕ) → Room s p → k ≤ 512 → Room (s + k) (p * k + p)
more_by s p k r few =
    record {
      one = omega (arith, scaled 1 p k (omega arith));
      two = by_two (leb p 513) refl;
      three = by_three (leb p 263169) refl;
    }
  where
    by_two : (b : Bool) → leb p 513 ≡ b → 513 * (s + k) ≤ 262143 + (p * k + p)
    by_two true e = omega (arith, crossed 513 512 p k (leb-true p 513 e) few)
    by_two false e = omega (arith, scaled 513 p k (omega (arith, leb-false p 513 e)))

    by_three : (b : Bool) → leb p 263169 ≡ b → 263169 * (s + k) ≤ 269221887 + (p * k + p)
    by_three true e = omega (arith, crossed 263169 512 p k (leb-true p 263169 e) few)
    by_three false e = omega (arith, scaled 263169 p k (omega (arith, leb-false p 263169 e)))

-- one column more, with m footprints
pub room-more : (s p m : ℕ) → Room s p → 1 ≤ m → m ≤ 513 → Room (s + (m - 1)) (p * m)
room-more s p m r low high =
    let parts : (m - 1) + 1 ≡ m = omega arith in
    let times : p * (m - 1) + p ≡ p * m = ap (λ (n : ℕ). p * (m - 1) + n) (sym (mul-one p)) ∙ sym (mul-add p (m - 1) 1) ∙ ap (λ (n : ℕ). p * n) parts in
    rw times at (more_by s p (m - 1) r (omega arith))

-- the footprints of eight columns take at most 1,094 places, eight more than this sum
pub room_fits : (s p : ℕ) → Room s p → p ≤ 16777216 → s ≤ 1086
room_fits s p r few = omega arith
