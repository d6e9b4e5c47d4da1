-- The bits of words: they make the word, what `|`, `&` and `!` make of them, the word of one bit, and the zeros below the lowest bit that
-- is set.
use Rattle.std.proofs.Common.{ℕ, zero, suc, ◌+◌, ◌-◌, ◌*◌, ◌/◌, ◌%◌, ◌^◌, ◌≤◌, ◌<◌, min, max, ◌≡◌, refl, sym, ◌∙◌, ap, ap₂, subst, Bool, true, false, not, ◌&&◌, ◌||◌, ◌⊎◌, inl, inr, div-one, not-suc-le-zero, le_of_suc-le-suc, arith, eqb, eqb-true, shr_lt, shr-shr}
use mathlib.Core.Bool.{false≢true, and-true}
use Rattle.std.proofs.Math.Bool.{and-false}
use borrow.Author.Tests.{eqb-false}
use native.Mathlib.Nat.{pow-succ', zero-div}
use lib.Bits.{bit_and, bit_or, and_step, or_step, and_shr, or_shr, and_self}
use lib.Count.{count_trailing_zeros, under, ones, ones_step}
use lib.Dec.{eqb-zero-suc, eqb-suc-zero, eqb-suc-suc}
use Rattle.matching.specs.Machinery.Rows.{word_bit}
use Rattle.matching.proofs.Rows.{bit-behind}
use Rattle.states.proofs.Below.{below-or-from}

-- bit by bit

or-lowest : (r s n q : ℕ) → r < 2 → s < 2 → n ≡ q * 2 + max r s → eqb (n % 2) 1 ≡ (eqb r 1 || eqb s 1)
or-lowest zero zero n q low small is = ap (λ (m : ℕ). eqb m 1) {x = n % 2} {y = 0} (omega arith)
or-lowest zero (suc zero) n q low small is = ap (λ (m : ℕ). eqb m 1) {x = n % 2} {y = 1} (omega arith)
or-lowest (suc zero) zero n q low small is = ap (λ (m : ℕ). eqb m 1) {x = n % 2} {y = 1} (omega arith)
or-lowest (suc zero) (suc zero) n q low small is = ap (λ (m : ℕ). eqb m 1) {x = n % 2} {y = 1} (omega arith)
or-lowest (suc (suc r)) s n q low small is = absurd (omega arith)
or-lowest zero (suc (suc s)) n q low small is = absurd (omega arith)
or-lowest (suc zero) (suc (suc s)) n q low small is = absurd (omega arith)

pub bit-or : (a b k : ℕ) → word_bit (bit_or a b) k ≡ (word_bit a k || word_bit b k)
bit-or a b k =
    ap (λ (n : ℕ). eqb (n % 2) 1) (or_shr a b k)
    ∙ or-lowest (a / 2 ^ k % 2) (b / 2 ^ k % 2) (bit_or (a / 2 ^ k) (b / 2 ^ k)) (bit_or (a / 2 ^ k / 2) (b / 2 ^ k / 2)) (omega arith) (omega arith)
    (or_step (a / 2 ^ k) (b / 2 ^ k))

and-lowest : (r s n q : ℕ) → r < 2 → s < 2 → n ≡ q * 2 + min r s → eqb (n % 2) 1 ≡ (eqb r 1 && eqb s 1)
and-lowest zero s n q low small is = ap (λ (m : ℕ). eqb m 1) {x = n % 2} {y = 0} (omega arith)
and-lowest (suc zero) zero n q low small is = ap (λ (m : ℕ). eqb m 1) {x = n % 2} {y = 0} (omega arith)
and-lowest (suc zero) (suc zero) n q low small is = ap (λ (m : ℕ). eqb m 1) {x = n % 2} {y = 1} (omega arith)
and-lowest (suc (suc r)) s n q low small is = absurd (omega arith)
and-lowest (suc zero) (suc (suc s)) n q low small is = absurd (omega arith)

pub bit-and : (a b k : ℕ) → word_bit (bit_and a b) k ≡ (word_bit a k && word_bit b k)
bit-and a b k =
    ap (λ (n : ℕ). eqb (n % 2) 1) (and_shr a b k)
    ∙ and-lowest (a / 2 ^ k % 2) (b / 2 ^ k % 2) (bit_and (a / 2 ^ k) (b / 2 ^ k)) (bit_and (a / 2 ^ k / 2) (b / 2 ^ k / 2)) (omega arith) (omega arith)
    (and_step (a / 2 ^ k) (b / 2 ^ k))

lowest : (word : ℕ) → word_bit word 0 ≡ eqb (word % 2) 1
lowest word = ap (λ (n : ℕ). eqb (n % 2) 1) (div-one word)

-- words whose bits agree are the same
pub bits-same : (n a b : ℕ) → a < 2 ^ n → b < 2 ^ n → ((k : ℕ) → k < n → word_bit a k ≡ word_bit b k) → a ≡ b
bits-same zero a b fits-a fits-b same = omega arith
bits-same (suc n) a b fits-a fits-b same =
    joined
    (bits-same n (a / 2) (b / 2) (omega (arith, pow-succ' 2 n)) (omega (arith, pow-succ' 2 n))
    (λ k low. sym (bit-behind a k) ∙ same (suc k) (omega arith) ∙ bit-behind b k))
    (digit (a % 2) (b % 2) (omega arith) (omega arith) (sym (lowest a) ∙ same 0 (omega arith) ∙ lowest b))
  where
    joined : a / 2 ≡ b / 2 → a % 2 ≡ b % 2 → a ≡ b
    joined halves last = omega arith

    digit : (r s : ℕ) → r < 2 → s < 2 → eqb r 1 ≡ eqb s 1 → r ≡ s
    digit zero zero low small e = refl
    digit zero (suc zero) low small e = absurd (false≢true e)
    digit (suc zero) zero low small e = absurd (false≢true (sym e))
    digit (suc zero) (suc zero) low small e = refl
    digit (suc (suc r)) s low small e = absurd (omega arith)
    digit zero (suc (suc s)) low small e = absurd (omega arith)
    digit (suc zero) (suc (suc s)) low small e = absurd (omega arith)

-- a bit is 0 or 1
turned : (r s : ℕ) → r < 2 → s ≡ 1 - r → eqb s 1 ≡ not (eqb r 1)
turned zero s low is = ap (λ (m : ℕ). eqb m 1) {x = s} {y = 1} (omega arith)
turned (suc zero) s low is = ap (λ (m : ℕ). eqb m 1) {x = s} {y = 0} (omega arith)
turned (suc (suc r)) s low is = absurd (omega arith)

pub bit_not : (n k a : ℕ) → a < 2 ^ n → k < n → word_bit (2 ^ n - 1 - a) k ≡ not (word_bit a k)
bit_not zero k a fits low = absurd (not-suc-le-zero low)
bit_not (suc n) zero a fits low =
    lowest (2 ^ suc n - 1 - a)
    ∙ turned (a % 2) ((2 ^ suc n - 1 - a) % 2) (omega arith) (omega (arith, pow-succ' 2 n))
    ∙ ap not (sym (lowest a))
bit_not (suc n) (suc k) a fits low =
    bit-behind (2 ^ suc n - 1 - a) k
    ∙ ap (λ (m : ℕ). word_bit m k) {x = (2 ^ suc n - 1 - a) / 2} {y = 2 ^ n - 1 - a / 2} (omega (arith, pow-succ' 2 n))
    ∙ bit_not n k (a / 2) (omega (arith, pow-succ' 2 n)) (le_of_suc-le-suc low)
    ∙ ap not (sym (bit-behind a k))

pub bit-none : (k : ℕ) → word_bit 0 k ≡ false
bit-none k = ap (λ (n : ℕ). eqb (n % 2) 1) (zero-div (2 ^ k))

-- the word of bit k
pub bit-power : (k j : ℕ) → word_bit (2 ^ k) j ≡ eqb j k
bit-power zero zero = refl
bit-power zero (suc j) = bit-behind 1 j ∙ bit-none j ∙ sym (eqb-suc-zero j)
bit-power (suc k) zero = lowest (2 ^ suc k) ∙ ap (λ (m : ℕ). eqb m 1) {x = 2 ^ suc k % 2} {y = 0} (omega (arith, pow-succ' 2 k)) ∙ sym (eqb-zero-suc k)
bit-power (suc k) (suc j) =
    bit-behind (2 ^ suc k) j ∙ ap (λ (m : ℕ). word_bit m j) {x = 2 ^ suc k / 2} {y = 2 ^ k} (omega (arith, pow-succ' 2 k)) ∙ bit-power k j ∙ sym (eqb-suc-suc j k)

-- the zeros below the lowest bit that is set

pub trailing-few : (k m n : ℕ) → 0 < n → n < 2 ^ m → count_trailing_zeros k n < m
unfolding count_trailing_zeros
trailing-few k zero n some fits = absurd (omega arith)
trailing-few zero (suc m) n some fits = omega arith
trailing-few (suc k) (suc m) n some fits = by (n % 2) refl (trailing-few k m (n / 2))
  where
    by : (r : ℕ) → n % 2 ≡ r → (0 < n / 2 → n / 2 < 2 ^ m → count_trailing_zeros k (n / 2) < m) → under r (count_trailing_zeros k (n / 2)) < suc m
    by zero even more = let up = more (omega arith) (omega (arith, pow-succ' 2 m)) in omega arith
    by (suc r) odd more = omega arith

pub trailing-none : (k n j : ℕ) → j < count_trailing_zeros k n → word_bit n j ≡ false
unfolding count_trailing_zeros
trailing-none zero n j low = absurd (not-suc-le-zero low)
trailing-none (suc k) n j low = by (n % 2) j refl low (trailing-none k (n / 2))
  where
    by : (r i : ℕ) → n % 2 ≡ r → i < under r (count_trailing_zeros k (n / 2)) → ((i : ℕ) → i < count_trailing_zeros k (n / 2) → word_bit (n / 2) i ≡ false) → word_bit n i ≡ false
    by zero zero even below more = lowest n ∙ ap (λ (m : ℕ). eqb m 1) even
    by zero (suc i) even below more = bit-behind n i ∙ more i (le_of_suc-le-suc below)
    by (suc r) i odd below more = absurd (not-suc-le-zero below)

pub trailing-here : (k n : ℕ) → count_trailing_zeros k n < k → word_bit n (count_trailing_zeros k n) ≡ true
unfolding count_trailing_zeros
trailing-here zero n low = absurd (not-suc-le-zero low)
trailing-here (suc k) n low = by (n % 2) refl low (trailing-here k (n / 2))
  where
    by : (r : ℕ) → n % 2 ≡ r → under r (count_trailing_zeros k (n / 2)) < suc k → (count_trailing_zeros k (n / 2) < k → word_bit (n / 2) (count_trailing_zeros k (n / 2)) ≡ true)
        → word_bit n (under r (count_trailing_zeros k (n / 2))) ≡ true
    by zero even below more = bit-behind n (count_trailing_zeros k (n / 2)) ∙ more (le_of_suc-le-suc below)
    by (suc r) odd below more = lowest n ∙ ap (λ (m : ℕ). eqb m 1) {x = n % 2} {y = 1} (omega arith)

-- a word without its lowest bits

pub bit-left : (word passed k : ℕ) → word_bit (word / 2 ^ passed) k ≡ word_bit word (passed + k)
bit-left word passed k = ap (λ (n : ℕ). eqb (n % 2) 1) (shr-shr word passed k)

pub left-fits : (word passed : ℕ) → word < 2 ^ 64 → passed ≤ 64 → word / 2 ^ passed < 2 ^ (64 - passed)
left-fits word passed fits low =
    shr_lt (64 - passed) passed (subst (λ (n : ℕ). word < 2 ^ n) {x = 64} {y = 64 - passed + passed} (omega arith) fits)

-- nothing is left: the bits from there on are zero
pub left-none : (word passed : ℕ) → word / 2 ^ passed ≡ 0 → (k : ℕ) → passed ≤ k → word_bit word k ≡ false
left-none word passed none k from =
    ap (word_bit word) {x = k} {y = passed + (k - passed)} (omega arith)
    ∙ sym (bit-left word passed (k - passed))
    ∙ ap (λ (w : ℕ). word_bit w (k - passed)) none
    ∙ bit-none (k - passed)

-- the zeros below the lowest bit of what is left
pub left-zeros : (word passed k : ℕ) → passed ≤ k → k < passed + count_trailing_zeros 64 (word / 2 ^ passed) → word_bit word k ≡ false
left-zeros word passed k from low =
    ap (word_bit word) {x = k} {y = passed + (k - passed)} (omega arith)
    ∙ sym (bit-left word passed (k - passed))
    ∙ trailing-none 64 (word / 2 ^ passed) (k - passed) (omega arith)

pub left-few : (word passed : ℕ) → word < 2 ^ 64 → passed ≤ 64 → 0 < word / 2 ^ passed → passed + count_trailing_zeros 64 (word / 2 ^ passed) < 64
left-few word passed fits low some =
    let few = trailing-few 64 (64 - passed) (word / 2 ^ passed) some (left-fits word passed fits low) in omega arith

-- a word that has a bit is not 0
pub has-bit : (n k : ℕ) → word_bit n k ≡ true → 0 < n
has-bit zero k e = absurd (false≢true (sym (bit-none k) ∙ e))
has-bit (suc n) k e = omega arith

-- one less than a word, from its lowest bit that is set on: that bit goes
pub pred-bits : (k n j : ℕ) → ((i : ℕ) → i < k → word_bit n i ≡ false) → word_bit n k ≡ true → k ≤ j → word_bit (n - 1) j ≡ (word_bit n j && not (eqb j k))
pred-bits zero n zero none here from =
    let last = eqb-true (n % 2) 1 (sym (lowest n) ∙ here) in
    lowest (n - 1) ∙ ap (λ (m : ℕ). eqb m 1) {x = (n - 1) % 2} {y = 0} (omega arith) ∙ sym (and-false (word_bit n 0))
pred-bits zero n (suc j) none here from =
    let last = eqb-true (n % 2) 1 (sym (lowest n) ∙ here) in
    bit-behind (n - 1) j
    ∙ ap (λ (m : ℕ). word_bit m j) {x = (n - 1) / 2} {y = n / 2} (omega arith)
    ∙ sym (bit-behind n j)
    ∙ sym (and-true (word_bit n (suc j)))
    ∙ ap (λ (t : Bool). word_bit n (suc j) && not t) (sym (eqb-suc-zero j))
pred-bits (suc k) n zero none here from = absurd (not-suc-le-zero from)
pred-bits (suc k) n (suc j) none here from =
    let even = eqb-false (n % 2) 1 (sym (lowest n) ∙ none 0 (omega arith)) in
    let some = has-bit (n / 2) k (sym (bit-behind n k) ∙ here) in
    bit-behind (n - 1) j
    ∙ ap (λ (m : ℕ). word_bit m j) {x = (n - 1) / 2} {y = n / 2 - 1} (omega arith)
    ∙ pred-bits k (n / 2) j (λ i low. sym (bit-behind n i) ∙ none (suc i) (omega arith)) (sym (bit-behind n k) ∙ here) (le_of_suc-le-suc from)
    ∙ ap₂ (λ (s t : Bool). s && not t) (sym (bit-behind n j)) (sym (eqb-suc-suc j k))

-- a word and one less: the word without its lowest bit
pub lowest-goes : (n k : ℕ) → ((i : ℕ) → i < k → word_bit n i ≡ false) → word_bit n k ≡ true → (j : ℕ)
    → word_bit (bit_and n (n - 1)) j ≡ (word_bit n j && not (eqb j k))
lowest-goes n k none here j = bit-and n (n - 1) j ∙ by (below-or-from j k)
  where
    twice : (s t : Bool) → (s && (s && t)) ≡ (s && t)
    twice true t = refl
    twice false t = refl

    by : (j < k) ⊎ (k ≤ j) → (word_bit n j && word_bit (n - 1) j) ≡ (word_bit n j && not (eqb j k))
    by (inl low) = ap (λ (t : Bool). t && word_bit (n - 1) j) (none j low) ∙ ap (λ (t : Bool). t && not (eqb j k)) (sym (none j low))
    by (inr from) = ap (λ (t : Bool). word_bit n j && t) (pred-bits k n j none here from) ∙ twice (word_bit n j) (not (eqb j k))

-- the bits of a word that are set, by its lowest and what is behind it
bits-counted : (n m d : ℕ) → d < 2 → n ≡ m * 2 + d → ones n ≡ d + ones m
bits-counted n m d low is = ones_step n ∙ ap₂ (λ (r q : ℕ). r + ones q) {x = n % 2} {y = d} {u = n / 2} {v = m} (omega arith) (omega arith)

-- a word without its lowest bit has one fewer
pub one-fewer : (n k : ℕ) → ((i : ℕ) → i < k → word_bit n i ≡ false) → word_bit n k ≡ true → ones (bit_and n (n - 1)) + 1 ≡ ones n
one-fewer n zero none here =
    let last = eqb-true (n % 2) 1 (sym (lowest n) ∙ here) in
    let halves = ap (bit_and (n / 2)) {x = (n - 1) / 2} {y = n / 2} (omega arith) ∙ and_self (n / 2) in
    let digits = ap₂ min {x = n % 2} {y = 1} {u = (n - 1) % 2} {v = 0} last (omega arith) in
    let without = and_step n (n - 1) ∙ ap₂ (λ (w d : ℕ). w * 2 + d) halves digits in
    omega (arith, bits-counted (bit_and n (n - 1)) (n / 2) 0 (omega arith) without, bits-counted n (n / 2) 1 (omega arith) (omega arith))
one-fewer n (suc k) none here =
    let even = eqb-false (n % 2) 1 (sym (lowest n) ∙ none 0 (omega arith)) in
    let some = has-bit (n / 2) k (sym (bit-behind n k) ∙ here) in
    let halves = ap (bit_and (n / 2)) {x = (n - 1) / 2} {y = n / 2 - 1} (omega arith) in
    let digits = ap₂ min {x = n % 2} {y = 0} {u = (n - 1) % 2} {v = 1} (omega arith) (omega arith) in
    let without = and_step n (n - 1) ∙ ap₂ (λ (w d : ℕ). w * 2 + d) halves digits in
    let fewer = one-fewer (n / 2) k (λ i low. sym (bit-behind n i) ∙ none (suc i) (omega arith)) (sym (bit-behind n k) ∙ here) in
    omega (arith, fewer, bits-counted (bit_and n (n - 1)) (bit_and (n / 2) (n / 2 - 1)) 0 (omega arith) without, bits-counted n (n / 2) 0 (omega arith) (omega arith))
