-- The text of a network says the network.
use Rattle.std.proofs.Common.{ℕ, zero, suc, ◌+◌, ◌*◌, ◌-◌, ◌/◌, ◌%◌, ◌^◌, ◌≤◌, ◌<◌, ◌≡◌, refl, ◌∙◌, ap, Bool, true, false, List, [], ◌∷◌, leb, arith, leb-true, leb-false, le-leb}
use Rattle.json_text.specs.Choice.{pick}
use Rattle.json_text.specs.Bytes.{is_digit}
use Rattle.stored.specs.Values.{byte_in_range, in_range}
use Rattle.records.specs.Networks.{Read, Number, with_digit, length_of, numbers_of, network_of}
use Rattle.records.specs.Networks.Number.{blank, value}
use Rattle.records.specs.Networks.Longer.{goes}
use Rattle.printed.specs.Machinery.NetworkTexts.{decimal, network_text}

-- a digit's byte
is_digit_lem : (d : ℕ) → d ≤ 9 → is_digit (0x30 + d) ≡ true
is_digit_lem d h = rw (le-leb 0x30 (0x30 + d) (omega arith), le-leb (0x30 + d) 0x39 (omega arith))

first-digit : (most d : ℕ) → d ≤ most → with_digit most d blank ≡ goes d
first-digit most d h = rw (le-leb d most h)

next-digit : (most d m : ℕ) → 0 < m → m * 10 + d ≤ most → with_digit most d (value m) ≡ goes (m * 10 + d)
next-digit most d zero p h = absurd (omega arith)
next-digit most d (suc m) p h = rw (le-leb (suc m * 10 + d) most h)

-- what reads decimal numbers up to a greatest one, digit by digit
pub record Decimals (most : ℕ) (go : List ℕ → Number → Read) : Type 0 where
  pub one_digit : (d : ℕ) → d ≤ 9 → (bs : List ℕ) (n : Number) (m : ℕ) → with_digit most d n ≡ goes m → go ((0x30 + d) ∷ bs) n ≡ go bs (value m)

-- a decimal number is read as itself
pub decimal-read : (most : ℕ) (go : List ℕ → Number → Read) → Decimals most go → (n : ℕ) → n ≤ most → n < 1000 → (r : List ℕ)
    → go (decimal n r) blank ≡ go r (value n)
unfolding decimal
decimal-read most go x n high small r = by (leb 100 n) refl (leb 10 n) refl
  where
    by : (a : Bool) → leb 100 n ≡ a → (b : Bool) → leb 10 n ≡ b
        → go (pick a ((0x30 + n / 100) ∷ (0x30 + n / 10 % 10) ∷ (0x30 + n % 10) ∷ r) (pick b ((0x30 + n / 10) ∷ (0x30 + n % 10) ∷ r) ((0x30 + n) ∷ r))) blank
        ≡ go r (value n)
    by true e b f =
        let l = leb-true 100 n e in
        let whole : (n / 100 * 10 + n / 10 % 10) * 10 + n % 10 ≡ n = omega arith in
        x.one_digit (n / 100) (omega arith) _ blank (n / 100) (first-digit most (n / 100) (omega arith))
        ∙ x.one_digit (n / 10 % 10) (omega arith) _ (value (n / 100)) (n / 100 * 10 + n / 10 % 10)
        (next-digit most (n / 10 % 10) (n / 100) (omega arith) (omega arith))
        ∙ x.one_digit (n % 10) (omega arith) r (value (n / 100 * 10 + n / 10 % 10)) ((n / 100 * 10 + n / 10 % 10) * 10 + n % 10)
        (next-digit most (n % 10) (n / 100 * 10 + n / 10 % 10) (omega arith) (omega arith))
        ∙ ap (λ (m : ℕ). go r (value m)) whole
    by false e true f =
        let l = leb-true 10 n f in
        let k = leb-false 100 n e in
        let whole : n / 10 * 10 + n % 10 ≡ n = omega arith in
        x.one_digit (n / 10) (omega arith) _ blank (n / 10) (first-digit most (n / 10) (omega arith))
        ∙ x.one_digit (n % 10) (omega arith) r (value (n / 10)) (n / 10 * 10 + n % 10) (next-digit most (n % 10) (n / 10) (omega arith) (omega arith))
        ∙ ap (λ (m : ℕ). go r (value m)) whole
    by false e false f =
        let k = leb-false 10 n f in
        x.one_digit n (omega arith) r blank n (first-digit most n high)

less : (d : ℕ) → 0x30 + d - 0x30 ≡ d
less d = omega arith

numbers-decimals : (k a : ℕ) → Decimals 255 (λ bs n. numbers_of bs k a n)
numbers-decimals k a = record { one_digit = λ d h bs n m e. rw (is_digit_lem d h, less d, e) }

length-decimals : (a : ℕ) → Decimals 32 (λ bs n. length_of a bs n)
length-decimals a = record { one_digit = λ d h bs n m e. rw (is_digit_lem d h, less d, e) }

pub network-read : (a n : ℕ) → a < 2 ^ 32 → n ≤ 32 → network_of (network_text a n) ≡ Read.network a n
unfolding network_of network_text
network-read a n small short =
    let whole : ((0 * 256 + a / 0x1000000) * 256 + a / 0x10000 % 0x100) * 256 + a / 0x100 % 0x100 ≡ a / 0x100 = omega arith in
    let all : a / 0x100 * 256 + a % 0x100 ≡ a = omega arith in
    decimal-read 255 (λ bs n. numbers_of bs 3 0 n) (numbers-decimals 3 0) (a / 0x1000000) (omega arith) (omega arith) _
    ∙ decimal-read 255 (λ bs n. numbers_of bs 2 (0 * 256 + a / 0x1000000) n) (numbers-decimals 2 (0 * 256 + a / 0x1000000)) (a / 0x10000 % 0x100) (omega arith) (omega arith) _
    ∙ decimal-read 255 (λ bs n. numbers_of bs 1 ((0 * 256 + a / 0x1000000) * 256 + a / 0x10000 % 0x100) n)
    (numbers-decimals 1 ((0 * 256 + a / 0x1000000) * 256 + a / 0x10000 % 0x100)) (a / 0x100 % 0x100) (omega arith) (omega arith) _
    ∙ decimal-read 255 (λ bs n. numbers_of bs 0 (((0 * 256 + a / 0x1000000) * 256 + a / 0x10000 % 0x100) * 256 + a / 0x100 % 0x100) n)
    (numbers-decimals 0 (((0 * 256 + a / 0x1000000) * 256 + a / 0x10000 % 0x100) * 256 + a / 0x100 % 0x100)) (a % 0x100) (omega arith) (omega arith) _
    ∙ decimal-read 32 (λ bs n. length_of ((((0 * 256 + a / 0x1000000) * 256 + a / 0x10000 % 0x100) * 256 + a / 0x100 % 0x100) * 256 + a % 0x100) bs n)
    (length-decimals ((((0 * 256 + a / 0x1000000) * 256 + a / 0x10000 % 0x100) * 256 + a / 0x100 % 0x100) * 256 + a % 0x100)) n short (omega arith) []
    ∙ rw (whole, all)

-- its bytes lie in 21 to 7E hex
digit-shown : (d : ℕ) → d ≤ 9 → byte_in_range (0x30 + d) ≡ true
digit-shown d h = rw (le-leb 0x21 (0x30 + d) (omega arith), le-leb (0x30 + d) 0x7E (omega arith))

decimal-shown : (n : ℕ) → n < 1000 → (r : List ℕ) → in_range r ≡ true → in_range (decimal n r) ≡ true
unfolding decimal
decimal-shown n small r h = by (leb 100 n) refl (leb 10 n) refl
  where
    by : (a : Bool) → leb 100 n ≡ a → (b : Bool) → leb 10 n ≡ b
        → in_range (pick a ((0x30 + n / 100) ∷ (0x30 + n / 10 % 10) ∷ (0x30 + n % 10) ∷ r) (pick b ((0x30 + n / 10) ∷ (0x30 + n % 10) ∷ r) ((0x30 + n) ∷ r))) ≡ true
    by true e b f =
        let l = leb-true 100 n e in
        rw (digit-shown (n / 100) (omega arith), digit-shown (n / 10 % 10) (omega arith), digit-shown (n % 10) (omega arith)) h
    by false e true f =
        let k = leb-false 100 n e in
        rw (digit-shown (n / 10) (omega arith), digit-shown (n % 10) (omega arith)) h
    by false e false f = let k = leb-false 10 n f in rw (digit-shown n (omega arith)) h

pub network-shown : (a n : ℕ) → a < 2 ^ 32 → n ≤ 32 → in_range (network_text a n) ≡ true
unfolding network_text
network-shown a n small short =
    decimal-shown (a / 0x1000000) (omega arith) _ (decimal-shown (a / 0x10000 % 0x100) (omega arith) _
    (decimal-shown (a / 0x100 % 0x100) (omega arith) _ (decimal-shown (a % 0x100) (omega arith) _ (decimal-shown n (omega arith) [] refl))))
