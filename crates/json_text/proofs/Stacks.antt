-- The open brackets as a list, innermost first, and the number that stands for them.
use Rattle.std.proofs.Common.{ℕ, zero, suc, ◌+◌, ◌*◌, ◌/◌, ◌%◌, ◌≤◌, ◌<◌, ◌≡◌, false, List, [], ◌∷◌, eqb, length, arith, ne_eqb}

pub data Bracket : Type 0 where
  list object : Bracket

abbrev pub bit : Bracket → ℕ
bit list = 0
bit object = 1

abbrev pub code : List Bracket → ℕ
code [] = 1
code (k ∷ ks) = code ks * 2 + bit k

abbrev pub below : List Bracket → List Bracket
below [] = []
below (k ∷ ks) = ks

bit-small : (k : Bracket) → bit k < 2
bit-small list = omega arith
bit-small object = omega arith

pub positive : (ks : List Bracket) → 0 < code ks
positive [] = omega arith
positive (k ∷ ks) = omega (arith, positive ks)

pub not-one : (k : Bracket) (ks : List Bracket) → eqb (code (k ∷ ks)) 1 ≡ false
not-one k ks = ne_eqb (code (k ∷ ks)) 1 (omega (arith, positive ks))

pub half : (k : Bracket) (ks : List Bracket) → code (k ∷ ks) / 2 ≡ code ks
half k ks = omega (arith, bit-small k)

pub parity : (k : Bracket) (ks : List Bracket) → code (k ∷ ks) % 2 ≡ bit k
parity k ks = omega (arith, bit-small k)

abbrev two_to : ℕ → ℕ
two_to zero = 1
two_to (suc n) = two_to n * 2

under : (ks : List Bracket) (n : ℕ) → length ks ≤ n → code ks < two_to (suc n)
under [] zero h = omega arith
under [] (suc n) h = omega (arith, under [] n (omega arith))
under (k ∷ ks) zero h = absurd (omega arith)
under (k ∷ ks) (suc n) h = omega (arith, under ks n (omega arith), bit-small k)

over : (ks : List Bracket) (n : ℕ) → n ≤ length ks → two_to n ≤ code ks
over ks zero h = positive ks
over [] (suc n) h = absurd (omega arith)
over (k ∷ ks) (suc n) h = omega (arith, over ks n (omega arith))

pub has_room : (ks : List Bracket) → length ks < 8 → code ks < 256
has_room ks h = under ks 7 (omega arith)

pub is-full : (ks : List Bracket) → 8 ≤ length ks → 256 ≤ code ks
is-full ks h = over ks 8 h
