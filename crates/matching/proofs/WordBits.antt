-- The bits of a word: what `&`, `|`, `^`, a sum and a move by one position do to them; so a sum lets each star take over.
use Rattle.std.proofs.Common.{◌≡◌, ℕ, zero, suc, ◌+◌, ◌*◌, ◌/◌, ◌%◌, ◌^◌, ◌<◌, Bool, true, false, not, ◌&&◌, ◌||◌, eqb, sym, refl, ap, ◌∙◌, ap₂, mod-eq_of_lt, zero-add, div-one, arith, pow_pos, eqb-true}
use Rattle.std.proofs.Math.Bool.{or-false}
use Rattle.std.proofs.Math.Nat.{pow-succ', add-mod_right}
use Rattle.std.specs.Int.Bits.{bit_and, bit_or, bit_xor}
use Rattle.std.proofs.lemmas.Nat.{and_block, or_block, xor_block}
use Rattle.std.proofs.lemmas.Bool.{eqb-false}
use Rattle.matching.specs.Machinery.Rows.{word_bit, bit_number, pack_word, nowhere}
use Rattle.matching.specs.Machinery.Words.{moved_up, base_bit, over_bit}
use Rattle.matching.proofs.Rows.{bit-small, bit-behind, word_none, word_same}

-- a word is packed of its bits

bit-number : (n : ℕ) → bit_number (eqb (n % 2) 1) ≡ n % 2
bit-number n = by (eqb (n % 2) 1) refl
  where
    by : (t : Bool) → eqb (n % 2) 1 ≡ t → bit_number t ≡ n % 2
    by true e = sym (eqb-true (n % 2) 1 e)
    by false e = rest (n % 2) (omega arith) (eqb-false (n % 2) 1 e)
      where
        rest : (r : ℕ) → r < 2 → (r ≡ 1 → ⊥) → 0 ≡ r
        rest zero h other = refl
        rest (suc zero) h other = absurd (other refl)
        rest (suc (suc r)) h other = absurd (omega arith)

word-packed : (k word : ℕ) → word < 2 ^ k → pack_word k (word_bit word) ≡ word
unfolding pack_word
word-packed zero word h = omega arith
word-packed (suc k) word h =
    ap₂ (λ (a r : ℕ). a * 2 + r) {x = pack_word k (λ i. word_bit word (suc i))} {y = word / 2} {u = bit_number (word_bit word 0)} {v = word % 2}
    (word_same k (λ i. word_bit word (suc i)) (word_bit (word / 2)) (λ i l. bit-behind word i) ∙ word-packed k (word / 2) (omega (arith, pow-succ' 2 k)))
    (ap (λ (n : ℕ). bit_number (eqb (n % 2) 1)) (div-one word) ∙ bit-number word)
    ∙ halves word
  where
    halves : (n : ℕ) → n / 2 * 2 + n % 2 ≡ n
    halves n = omega arith

word_fits : (k : ℕ) (f : ℕ → Bool) → pack_word k f < 2 ^ k
unfolding pack_word
word_fits zero f = pow_pos 0
word_fits (suc k) f = doubled (pack_word k (λ i. f (suc i))) (bit_number (f 0)) (word_fits k (λ i. f (suc i))) (bit-small (f 0))
  where
    doubled : (a r : ℕ) → a < 2 ^ k → r < 2 → a * 2 + r < 2 ^ suc k
    doubled a r small bit = omega (arith, pow-succ' 2 k)

-- `&`, `|` and `^`, bit by bit

abbrev differs : Bool → Bool → Bool
differs true y = not y
differs false y = y

and-bit : (x y : Bool) → bit_and (bit_number x) (bit_number y) ≡ bit_number (x && y)
and-bit true true = refl
and-bit true false = refl
and-bit false y = refl

or-bit : (x y : Bool) → bit_or (bit_number x) (bit_number y) ≡ bit_number (x || y)
or-bit true true = refl
or-bit true false = refl
or-bit false y = refl

xor-bit : (x y : Bool) → bit_xor (bit_number x) (bit_number y) ≡ bit_number (differs x y)
xor-bit true true = refl
xor-bit true false = refl
xor-bit false y = refl

module _ (op : ℕ → ℕ → ℕ) (on : Bool → Bool → Bool) (none : op 0 0 ≡ 0) (bit : (x y : Bool) → op (bit_number x) (bit_number y) ≡ bit_number (on x y))
    (block : (k a b r s : ℕ) → r < 2 ^ k → s < 2 ^ k → op (a * 2 ^ k + r) (b * 2 ^ k + s) ≡ op a b * 2 ^ k + op r s) where
  word-op : (k : ℕ) (f g : ℕ → Bool) → op (pack_word k f) (pack_word k g) ≡ pack_word k (λ i. on (f i) (g i))
  unfolding pack_word
  word-op zero f g = none
  word-op (suc k) f g =
      block 1 (pack_word k (λ i. f (suc i))) (pack_word k (λ i. g (suc i))) (bit_number (f 0)) (bit_number (g 0)) (bit-small (f 0)) (bit-small (g 0))
      ∙ ap₂ (λ (a r : ℕ). a * 2 + r) (word-op k (λ i. f (suc i)) (λ i. g (suc i))) (bit (f 0) (g 0))

word_and : (k : ℕ) (f g : ℕ → Bool) → bit_and (pack_word k f) (pack_word k g) ≡ pack_word k (λ i. f i && g i)
word_and = word-op bit_and (λ x y. x && y) refl and-bit and_block

word-or : (k : ℕ) (f g : ℕ → Bool) → bit_or (pack_word k f) (pack_word k g) ≡ pack_word k (λ i. f i || g i)
word-or = word-op bit_or (λ x y. x || y) refl or-bit or_block

word-xor : (k : ℕ) (f g : ℕ → Bool) → bit_xor (pack_word k f) (pack_word k g) ≡ pack_word k (λ i. differs (f i) (g i))
word-xor = word-op bit_xor differs refl xor-bit xor_block

-- a sum, bit by bit

-- the bit of a sum, and the carry to the next one
abbrev sum_of : Bool → Bool → Bool → Bool
sum_of x y d = differs (differs x y) d

abbrev carry_of : Bool → Bool → Bool → Bool
carry_of true y d = y || d
carry_of false y d = y && d

-- the carry into a bit
abbrev carries : (ℕ → Bool) → (ℕ → Bool) → Bool → ℕ → Bool
carries f g d zero = d
carries f g d (suc k) = carry_of (f k) (g k) (carries f g d k)

three-bits : (x y d : Bool) → bit_number x + bit_number y + bit_number d ≡ bit_number (sum_of x y d) + 2 * bit_number (carry_of x y d)
three-bits true true true = refl
three-bits true true false = refl
three-bits true false true = refl
three-bits true false false = refl
three-bits false true true = refl
three-bits false true false = refl
three-bits false false true = refl
three-bits false false false = refl

carry-behind : (f g : ℕ → Bool) (d : Bool) (k : ℕ) → carries (λ i. f (suc i)) (λ i. g (suc i)) (carry_of (f 0) (g 0) d) k ≡ carries f g d (suc k)
carry-behind f g d zero = refl
carry-behind f g d (suc k) = ap (carry_of (f (suc k)) (g (suc k))) (carry-behind f g d k)

word_sum : (k : ℕ) (f g : ℕ → Bool) (d : Bool)
    → pack_word k f + pack_word k g + bit_number d ≡ pack_word k (λ i. sum_of (f i) (g i) (carries f g d i)) + 2 ^ k * bit_number (carries f g d k)
unfolding pack_word
word_sum zero f g true = refl
word_sum zero f g false = refl
word_sum (suc k) f g d =
    halves (pack_word k (λ i. f (suc i))) (pack_word k (λ i. g (suc i))) (bit_number (f 0)) (bit_number (g 0)) (bit_number d)
    (pack_word k (λ i. sum_of (f (suc i)) (g (suc i)) (carries f g d (suc i)))) (bit_number (sum_of (f 0) (g 0) d)) (bit_number (carry_of (f 0) (g 0) d)) (carries f g d (suc k))
    (three-bits (f 0) (g 0) d)
    (word_sum k (λ i. f (suc i)) (λ i. g (suc i)) (carry_of (f 0) (g 0) d)
    ∙ ap₂ (λ (a : ℕ) (t : Bool). a + 2 ^ k * bit_number t)
    (word_same k (λ i. sum_of (f (suc i)) (g (suc i)) (carries (λ j. f (suc j)) (λ j. g (suc j)) (carry_of (f 0) (g 0) d) i))
    (λ i. sum_of (f (suc i)) (g (suc i)) (carries f g d (suc i))) (λ i l. ap (sum_of (f (suc i)) (g (suc i))) (carry-behind f g d i)))
    (carry-behind f g d k))
  where
    halves : (a b x y z s r e : ℕ) (t : Bool) → x + y + z ≡ r + 2 * e → a + b + e ≡ s + 2 ^ k * bit_number t
        → (a * 2 + x) + (b * 2 + y) + z ≡ (s * 2 + r) + 2 ^ suc k * bit_number t
    halves a b x y z s r e true low high = omega (arith, pow-succ' 2 k)
    halves a b x y z s r e false low high = omega (arith, pow-succ' 2 k)

word-wraps : (k : ℕ) (f g : ℕ → Bool) → (pack_word k f + pack_word k g) % 2 ^ k ≡ pack_word k (λ i. sum_of (f i) (g i) (carries f g false i))
word-wraps k f g = by (carries f g false k) (word_sum k f g false)
  where
    by : (t : Bool) → pack_word k f + pack_word k g + 0 ≡ pack_word k (λ i. sum_of (f i) (g i) (carries f g false i)) + 2 ^ k * bit_number t
        → (pack_word k f + pack_word k g) % 2 ^ k ≡ pack_word k (λ i. sum_of (f i) (g i) (carries f g false i))
    by true e =
        ap (λ (n : ℕ). n % 2 ^ k) {x = pack_word k f + pack_word k g} {y = pack_word k (λ i. sum_of (f i) (g i) (carries f g false i)) + 2 ^ k} (omega arith)
        ∙ add-mod_right (pack_word k (λ i. sum_of (f i) (g i) (carries f g false i))) (2 ^ k)
        ∙ mod-eq_of_lt (word_fits k (λ i. sum_of (f i) (g i) (carries f g false i)))
    by false e =
        ap (λ (n : ℕ). n % 2 ^ k) {x = pack_word k f + pack_word k g} {y = pack_word k (λ i. sum_of (f i) (g i) (carries f g false i))} (omega arith)
        ∙ mod-eq_of_lt (word_fits k (λ i. sum_of (f i) (g i) (carries f g false i)))

-- one position up is the sum of a word with itself

word-doubled : (k : ℕ) (f : ℕ → Bool) → pack_word k f * 2 % 2 ^ k ≡ pack_word k (moved_up f false)
word-doubled k f =
    ap (λ (n : ℕ). n % 2 ^ k) {x = pack_word k f * 2} {y = pack_word k f + pack_word k f} (omega arith)
    ∙ word-wraps k f f
    ∙ word_same k (λ i. sum_of (f i) (f i) (carries f f false i)) (moved_up f false) (λ i l. twice (f i) (carries f f false i) ∙ carried i)
  where
    twice : (x d : Bool) → sum_of x x d ≡ d
    twice true d = refl
    twice false d = refl

    both : (x d : Bool) → carry_of x x d ≡ x
    both true d = refl
    both false d = refl

    carried : (i : ℕ) → carries f f false i ≡ moved_up f false i
    carried zero = refl
    carried (suc i) = both (f i) (carries f f false i)

word-lowest : (k : ℕ) (t : Bool) → pack_word (suc k) (moved_up nowhere t) ≡ bit_number t
unfolding pack_word
word-lowest k t = ap (λ (a : ℕ). a * 2 + bit_number t) (word_none k nowhere (λ i. refl)) ∙ zero-add (bit_number t)

pub word_moved : (word before : ℕ) → word < 2 ^ 64 → before < 2 ^ 64
    → bit_or (word * 2 % 2 ^ 64) (before / 2 ^ 63) ≡ pack_word 64 (moved_up (word_bit word) (word_bit before 63))
word_moved word before fits fits-before =
    ap₂ bit_or (ap (λ (n : ℕ). n * 2 % 2 ^ 64) (sym (word-packed 64 word fits)) ∙ word-doubled 64 (word_bit word)) (top before fits-before)
    ∙ word-or 64 (moved_up (word_bit word) false) (moved_up nowhere (word_bit before 63))
    ∙ word_same 64 (λ i. moved_up (word_bit word) false i || moved_up nowhere (word_bit before 63) i) (moved_up (word_bit word) (word_bit before 63)) (λ i l. joined (word_bit word) (word_bit before 63) i)
  where
    top : (n : ℕ) → n < 2 ^ 64 → n / 2 ^ 63 ≡ pack_word 64 (moved_up nowhere (word_bit n 63))
    top n h = single (n / 2 ^ 63) (omega arith) ∙ sym (bit-number (n / 2 ^ 63)) ∙ sym (word-lowest 63 (word_bit n 63))
      where
        single : (a : ℕ) → a < 2 → a ≡ a % 2
        single a small = omega arith

    joined : (f : ℕ → Bool) (t : Bool) (i : ℕ) → (moved_up f false i || moved_up nowhere t i) ≡ moved_up f t i
    joined f t zero = refl
    joined f t (suc i) = or-false (f i)

-- what the byte leads to, and the stars that keep what they had
pub word-base : (taken stars old before moved : ℕ) → taken < 2 ^ 64 → stars < 2 ^ 64 → old < 2 ^ 64
    → moved ≡ pack_word 64 (moved_up (word_bit old) (word_bit before 63))
    → bit_or (bit_and moved taken) (bit_and old stars) ≡ pack_word 64 (base_bit (word_bit taken) (word_bit stars) (word_bit old) (word_bit before 63))
word-base taken stars old before moved fits-taken fits-stars fits-old is =
    ap₂ bit_or
    (ap₂ bit_and is (sym (word-packed 64 taken fits-taken)) ∙ word_and 64 (moved_up (word_bit old) (word_bit before 63)) (word_bit taken))
    (ap₂ bit_and (sym (word-packed 64 old fits-old)) (sym (word-packed 64 stars fits-stars)) ∙ word_and 64 (word_bit old) (word_bit stars))
    ∙ word-or 64 (λ k. moved_up (word_bit old) (word_bit before 63) k && word_bit taken k) (λ k. word_bit old k && word_bit stars k)

-- each star takes over what the position in front has

module _ (base stars : ℕ → Bool) (before : Bool) where
  -- the stars in front of which something is reached
  abbrev seeds : ℕ → Bool
  seeds k = moved_up base before k && stars k

  over-next : (k : ℕ) → over_bit base stars before k ≡ (base k || stars k && moved_up (over_bit base stars before) before k)
  over-next zero = refl
  over-next (suc k) = refl

  -- the carry of the sum runs through the stars that take over
  carry_over : (k : ℕ) → ((seeds k || carries stars seeds false k) && stars k) ≡ (stars k && moved_up (over_bit base stars before) before k)
  carry_over zero = first before (stars 0)
    where
      first : (t s : Bool) → ((t && s || false) && s) ≡ (s && t)
      first true true = refl
      first true false = refl
      first false true = refl
      first false false = refl
  carry_over (suc k) =
      ap (λ (d : Bool). (base k && stars (suc k) || d) && stars (suc k)) (carried (moved_up base before k) (stars k) (carries stars seeds false k) ∙ carry_over k)
      ∙ spread (base k) (stars k && moved_up (over_bit base stars before) before k) (stars (suc k))
      ∙ ap (λ (t : Bool). stars (suc k) && t) (sym (over-next k))
    where
      carried : (m s d : Bool) → carry_of s (m && s) d ≡ ((m && s || d) && s)
      carried true true d = refl
      carried true false true = refl
      carried true false false = refl
      carried false true true = refl
      carried false true false = refl
      carried false false true = refl
      carried false false false = refl

      spread : (x y s : Bool) → ((x && s || y) && s) ≡ (s && (x || y))
      spread true y true = refl
      spread true true false = refl
      spread true false false = refl
      spread false true true = refl
      spread false false true = refl
      spread false true false = refl
      spread false false false = refl

  over-bit : (k : ℕ) → (base k || (differs (sum_of (stars k) (seeds k) (carries stars seeds false k)) (stars k) || seeds k) && stars k) ≡ over_bit base stars before k
  over-bit k =
      ap (λ (t : Bool). base k || t) (changed (stars k) (seeds k) (carries stars seeds false k) ∙ carry_over k) ∙ sym (over-next k)
    where
      changed : (s g d : Bool) → ((differs (sum_of s g d) s || g) && s) ≡ ((g || d) && s)
      changed true true true = refl
      changed true true false = refl
      changed true false true = refl
      changed true false false = refl
      changed false true true = refl
      changed false true false = refl
      changed false false true = refl
      changed false false false = refl

pub word_over : (base stars before moved sum : ℕ) → base < 2 ^ 64 → stars < 2 ^ 64
    → moved ≡ pack_word 64 (moved_up (word_bit base) (word_bit before 63)) → sum ≡ (stars + bit_and moved stars) % 2 ^ 64
    → bit_or base (bit_and (bit_or (bit_xor sum stars) (bit_and moved stars)) stars) ≡ pack_word 64 (over_bit (word_bit base) (word_bit stars) (word_bit before 63))
word_over base stars before moved sum fits-base fits-stars is total =
    ap₂ bit_or (sym packed-base)
    (ap₂ bit_and
    (ap₂ bit_or (ap₂ bit_xor summed (sym packed-stars) ∙ word-xor 64 sums (word_bit stars)) seeded
    ∙ word-or 64 (λ k. differs (sums k) (word_bit stars k)) seed)
    (sym packed-stars)
    ∙ word_and 64 (λ k. differs (sums k) (word_bit stars k) || seed k) (word_bit stars))
    ∙ word-or 64 (word_bit base) (λ k. (differs (sums k) (word_bit stars k) || seed k) && word_bit stars k)
    ∙ word_same 64 (λ k. word_bit base k || (differs (sums k) (word_bit stars k) || seed k) && word_bit stars k) (over_bit (word_bit base) (word_bit stars) (word_bit before 63))
    (λ k l. over-bit (word_bit base) (word_bit stars) (word_bit before 63) k)
  where
    seed : ℕ → Bool
    seed = seeds (word_bit base) (word_bit stars) (word_bit before 63)

    sums : ℕ → Bool
    sums k = sum_of (word_bit stars k) (seed k) (carries (word_bit stars) seed false k)

    packed-base : pack_word 64 (word_bit base) ≡ base
    packed-base = word-packed 64 base fits-base

    packed-stars : pack_word 64 (word_bit stars) ≡ stars
    packed-stars = word-packed 64 stars fits-stars

    seeded : bit_and moved stars ≡ pack_word 64 seed
    seeded = ap₂ bit_and is (sym packed-stars) ∙ word_and 64 (moved_up (word_bit base) (word_bit before 63)) (word_bit stars)

    summed : sum ≡ pack_word 64 sums
    summed = total ∙ ap₂ (λ (a b : ℕ). (a + b) % 2 ^ 64) (sym packed-stars) seeded ∙ word-wraps 64 (word_bit stars) seed
