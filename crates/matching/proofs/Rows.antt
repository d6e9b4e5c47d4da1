-- Rows of bits: a packed row has the bits that it was packed of, and marking one position after the other packs a row.
use Rattle.std.proofs.Common.{◌≡◌, ℕ, zero, suc, ◌+◌, ◌-◌, ◌*◌, ◌/◌, ◌%◌, ◌^◌, ◌<◌, ◌≤◌, Bool, true, false, ◌&&◌, eqb, ltb, ◌⊎◌, List, ◌∷◌, get_or, set, replicate, sym, refl, ap, ◌∙◌, subst, ap₂, inl, inr, le_of_suc-le-suc, not-suc-le-zero, one-mul, div-one, arith, pow_pos, ltb-false, ltb-true, le-ltb, lt-ltb}
use Rattle.std.proofs.Math.Path.{fun_ext}
use Rattle.std.proofs.Math.Nat.{pow-succ', div-div-eq-div-mul, zero-div}
use Rattle.std.proofs.Math.Dec.{leb-suc-suc}
use Rattle.std.proofs.Math.Arith.{lt_of_le-ne}
use Rattle.std.specs.Int.Bits.{bit_or, or_shifted_r}
use Rattle.matching.specs.Machinery.Rows.{word_bit, row_bit, bit_number, pack_word, pack, mark_row}

-- f below p, and false from there on
abbrev pub upto : ℕ → (ℕ → Bool) → ℕ → Bool
upto p f q = ltb q p && f q

pub below_or_not : (p n : ℕ) → (p < n) ⊎ (n ≤ p)
below_or_not p n = by (ltb p n) refl
  where
    by : (t : Bool) → ltb p n ≡ t → (p < n) ⊎ (n ≤ p)
    by true e = inl (ltb-true p n e)
    by false e = inr (ltb-false p n e)

pub bit-small : (t : Bool) → bit_number t < 2
bit-small true = omega arith
bit-small false = omega arith

bit_is : (t : Bool) → eqb (bit_number t) 1 ≡ t
bit_is true = refl
bit_is false = refl

-- a bit behind the lowest one
pub bit-behind : (word k : ℕ) → word_bit word (suc k) ≡ word_bit (word / 2) k
bit-behind word k =
    ap (λ (n : ℕ). eqb (n % 2) 1) (ap (λ (n : ℕ). word / n) (pow-succ' 2 k) ∙ sym (div-div-eq-div-mul word 2 (2 ^ k)))

pub word-bit : (k i : ℕ) (f : ℕ → Bool) → i < k → word_bit (pack_word k f) i ≡ f i
unfolding pack_word
word-bit zero i f h = absurd (not-suc-le-zero h)
word-bit (suc k) zero f h =
    ap (λ (n : ℕ). eqb (n % 2) 1) (div-one (pack_word k (λ i. f (suc i)) * 2 + bit_number (f 0)))
    ∙ ap (λ (n : ℕ). eqb n 1) (low (pack_word k (λ i. f (suc i))) (bit_number (f 0)) (bit-small (f 0)))
    ∙ bit_is (f 0)
  where
    low : (a r : ℕ) → r < 2 → (a * 2 + r) % 2 ≡ r
    low a r small = omega arith
word-bit (suc k) (suc i) f h =
    bit-behind (pack_word k (λ x. f (suc x)) * 2 + bit_number (f 0)) i
    ∙ ap (λ (n : ℕ). word_bit n i) (half (pack_word k (λ x. f (suc x))) (bit_number (f 0)) (bit-small (f 0)))
    ∙ word-bit k i (λ x. f (suc x)) (le_of_suc-le-suc h)
  where
    half : (a r : ℕ) → r < 2 → (a * 2 + r) / 2 ≡ a
    half a r small = omega arith

abbrev bit_at : List ℕ → ℕ → ℕ → Bool
bit_at row i k = word_bit (get_or row i 0) k

-- bit p of a packed row
pub row-bit : (n p : ℕ) (f : ℕ → Bool) → p < n * 64 → row_bit (pack n f) p ≡ f p
unfolding row_bit pack
row-bit zero p f h = absurd (not-suc-le-zero (subst (λ (m : ℕ). p < m) (omega arith) h))
row-bit (suc n) p f h = by (below_or_not p 64) (row-bit n (p - 64) (λ q. f (64 + q)))
  where
    by : (p < 64) ⊎ (64 ≤ p) → (p - 64 < n * 64 → row_bit (pack n (λ q. f (64 + q))) (p - 64) ≡ f (64 + (p - 64))) → row_bit (pack (suc n) f) p ≡ f p
    by (inl small) rest =
        ap₂ (bit_at (pack (suc n) f)) {x = p / 64} {y = 0} {u = p % 64} {v = p} (omega arith) (omega arith) ∙ word-bit 64 p f small
    by (inr large) rest =
        ap₂ (bit_at (pack (suc n) f)) {x = p / 64} {y = suc ((p - 64) / 64)} {u = p % 64} {v = (p - 64) % 64} (omega arith) (omega arith)
        ∙ rest (omega arith)
        ∙ ap f (omega arith)

-- f below p

pub upto-below : (p q : ℕ) (f : ℕ → Bool) → q < p → upto p f q ≡ f q
upto-below p q f h = ap (λ (t : Bool). t && f q) (lt-ltb q p h)

pub upto-past : (p q : ℕ) (f : ℕ → Bool) → p ≤ q → upto p f q ≡ false
upto-past p q f h = ap (λ (t : Bool). t && f q) (le-ltb q p h)

upto-suc : (p : ℕ) (f : ℕ → Bool) → ◌≡◌ {A = ℕ → Bool} (λ i. upto (suc p) f (suc i)) (upto p (λ i. f (suc i)))
upto-suc p f = fun_ext (λ (i : ℕ). ap (λ (t : Bool). t && f (suc i)) (leb-suc-suc (suc i) p))

upto-more : (p q : ℕ) (f : ℕ → Bool) → (p ≡ q → ⊥) → upto (suc p) f q ≡ upto p f q
upto-more p q f h = by (below_or_not q p)
  where
    by : (q < p) ⊎ (p ≤ q) → upto (suc p) f q ≡ upto p f q
    by (inl l) = upto-below (suc p) q f (omega arith) ∙ sym (upto-below p q f l)
    by (inr g) = upto-past (suc p) q f (lt_of_le-ne g h) ∙ sym (upto-past p q f g)

-- a position that f does not have changes nothing
upto-lacks : (p : ℕ) (f : ℕ → Bool) → f p ≡ false → upto (suc p) f ≡ upto p f
upto-lacks p f e = fun_ext (λ (q : ℕ). by q (below_or_not q p) (below_or_not p q))
  where
    by : (q : ℕ) → (q < p) ⊎ (p ≤ q) → (p < q) ⊎ (q ≤ p) → upto (suc p) f q ≡ upto p f q
    by q (inl l) h = upto-more p q f (λ w. omega arith)
    by q (inr g) (inl l) = upto-more p q f (λ w. omega arith)
    by q (inr g) (inr l) =
        let same : p ≡ q = omega arith in
        upto-below (suc p) q f (omega arith) ∙ ap f (sym same) ∙ e ∙ sym (upto-past p q f g)

-- words

pub word_none : (k : ℕ) (f : ℕ → Bool) → ((i : ℕ) → f i ≡ false) → pack_word k f ≡ 0
unfolding pack_word
word_none zero f e = refl
word_none (suc k) f e =
    ap₂ (λ (a : ℕ) (t : Bool). a * 2 + bit_number t) {x = pack_word k (λ i. f (suc i))} {y = 0} {u = f 0} {v = false}
    (word_none k (λ i. f (suc i)) (λ i. e (suc i))) (e 0)

word_small : (k p : ℕ) (f : ℕ → Bool) → pack_word k (upto p f) < 2 ^ p
unfolding pack_word
word_small zero p f = pow_pos p
word_small (suc k) zero f =
    subst (λ (n : ℕ). n < 2 ^ 0) (sym (word_none (suc k) (upto 0 f) (λ i. upto-past 0 i f (omega arith)))) (pow_pos 0)
word_small (suc k) (suc p) f =
    subst (λ (n : ℕ). n < 2 ^ suc p) (ap (λ (g : ℕ → Bool). pack_word k g * 2 + bit_number (upto (suc p) f 0)) (sym (upto-suc p f)))
    (doubled (pack_word k (upto p (λ i. f (suc i)))) (bit_number (upto (suc p) f 0)) (word_small k p (λ i. f (suc i))) (bit-small (upto (suc p) f 0)))
  where
    doubled : (a r : ℕ) → a < 2 ^ p → r < 2 → a * 2 + r < 2 ^ suc p
    doubled a r small bit = omega (arith, pow-succ' 2 p)

word-add : (k p : ℕ) (f : ℕ → Bool) → p < k → f p ≡ true → pack_word k (upto (suc p) f) ≡ 2 ^ p + pack_word k (upto p f)
unfolding pack_word
word-add zero p f h e = absurd (not-suc-le-zero h)
word-add (suc k) zero f h e =
    ap₂ (λ (a : ℕ) (t : Bool). a * 2 + bit_number t) {x = pack_word k (λ i. upto 1 f (suc i))} {y = 0} {u = upto 1 f 0} {v = true}
    (word_none k (λ i. upto 1 f (suc i)) (λ i. upto-past 1 (suc i) f (omega arith)))
    (upto-below 1 0 f (omega arith) ∙ e)
    ∙ ap (λ (n : ℕ). 1 + n) (sym (word_none (suc k) (upto 0 f) (λ i. upto-past 0 i f (omega arith))))
word-add (suc k) (suc p) f h e =
    ap₂ (λ (a : ℕ) (t : Bool). a * 2 + bit_number t) {x = pack_word k (λ i. upto (suc (suc p)) f (suc i))} {y = 2 ^ p + pack_word k (upto p (λ i. f (suc i)))}
    {u = upto (suc (suc p)) f 0} {v = upto (suc p) f 0}
    (ap (pack_word k) (upto-suc (suc p) f) ∙ word-add k p (λ i. f (suc i)) (le_of_suc-le-suc h) e)
    (upto-more (suc p) 0 f (λ w. omega arith))
    ∙ doubled (pack_word k (upto p (λ i. f (suc i)))) (bit_number (upto (suc p) f 0))
    ∙ ap (λ (g : ℕ → Bool). 2 ^ suc p + (pack_word k g * 2 + bit_number (upto (suc p) f 0))) (sym (upto-suc p f))
  where
    doubled : (a r : ℕ) → (2 ^ p + a) * 2 + r ≡ 2 ^ suc p + (a * 2 + r)
    doubled a r = omega (arith, pow-succ' 2 p)

word-mark : (k p : ℕ) (f : ℕ → Bool) → p < k → f p ≡ true → bit_or (pack_word k (upto p f)) (2 ^ p) ≡ pack_word k (upto (suc p) f)
word-mark k p f h e =
    ap (bit_or (pack_word k (upto p f))) (sym (one-mul (2 ^ p)))
    ∙ or_shifted_r 1 p (pack_word k (upto p f)) (word_small k p f)
    ∙ ap (λ (n : ℕ). n + pack_word k (upto p f)) (one-mul (2 ^ p))
    ∙ sym (word-add k p f h e)

pub word_same : (k : ℕ) (f g : ℕ → Bool) → ((i : ℕ) → i < k → f i ≡ g i) → pack_word k f ≡ pack_word k g
unfolding pack_word
word_same zero f g e = refl
word_same (suc k) f g e =
    ap₂ (λ (a : ℕ) (t : Bool). a * 2 + bit_number t) {x = pack_word k (λ i. f (suc i))} {y = pack_word k (λ i. g (suc i))} {u = f 0} {v = g 0}
    (word_same k (λ i. f (suc i)) (λ i. g (suc i)) (λ i h. e (suc i) (omega arith))) (e 0 (omega arith))

-- rows

-- rows of bits that agree are the same
pub row_same : (n : ℕ) (f g : ℕ → Bool) → ((p : ℕ) → p < n * 64 → f p ≡ g p) → pack n f ≡ pack n g
unfolding pack
row_same zero f g e = refl
row_same (suc n) f g e =
    ap₂ (λ (a : ℕ) (r : List ℕ). a ∷ r) {x = pack_word 64 f} {y = pack_word 64 g} {u = pack n (λ q. f (64 + q))} {v = pack n (λ q. g (64 + q))}
    (word_same 64 f g (λ i h. e i (omega arith)))
    (row_same n (λ q. f (64 + q)) (λ q. g (64 + q)) (λ q h. e (64 + q) (omega arith)))

-- a row of no bits
pub row-none : (n : ℕ) (f : ℕ → Bool) → ((p : ℕ) → f p ≡ false) → pack n f ≡ replicate n 0
unfolding pack
row-none zero f e = refl
row-none (suc n) f e =
    ap₂ (λ (a : ℕ) (r : List ℕ). a ∷ r) {x = pack_word 64 f} {y = 0} {u = pack n (λ q. f (64 + q))} {v = replicate n 0}
    (word_none 64 f e) (row-none n (λ q. f (64 + q)) (λ q. e (64 + q)))

zeros : (n i : ℕ) → ◌≡◌ {A = ℕ} (get_or (replicate n 0) i 0) 0
zeros zero i = refl
zeros (suc n) zero = refl
zeros (suc n) (suc i) = zeros n i

pub row_zero : (n p : ℕ) → row_bit (replicate n 0) p ≡ false
unfolding row_bit
row_zero n p =
    ap (λ (w : ℕ). word_bit w (p % 64)) (zeros n (p / 64)) ∙ ap (λ (w : ℕ). eqb (w % 2) 1) (zero-div (2 ^ (p % 64)))

abbrev mark_at : List ℕ → ℕ → ℕ → List ℕ
mark_at row i k = set row i (bit_or (get_or row i 0) (2 ^ k))

row-mark-true : (n p : ℕ) (f : ℕ → Bool) → p < n * 64 → f p ≡ true → mark_row (pack n (upto p f)) p true ≡ pack n (upto (suc p) f)
unfolding mark_row pack
row-mark-true zero p f h e = absurd (not-suc-le-zero (subst (λ (m : ℕ). p < m) (omega arith) h))
row-mark-true (suc n) p f h e = by (below_or_not p 64) (row-mark-true n (p - 64) (λ q. f (64 + q)))
  where
    behind : (m : ℕ) → 64 ≤ m → ◌≡◌ {A = ℕ → Bool} (λ q. upto m f (64 + q)) (upto (m - 64) (λ q. f (64 + q)))
    behind m h = fun_ext (λ (q : ℕ). side q (below_or_not q (m - 64)))
      where
        side : (q : ℕ) → (q < m - 64) ⊎ (m - 64 ≤ q) → upto m f (64 + q) ≡ upto (m - 64) (λ q. f (64 + q)) q
        side q (inl l) = upto-below m (64 + q) f (omega arith) ∙ sym (upto-below (m - 64) q (λ q. f (64 + q)) l)
        side q (inr g) = upto-past m (64 + q) f (omega arith) ∙ sym (upto-past (m - 64) q (λ q. f (64 + q)) g)

    by : (p < 64) ⊎ (64 ≤ p)
        → (p - 64 < n * 64 → f (64 + (p - 64)) ≡ true → mark_row (pack n (upto (p - 64) (λ q. f (64 + q)))) (p - 64) true ≡ pack n (upto (suc (p - 64)) (λ q. f (64 + q))))
        → mark_row (pack (suc n) (upto p f)) p true ≡ pack (suc n) (upto (suc p) f)
    by (inl small) rest =
        ap₂ (mark_at (pack (suc n) (upto p f))) {x = p / 64} {y = 0} {u = p % 64} {v = p} (omega arith) (omega arith)
        ∙ ap₂ (λ (a : ℕ) (r : List ℕ). a ∷ r) (word-mark 64 p f small e)
        (row_same n (λ q. upto p f (64 + q)) (λ q. upto (suc p) f (64 + q)) (λ q l. sym (upto-more p (64 + q) f (λ w. omega arith))))
    by (inr large) rest =
        ap₂ (mark_at (pack (suc n) (upto p f))) {x = p / 64} {y = suc ((p - 64) / 64)} {u = p % 64} {v = (p - 64) % 64} (omega arith) (omega arith)
        ∙ ap₂ (λ (a : ℕ) (r : List ℕ). a ∷ r)
        (word_same 64 (upto p f) (upto (suc p) f) (λ i l. sym (upto-more p i f (λ w. omega arith))))
        (ap (λ (g : ℕ → Bool). mark_row (pack n g) (p - 64) true) (behind p large)
        ∙ rest (omega arith) (ap f (omega arith) ∙ e)
        ∙ ap (λ (m : ℕ). pack n (upto m (λ q. f (64 + q)))) {x = suc (p - 64)} {y = suc p - 64} (omega arith)
        ∙ ap (pack n) (sym (behind (suc p) (omega arith))))

unmarked : (row : List ℕ) (p : ℕ) → mark_row row p false ≡ row
unfolding mark_row
unmarked row p = refl

-- marking position p, or not, as f has it, makes a row that has f below p one that has f below p + 1
pub row-mark : (n p : ℕ) (f : ℕ → Bool) → p < n * 64 → mark_row (pack n (upto p f)) p (f p) ≡ pack n (upto (suc p) f)
row-mark n p f h = by (f p) refl
  where
    by : (t : Bool) → f p ≡ t → mark_row (pack n (upto p f)) p (f p) ≡ pack n (upto (suc p) f)
    by true e = ap (mark_row (pack n (upto p f)) p) e ∙ row-mark-true n p f h e
    by false e = ap (mark_row (pack n (upto p f)) p) e ∙ unmarked (pack n (upto p f)) p ∙ ap (pack n) (sym (upto-lacks p f e))
