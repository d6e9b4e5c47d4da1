-- A row is made from the lowest position on, by marking one position after the other or by laying one word after the other.
use Rattle.std.proofs.Common.{◌≡◌, ℕ, zero, suc, ◌+◌, ◌*◌, ◌/◌, ◌%◌, ◌<◌, ◌≤◌, Bool, true, false, ◌&&◌, ◌||◌, eqb, ◌⊎◌, List, ◌∷◌, length, get_or, set, replicate, sym, refl, ap, ◌∙◌, ap₂, inl, inr, le_of_suc-le-suc, not-suc-le-zero, add-zero, add-suc, add-one, arith, ne_eqb}
use Rattle.std.proofs.Math.Path.{fun_ext}
use Rattle.std.proofs.Math.ListN.{get_or-eq_default}
use Rattle.matching.specs.Symbols.{fold_byte}
use Rattle.matching.specs.Machinery.Codes.{one_code, star_code, takes_byte}
use Rattle.matching.specs.Machinery.Rows.{positions, word_bit, row_bit, pack_word, pack, mark_row}
use Rattle.matching.specs.Machinery.Words.{taken_bit, star_bit, set_step, moved_up, base_bit, over_bit}
use Rattle.matching.proofs.Rows.{upto, upto-below, upto-past, below_or_not, word-bit, word_same, row_same, row-none, row-mark}

-- marking

pub none-marked : (f : ℕ → Bool) → replicate 8 0 ≡ pack 8 (upto 0 f)
none-marked f = sym (row-none 8 (upto 0 f) (λ q. upto-past 0 q f (omega arith)))

pub mark-more : (f : ℕ → Bool) (row marked : List ℕ) (p : ℕ) (reached : Bool) → p < positions
    → row ≡ pack 8 (upto p f) → reached ≡ f p → marked ≡ mark_row row p reached → marked ≡ pack 8 (upto (p + 1) f)
mark-more f row marked p reached h so_far was is =
    is ∙ ap₂ (λ (r : List ℕ) (t : Bool). mark_row r p t) so_far was ∙ row-mark 8 p f h ∙ ap (λ (n : ℕ). pack 8 (upto n f)) (sym (add-one p))

pub all-marked : (f : ℕ → Bool) (p : ℕ) → ((q : ℕ) → q < positions → p ≤ q → f q ≡ false) → pack 8 (upto p f) ≡ pack 8 f
all-marked f p none = row_same 8 (upto p f) f (λ q h. by q h (below_or_not q p))
  where
    by : (q : ℕ) → q < positions → (q < p) ⊎ (p ≤ q) → upto p f q ≡ f q
    by q h (inl l) = upto-below p q f l
    by q h (inr g) = upto-past p q f g ∙ sym (none q h g)

-- no byte leads to a position that is not there, and no star stands in front of it
pub taken-outside : (codes : List ℕ) (b p : ℕ) → length codes ≤ p → taken_bit codes b p ≡ false
taken-outside codes b p h =
    ap (λ (code : ℕ). taken_code code) (get_or-eq_default codes 0 h)
    ∙ ap₂ ◌||◌ (ne_eqb 0 (b * 2 + 4) (λ w. omega arith)) (ne_eqb 0 (fold_byte b * 2 + 5) (λ w. omega arith))
  where
    taken_code : ℕ → Bool
    taken_code code = eqb code one_code || takes_byte code b

pub star-outside : (codes : List ℕ) (p : ℕ) → length codes ≤ p → star_bit codes p ≡ false
star-outside codes p h = ap (λ (code : ℕ). eqb code star_code) (get_or-eq_default codes 0 h)

-- laying words

-- a word more
pub lay-more : (n i : ℕ) (f : ℕ → Bool) → i < n → set (pack n (upto (64 * i) f)) i (pack_word 64 (λ k. f (64 * i + k))) ≡ pack n (upto (64 * (i + 1)) f)
unfolding pack
lay-more zero i f h = absurd (not-suc-le-zero h)
lay-more (suc n) zero f h =
    ap₂ (λ (a : ℕ) (r : List ℕ). a ∷ r)
    (word_same 64 (λ k. f (0 + k)) (upto 64 f) (λ k l. ap f {x = 0 + k} {y = k} (omega arith) ∙ sym (upto-below 64 k f l)))
    (row_same n (λ q. upto 0 f (64 + q)) (λ q. upto 64 f (64 + q)) (λ q l. upto-past 0 (64 + q) f (omega arith) ∙ sym (upto-past 64 (64 + q) f (omega arith))))
lay-more (suc n) (suc i) f h =
    ap₂ (λ (a : ℕ) (r : List ℕ). a ∷ r)
    (word_same 64 (upto (64 * suc i) f) (upto (64 * (suc i + 1)) f) (λ k l. upto-below (64 * suc i) k f (omega arith) ∙ sym (upto-below (64 * (suc i + 1)) k f (omega arith))))
    (ap₂ (λ (g : ℕ → Bool) (w : ℕ). set (pack n g) i w) (behind (64 * suc i) (64 * i) (omega arith))
    (word_same 64 (λ k. f (64 * suc i + k)) (λ k. f (64 + (64 * i + k))) (λ k l. ap f {x = 64 * suc i + k} {y = 64 + (64 * i + k)} (omega arith)))
    ∙ lay-more n i (λ q. f (64 + q)) (le_of_suc-le-suc h)
    ∙ ap (pack n) (sym (behind (64 * (suc i + 1)) (64 * (i + 1)) (omega arith))))
  where
    behind : (m l : ℕ) → m ≡ 64 + l → ◌≡◌ {A = ℕ → Bool} (λ q. upto m f (64 + q)) (upto l (λ q. f (64 + q)))
    behind m l e = fun_ext (λ (q : ℕ). side q (below_or_not q l))
      where
        side : (q : ℕ) → (q < l) ⊎ (l ≤ q) → upto m f (64 + q) ≡ upto l (λ q. f (64 + q)) q
        side q (inl lt) = upto-below m (64 + q) f (omega arith) ∙ sym (upto-below l q (λ q. f (64 + q)) lt)
        side q (inr g) = upto-past m (64 + q) f (omega arith) ∙ sym (upto-past l q (λ q. f (64 + q)) g)

-- bit k of word i of a row
pub row-at : (row : List ℕ) (i k : ℕ) → k < 64 → word_bit (get_or row i 0) k ≡ row_bit row (64 * i + k)
unfolding row_bit
row-at row i k h = ap₂ (λ (j l : ℕ). word_bit (get_or row j 0) l) {x = i} {y = (64 * i + k) / 64} {u = k} {v = (64 * i + k) % 64} (omega arith) (omega arith)

-- the step by sets, as one word after the other makes it

module _ (taken stars old : ℕ → Bool) where
  abbrev stepped : ℕ → Bool
  stepped = set_step taken stars old

  set_next : (p : ℕ) → (moved_up old false p && taken p || old p && stars p || stars p && moved_up stepped false p) ≡ stepped p
  set_next zero = first (old 0) (stars 0)
    where
      first : (o s : Bool) → (o && s || s && false) ≡ (s && o)
      first true true = refl
      first true false = refl
      first false true = refl
      first false false = refl
  set_next (suc p) = more (old p) (taken (suc p)) (old (suc p)) (stars (suc p)) (stepped p)
    where
      more : (w t o s n : Bool) → (w && t || o && s || s && n) ≡ (t && w || s && (o || n))
      more true true o s n = refl
      more true false true true n = refl
      more true false true false n = refl
      more true false false true n = refl
      more true false false false n = refl
      more false true true true n = refl
      more false true true false n = refl
      more false true false true n = refl
      more false true false false n = refl
      more false false true true n = refl
      more false false true false n = refl
      more false false false true n = refl
      more false false false false n = refl

  -- 64 positions from m on, of which each function has its own word
  module _ (m : ℕ) (takes keeps was base : ℕ → Bool) (before over : Bool)
      (takes-is : (k : ℕ) → k < 64 → takes k ≡ taken (m + k)) (keeps-is : (k : ℕ) → k < 64 → keeps k ≡ stars (m + k))
      (was-is : (k : ℕ) → k < 64 → was k ≡ old (m + k)) (base-is : (k : ℕ) → k < 64 → base k ≡ base_bit takes keeps was before k)
      (before-is : before ≡ moved_up old false m) (over-is : over ≡ moved_up stepped false m) where
    set_word : (k : ℕ) → k < 64 → over_bit base keeps over k ≡ stepped (m + k)
    set_word zero h =
        ap₂ (λ (t s : Bool). t || s && over) (base-is 0 h) (keeps-is 0 h)
        ∙ ap₂ (λ (t s : Bool). before && t || was 0 && s || stars (m + 0) && over) (takes-is 0 h) (keeps-is 0 h)
        ∙ ap₂ (λ (t o : Bool). t && taken (m + 0) || o && stars (m + 0) || stars (m + 0) && over) before-is (was-is 0 h)
        ∙ ap (λ (t : Bool). moved_up old false m && taken (m + 0) || old (m + 0) && stars (m + 0) || stars (m + 0) && t) over-is
        ∙ ap (λ (n : ℕ). moved_up old false m && taken n || old n && stars n || stars n && moved_up stepped false m) (add-zero m)
        ∙ set_next m
        ∙ ap stepped (sym (add-zero m))
    set_word (suc k) h =
        ap₂ (λ (t s : Bool). t || s && over_bit base keeps over k) (base-is (suc k) h) (keeps-is (suc k) h)
        ∙ ap₂ (λ (t s : Bool). was k && t || was (suc k) && s || stars (m + suc k) && over_bit base keeps over k) (takes-is (suc k) h) (keeps-is (suc k) h)
        ∙ ap₂ (λ (t o : Bool). t && taken (m + suc k) || o && stars (m + suc k) || stars (m + suc k) && over_bit base keeps over k) (was-is k (omega arith)) (was-is (suc k) h)
        ∙ ap (λ (t : Bool). old (m + k) && taken (m + suc k) || old (m + suc k) && stars (m + suc k) || stars (m + suc k) && t) (set_word k (omega arith))
        ∙ ap (λ (n : ℕ). old (m + k) && taken n || old n && stars n || stars n && stepped (m + k)) (add-suc m k)
        ∙ set_next (suc (m + k))
        ∙ ap stepped (sym (add-suc m k))

-- word i of the step
pub word-laid : (taken stars row : List ℕ) (i before over base new : ℕ)
    → base ≡ pack_word 64 (base_bit (word_bit (get_or taken i 0)) (word_bit (get_or stars i 0)) (word_bit (get_or row i 0)) (word_bit before 63))
    → new ≡ pack_word 64 (over_bit (word_bit base) (word_bit (get_or stars i 0)) (word_bit over 63))
    → word_bit before 63 ≡ moved_up (row_bit row) false (64 * i) → word_bit over 63 ≡ moved_up (set_step (row_bit taken) (row_bit stars) (row_bit row)) false (64 * i)
    → new ≡ pack_word 64 (λ k. set_step (row_bit taken) (row_bit stars) (row_bit row) (64 * i + k))
word-laid taken stars row i before over base new base-is New-is before-is over-is =
    New-is
    ∙ word_same 64 (over_bit (word_bit base) (word_bit (get_or stars i 0)) (word_bit over 63)) (λ k. set_step (row_bit taken) (row_bit stars) (row_bit row) (64 * i + k))
    (set_word (row_bit taken) (row_bit stars) (row_bit row) (64 * i) (word_bit (get_or taken i 0)) (word_bit (get_or stars i 0)) (word_bit (get_or row i 0)) (word_bit base)
    (word_bit before 63) (word_bit over 63) (row-at taken i) (row-at stars i) (row-at row i)
    (λ k h. ap (λ (w : ℕ). word_bit w k) base-is ∙ word-bit 64 k (base_bit (word_bit (get_or taken i 0)) (word_bit (get_or stars i 0)) (word_bit (get_or row i 0)) (word_bit before 63)) h)
    before-is over-is)

-- the topmost bit of word i stands in front of word i + 1
pub row-carry : (row : List ℕ) (i : ℕ) → word_bit (get_or row i 0) 63 ≡ moved_up (row_bit row) false (64 * (i + 1))
row-carry row i = row-at row i 63 (omega arith) ∙ sym (ap (moved_up (row_bit row) false) {x = 64 * (i + 1)} {y = suc (64 * i + 63)} (omega arith))

pub new-carry : (f : ℕ → Bool) (i new : ℕ) → new ≡ pack_word 64 (λ k. f (64 * i + k)) → word_bit new 63 ≡ moved_up f false (64 * (i + 1))
new-carry f i new is =
    ap (λ (w : ℕ). word_bit w 63) is ∙ word-bit 64 63 (λ k. f (64 * i + k)) (omega arith)
    ∙ sym (ap (moved_up f false) {x = 64 * (i + 1)} {y = suc (64 * i + 63)} (omega arith))
