-- Which bytes a code takes, by the cases of the code and of the byte.
use Rattle.std.proofs.Common.{ℕ, ◌+◌, ◌-◌, ◌*◌, ◌/◌, ◌%◌, ◌≤◌, ◌<◌, ◌≡◌, refl, sym, ◌∙◌, ap, ap₂, Bool, true, false, ◌&&◌, ◌||◌, ◌⊎◌, inl, inr, arith, eqb, leb, leb-true, leb-false, eqb-true, eq-eqb, ne_eqb}
use mathlib.Core.Bool.{or-false}
use lib.Arith.{lt_of_le-ne}
use borrow.Author.Tests.{eqb-false}
use Rattle.stored.specs.Choice.{pick}
use Rattle.matching.specs.Machinery.Codes.{one_code, takes_byte}
use Rattle.matching.specs.Symbols.{fold_byte}
use Rattle.states.specs.Machinery.Taken.{takes}

-- two tests that hold together
pub eqb_same : (a b c d : ℕ) → (a ≡ b → c ≡ d) → (c ≡ d → a ≡ b) → eqb a b ≡ eqb c d
eqb_same a b c d to back = by (eqb a b) refl
  where
    by : (t : Bool) → eqb a b ≡ t → eqb a b ≡ eqb c d
    by true e = e ∙ sym (eq-eqb c d (to (eqb-true a b e)))
    by false e = e ∙ sym (ne_eqb c d (λ w. eqb-false a b e (back w)))

-- a byte without its case, by the cases of the byte
pub fold-cases : (x : ℕ) → ((65 ≤ x) × (x ≤ 90) × (fold_byte x ≡ x + 32)) ⊎ (((x < 65) ⊎ (90 < x)) × (fold_byte x ≡ x))
fold-cases x = by (leb 65 x) (leb x 90) refl refl
  where
    by : (s t : Bool) → leb 65 x ≡ s → leb x 90 ≡ t
        → ((65 ≤ x) × (x ≤ 90) × (fold_byte x ≡ x + 32)) ⊎ (((x < 65) ⊎ (90 < x)) × (fold_byte x ≡ x))
    by true true es et = inl (leb-true 65 x es, leb-true x 90 et, ap₂ (λ (s t : Bool). pick (s && t) (x + 32) x) es et)
    by true false es et = inr (inr (leb-false x 90 et), ap₂ (λ (s t : Bool). pick (s && t) (x + 32) x) es et)
    by false t es et = inr (inl (leb-false 65 x es), ap (λ (s : Bool). pick (s && leb x 90) (x + 32) x) es)

-- a byte that has no case is itself without it, and no other is
pub fold-alone : (b x : ℕ) → (b < 65) ⊎ (((90 < b) × (b < 97)) ⊎ (122 < b)) → eqb x b ≡ eqb (fold_byte x) b
fold-alone b x alone = by alone (fold-cases x)
  where
    by : (b < 65) ⊎ (((90 < b) × (b < 97)) ⊎ (122 < b)) → ((65 ≤ x) × (x ≤ 90) × (fold_byte x ≡ x + 32)) ⊎ (((x < 65) ⊎ (90 < x)) × (fold_byte x ≡ x))
        → eqb x b ≡ eqb (fold_byte x) b
    by (inl h) (inl u) = let e = u.2 in let f = u.0 in let g = u.1 in eqb_same x b (fold_byte x) b (λ w. absurd (omega arith)) (λ w. absurd (omega arith))
    by (inr (inl h)) (inl u) =
        let e = u.2 in let f = u.0 in let g = u.1 in let k = h.0 in let l = h.1 in
        eqb_same x b (fold_byte x) b (λ w. absurd (omega arith)) (λ w. absurd (omega arith))
    by (inr (inr h)) (inl u) = let e = u.2 in let f = u.0 in let g = u.1 in eqb_same x b (fold_byte x) b (λ w. absurd (omega arith)) (λ w. absurd (omega arith))
    by h (inr u) = ap (λ (y : ℕ). eqb y b) (sym u.1)

-- no byte is a capital letter without its case
pub fold-never : (b x : ℕ) → 65 ≤ b → b ≤ 90 → eqb (fold_byte x) b ≡ false
fold-never b x low high = by (fold-cases x)
  where
    by : ((65 ≤ x) × (x ≤ 90) × (fold_byte x ≡ x + 32)) ⊎ (((x < 65) ⊎ (90 < x)) × (fold_byte x ≡ x)) → eqb (fold_byte x) b ≡ false
    by (inl u) = let e = u.2 in let f = u.0 in ne_eqb (fold_byte x) b (λ w. omega arith)
    by (inr (inl h, e)) = ne_eqb (fold_byte x) b (λ w. omega arith)
    by (inr (inr h, e)) = ne_eqb (fold_byte x) b (λ w. omega arith)

-- a small letter is itself and the capital letter, without their case
pub fold-letter : (b x : ℕ) → 97 ≤ b → b ≤ 122
    → ((eqb x b ≡ false) × (eqb x (b - 32) ≡ eqb (fold_byte x) b)) ⊎ ((eqb x (b - 32) ≡ false) × (eqb x b ≡ eqb (fold_byte x) b))
fold-letter b x low high = by (fold-cases x)
  where
    by : ((65 ≤ x) × (x ≤ 90) × (fold_byte x ≡ x + 32)) ⊎ (((x < 65) ⊎ (90 < x)) × (fold_byte x ≡ x))
        → ((eqb x b ≡ false) × (eqb x (b - 32) ≡ eqb (fold_byte x) b)) ⊎ ((eqb x (b - 32) ≡ false) × (eqb x b ≡ eqb (fold_byte x) b))
    by (inl u) =
        let e = u.2 in
        let f = u.1 in
        inl (ne_eqb x b (λ w. omega arith), eqb_same x (b - 32) (fold_byte x) b (λ w. omega arith) (λ w. omega arith))
    by (inr (inl h, e)) = inr (ne_eqb x (b - 32) (λ w. omega arith), ap (λ (y : ℕ). eqb y b) (sym e))
    by (inr (inr h, e)) = inr (ne_eqb x (b - 32) (λ w. omega arith), ap (λ (y : ℕ). eqb y b) (sym e))

-- which bytes a code takes by name

-- none
pub names-none : (code x : ℕ) → code < 4 → takes_byte code x ≡ false
names-none code x low = ap₂ ◌||◌ (ne_eqb code (x * 2 + 4) (λ w. omega arith)) (ne_eqb code (fold_byte x * 2 + 5) (λ w. omega arith))

-- nor is it the code of a byte
pub names-far : (code x : ℕ) → 512 ≤ code → x < 128 → takes_byte code x ≡ false
names-far code x high few = by (fold-cases x)
  where
    by : ((65 ≤ x) × (x ≤ 90) × (fold_byte x ≡ x + 32)) ⊎ (((x < 65) ⊎ (90 < x)) × (fold_byte x ≡ x)) → takes_byte code x ≡ false
    by (inl u) = let e = u.2 in ap₂ ◌||◌ (ne_eqb code (x * 2 + 4) (λ w. omega arith)) (ne_eqb code (fold_byte x * 2 + 5) (λ w. omega arith))
    by (inr u) = let e = u.1 in ap₂ ◌||◌ (ne_eqb code (x * 2 + 4) (λ w. omega arith)) (ne_eqb code (fold_byte x * 2 + 5) (λ w. omega arith))

-- one, exactly
pub names-exact : (code x : ℕ) → 4 ≤ code → code % 2 ≡ 0 → eqb x (code / 2 - 2) ≡ takes_byte code x
names-exact code x high even =
    eqb_same x (code / 2 - 2) code (x * 2 + 4) (λ w. omega arith) (λ w. omega arith)
    ∙ sym (or-false (eqb code (x * 2 + 4)))
    ∙ sym (ap (λ (t : Bool). eqb code (x * 2 + 4) || t) (ne_eqb code (fold_byte x * 2 + 5) (λ w. omega arith)))

-- a byte without its case
pub names-folded : (code x : ℕ) → 4 ≤ code → (code % 2 ≡ 0 → ⊥) → eqb (fold_byte x) (code / 2 - 2) ≡ takes_byte code x
names-folded code x high odd =
    let one : code % 2 ≡ 1 = bit (code % 2) (omega arith) odd in
    eqb_same (fold_byte x) (code / 2 - 2) code (fold_byte x * 2 + 5) (λ w. omega arith) (λ w. omega arith)
    ∙ sym (ap (λ (t : Bool). t || eqb code (fold_byte x * 2 + 5)) (ne_eqb code (x * 2 + 4) (λ w. omega arith)))
  where
    bit : (r : ℕ) → r < 2 → (r ≡ 0 → ⊥) → r ≡ 1
    bit r small not = let some : 0 < r = lt_of_le-ne (omega arith) (λ w. not (sym w)) in omega arith

-- which it takes

-- behind `?`, all
pub takes_all : (code x : ℕ) → code ≡ 3 → true ≡ takes code x
takes_all code x e = sym (ap (λ (c : ℕ). takes c x) e)

-- else those that it names
pub takes-named : (code x : ℕ) → (code ≡ 3 → ⊥) → takes_byte code x ≡ takes code x
takes-named code x other = sym (ap (λ (t : Bool). t || takes_byte code x) (ne_eqb code one_code other))
