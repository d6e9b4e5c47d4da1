-- Strings as numbers: read as digits to the base 128, no byte being 0, strings stand in the order of their numbers: shorter first, then
-- smaller bytes.
use Rattle.std.proofs.Common.{ℕ, ◌+◌, ◌*◌, ◌≤◌, ◌<◌, ◌≡◌, refl, ◌∙◌, ap, ap₂, true, ◌&&◌, List, [], ◌∷◌, ◌++◌, inl, inr, arith, leb, length, length-append, leb-true, le-leb}
use Rattle.stored.specs.Values.{byte_in_range, in_range}
use Rattle.stored.proofs.Choosing.{both_left, both_right}
use Rattle.matching.specs.Machinery.Rows.{forward}
use Rattle.judging.specs.Requests.{text}
use Rattle.states.specs.Machinery.Rows.{IsByte}
use Rattle.comparing.specs.Order.{Smaller, Before}
use Rattle.comparing.proofs.Order.{Compares, before-total}

-- every byte of a string is one of 21 to 7E hex
abbrev pub Ranged : List ℕ → Type 0
Ranged [] = Unit {0}
Ranged (b ∷ s) = IsByte b × Ranged s

pub ranged : (s : List ℕ) → in_range s ≡ true → Ranged s
ranged [] h = tt
ranged (b ∷ s) h =
    let head = both_left (byte_in_range b) (in_range s) h in (
      (leb-true 0x21 b (both_left (leb 0x21 b) (leb b 0x7E) head), leb-true b 0x7E (both_right (leb 0x21 b) (leb b 0x7E) head)),
      ranged s (both_right (byte_in_range b) (in_range s) h),
    )

pub in-range : (s : List ℕ) → Ranged s → in_range s ≡ true
in-range [] h = refl
in-range (b ∷ s) h =
    ap₂ ◌&&◌ (ap₂ ◌&&◌ (le-leb 0x21 b h.0.0) (le-leb b 0x7E h.0.1)) (in-range s h.1)

pub ranged-append : (s t : List ℕ) → Ranged s → Ranged t → Ranged (s ++ t)
ranged-append [] t h k = k
ranged-append (b ∷ s) t h k = (h.0, ranged-append s t h.1 k)

ranged-parts : (s t : List ℕ) → Ranged (s ++ t) → Ranged s × Ranged t
ranged-parts [] t h = (tt, h)
ranged-parts (b ∷ s) t h = let r = ranged-parts s t h.1 in ((h.0, r.0), r.1)

-- a string turned round
pub ranged-forward : (r : List ℕ) → Ranged r → Ranged (forward r)
ranged-forward [] h = tt
ranged-forward (b ∷ r) h = ranged-append (forward r) (b ∷ []) (ranged-forward r h.1) (h.0, tt)

pub ranged-backward : (r : List ℕ) → Ranged (forward r) → Ranged r
ranged-backward [] h = tt
ranged-backward (b ∷ r) h = let p = ranged-parts (forward r) (b ∷ []) h in (p.1.0, ranged-backward r p.0)

pub length-forward : (r : List ℕ) → length (forward r) ≡ length r
length-forward [] = refl
length-forward (b ∷ r) = omega (arith, length-append (forward r) (b ∷ []), length-forward r)

-- the number of a string behind a number
abbrev number : ℕ → List ℕ → ℕ
number a [] = a
number a (b ∷ s) = number (a * 128 + b) s

-- the number of a string that is given last byte first
abbrev pub rank : List ℕ → ℕ
rank [] = 0
rank (b ∷ r) = rank r * 128 + b

number-last : (a : ℕ) (s : List ℕ) (b : ℕ) → number a (s ++ (b ∷ [])) ≡ number a s * 128 + b
number-last a [] b = refl
number-last a (c ∷ s) b = number-last (a * 128 + c) s b

number-rank : (r : List ℕ) → number 0 (forward r) ≡ rank r
number-rank [] = refl
number-rank (b ∷ r) = number-last 0 (forward r) b ∙ ap (λ (n : ℕ). n * 128 + b) (number-rank r)

number-below : (s t : List ℕ) (a b : ℕ) → Ranged s → length s ≤ length t → a < b → number a s < number b t
number-below [] [] a b h l less = less
number-below [] (y ∷ t) a b h l less = number-below [] t a (b * 128 + y) tt (omega arith) (omega arith)
number-below (x ∷ s) [] a b h l less = absurd (omega arith)
number-below (x ∷ s) (y ∷ t) a b h l less =
    let small = h.0.1 in
    number-below s t (a * 128 + x) (b * 128 + y) h.1 (omega arith) (omega arith)

number-shorter : (s t : List ℕ) → Ranged s → Ranged t → length s < length t → number 0 s < number 0 t
number-shorter s [] h k l = absurd (omega arith)
number-shorter [] (y ∷ t) h k l =
    let large = k.0.0 in
    number-below [] t 0 (0 * 128 + y) tt (omega arith) (omega arith)
number-shorter (x ∷ s) (y ∷ []) h k l = absurd (omega arith)
number-shorter (x ∷ s) (y ∷ (z ∷ t)) h k l =
    let small = h.0.1 in
    let large = k.0.0 in
    number-below s t (0 * 128 + x) ((0 * 128 + y) * 128 + z) h.1 (omega arith) (omega arith)

number-smaller : (a : ℕ) (s t : List ℕ) → Ranged s → length s ≡ length t → Smaller s t → number a s < number a t
number-smaller a [] t h l less = absurd less
number-smaller a (x ∷ s) [] h l less = absurd less
number-smaller a (x ∷ s) (y ∷ t) h l (inl less) = number-below s t (a * 128 + x) (a * 128 + y) h.1 (omega arith) (omega arith)
number-smaller a (x ∷ s) (y ∷ t) h l (inr less) =
    rw (← less.0) (number-smaller (a * 128 + x) s t h.1 (omega arith) less.1)

number-before : (s t : List ℕ) → Ranged s → Ranged t → Before (text s) (text t) → number 0 s < number 0 t
number-before s t h k (inl less) = number-shorter s t h k less
number-before s t h k (inr less) = number-smaller 0 s t h less.0 less.1

-- what is before has the lower rank, and the other way round
pub before-rank : (r q : List ℕ) → Ranged r → Ranged q → Before (text (forward r)) (text (forward q)) → rank r < rank q
before-rank r q h k less =
    omega (
      arith,
      number-before (forward r) (forward q) (ranged-forward r h) (ranged-forward q k) less,
      number-rank r,
      number-rank q,
    )

pub rank-before : (r q : List ℕ) → Ranged r → Ranged q → rank r < rank q → Before (text (forward r)) (text (forward q))
rank-before r q h k less = by (before-total (text (forward r)) (text (forward q)))
  where
    by : Compares Before (text (forward r)) (text (forward q)) → Before (text (forward r)) (text (forward q))
    by (inl before) = before
    by (inr (inl same)) =
        let strings : forward r ≡ forward q = cc in
        let numbers = ap (number 0) strings in
        absurd (omega (arith, number-rank r, number-rank q))
    by (inr (inr behind)) = absurd (omega (arith, before-rank q r k h behind))
