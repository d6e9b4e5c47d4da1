-- Lists of all numbers, and of all strings, from one bound to another: in order, with every one in it.
use Rattle.std.proofs.Common.{ℕ, zero, suc, ◌+◌, ◌≤◌, ◌<◌, ◌≡◌, refl, sym, ap, subst, ◌∙◌, Bool, true, false, List, [], ◌∷◌, ◌++◌, ◌⊎◌, inl, inr, arith, eqb, length, eqb-true}
use borrow.Author.Tests.{eqb-false}
use Rattle.judging.specs.Requests.{text}
use Rattle.states.specs.Machinery.Rows.{IsByte}
use Rattle.comparing.specs.Order.{Before, In, Ascending}
use Rattle.comparing.proofs.Members.{in-joined, in_left, in_right, ascending-joined}
use Rattle.comparing.proofs.Ranks.{Ranged}
use Rattle.comparing.proofs.SomeAnswer.Pairs.{pairs, in_pairs, pairs-in, pairs-ascending}

-- n numbers from a on, what is among them, and their order
pub numbers : ℕ → ℕ → List ℕ
numbers a zero = []
numbers a (suc n) = a ∷ numbers (suc a) n

pub in-numbers : (a n m : ℕ) → In m (numbers a n) → (a ≤ m) × (m < a + n)
unfolding numbers
in-numbers a zero m i = absurd i
in-numbers a (suc n) m (inl e) = (omega arith, omega arith)
in-numbers a (suc n) m (inr i) = let h = in-numbers (suc a) n m i in (omega (arith, h.0), omega (arith, h.1))

pub numbers-in : (a n m : ℕ) → a ≤ m → m < a + n → In m (numbers a n)
unfolding numbers
numbers-in a zero m l h = absurd (omega arith)
numbers-in a (suc n) m l h = by (eqb m a) refl (numbers-in (suc a) n m)
  where
    by : (t : Bool) → eqb m a ≡ t → (suc a ≤ m → m < suc a + n → In m (numbers (suc a) n)) → (m ≡ a) ⊎ In m (numbers (suc a) n)
    by true e rest = inl (eqb-true m a e)
    by false e rest = let ne = eqb-false m a e in inr (rest (omega arith) (omega arith))

pub numbers-ascending : (a n : ℕ) → Ascending ◌<◌ (numbers a n)
unfolding numbers
numbers-ascending a zero = tt
numbers-ascending a (suc n) = ((λ m i. (in-numbers (suc a) n m i).0), numbers-ascending (suc a) n)

-- the bytes 21 to 7E hex
pub all_bytes : List ℕ
all_bytes = numbers 0x21 94

pub all-bytes-in : (b : ℕ) → IsByte b → In b all_bytes
unfolding all_bytes
all-bytes-in b h = numbers-in 0x21 94 b h.0 (omega (arith, h.1))

pub in-all-bytes : (b : ℕ) → In b all_bytes → IsByte b
unfolding all_bytes
in-all-bytes b i = let h = in-numbers 0x21 94 b i in (h.0, omega (arith, h.1))

all-bytes-ascending : Ascending ◌<◌ all_bytes
unfolding all_bytes
all-bytes-ascending = numbers-ascending 0x21 94

-- the strings with n bytes, what is among them, and their order
abbrev of_length : ℕ → List (List ℕ)
of_length zero = [] ∷ []
of_length (suc n) = pairs ◌∷◌ all_bytes (of_length n)

in-of-length : (n : ℕ) (s : List ℕ) → In s (of_length n) → Ranged s × (length s ≡ n)
in-of-length zero s (inl e) = rw e (tt, refl)
in-of-length zero s (inr i) = absurd i
in-of-length (suc n) s i =
    let m = in_pairs ◌∷◌ all_bytes (of_length n) s i in
    let rest = in-of-length n m.1 m.3 in
    rw m.4 ((in-all-bytes m.0 m.2, rest.0), ap suc rest.1)

of-length-in : (s : List ℕ) → Ranged s → In s (of_length (length s))
of-length-in [] h = inl refl
of-length-in (b ∷ s) h = pairs-in ◌∷◌ all_bytes (of_length (length s)) b s (all-bytes-in b h.0) (of-length-in s h.1)

-- the order of strings
abbrev pub Sooner : List ℕ → List ℕ → Type 0
Sooner s u = Before (text s) (text u)

of-length-ascending : (n : ℕ) → Ascending Sooner (of_length n)
of-length-ascending zero = ((λ s i. absurd i), tt)
of-length-ascending (suc n) = pairs-ascending ◌∷◌ ◌<◌ Sooner Sooner (of_length n) far near all_bytes all-bytes-ascending (of-length-ascending n)
  where
    far : (b c : ℕ) (s u : List ℕ) → b < c → In s (of_length n) → In u (of_length n) → Sooner (b ∷ s) (c ∷ u)
    far b c s u less i j = inr (ap suc ((in-of-length n s i).1 ∙ sym (in-of-length n u j).1), inl less)

    near : (b : ℕ) (s u : List ℕ) → Sooner s u → Sooner (b ∷ s) (b ∷ u)
    near b s u (inl shorter) = inl (omega arith)
    near b s u (inr (same, smaller)) = inr (ap suc same, inr (refl, smaller))

-- the strings of n lengths from m on, what is among them, and their order
abbrev pub all_strings : ℕ → ℕ → List (List ℕ)
all_strings m zero = []
all_strings m (suc n) = of_length m ++ all_strings (suc m) n

pub in-all-strings : (m n : ℕ) (s : List ℕ) → In s (all_strings m n) → Ranged s × (m ≤ length s) × (length s < m + n)
in-all-strings m zero s i = absurd i
in-all-strings m (suc n) s i = by (in-joined s (of_length m) (all_strings (suc m) n) i) (in-all-strings (suc m) n s)
  where
    by : In s (of_length m) ⊎ In s (all_strings (suc m) n) → (In s (all_strings (suc m) n) → Ranged s × (suc m ≤ length s) × (length s < suc m + n))
        → Ranged s × (m ≤ length s) × (length s < m + suc n)
    by (inl j) rest = let h = in-of-length m s j in (h.0, omega (arith, h.1), omega (arith, h.1))
    by (inr j) rest = let h = rest j in (h.0, omega (arith, h.1), omega (arith, h.2))

pub all-strings-in : (m n : ℕ) (s : List ℕ) → Ranged s → m ≤ length s → length s < m + n → In s (all_strings m n)
all-strings-in m zero s h l u = absurd (omega arith)
all-strings-in m (suc n) s h l u = by (eqb (length s) m) refl (all-strings-in (suc m) n s h)
  where
    by : (t : Bool) → eqb (length s) m ≡ t → (suc m ≤ length s → length s < suc m + n → In s (all_strings (suc m) n))
        → In s (of_length m ++ all_strings (suc m) n)
    by true e rest =
        in_left s (of_length m) (all_strings (suc m) n) (subst (λ (k : ℕ). In s (of_length k)) (eqb-true (length s) m e) (of-length-in s h))
    by false e rest =
        let ne = eqb-false (length s) m e in
        in_right s (of_length m) (all_strings (suc m) n) (rest (omega arith) (omega arith))

pub all-strings-ascending : (m n : ℕ) → Ascending Sooner (all_strings m n)
all-strings-ascending m zero = tt
all-strings-ascending m (suc n) =
    ascending-joined Sooner (of_length m) (all_strings (suc m) n) (of-length-ascending m) (all-strings-ascending (suc m) n)
    (λ s u i j. inl (omega (arith, (in-of-length m s i).1, (in-all-strings (suc m) n u j).1)))
