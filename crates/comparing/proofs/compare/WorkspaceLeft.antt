-- What the workspace holds after either question: 14 is given exactly where lent memory is too short, since no other case has that number;
-- the contract then leaves the workspace as it was, and else all zero.
use Rattle.std.proofs.Common.{ℕ, ◌<◌, ◌≡◌, refl, sym, ◌∙◌, ap, ap₂, Bool, true, false, ◌||◌, List, ◌⊎◌, inl, inr, arith, ltb, length, lt-ltb, le-ltb}
use Rattle.stored.specs.Tables.{Statement}
use Rattle.stored.proofs.Promises.{refused-where}
use Rattle.comparing.specs.Compared.{workspace_words, value_bytes, IsCount, Compared, keeps, Shown, cleared}
use Rattle.comparing.specs.Outcomes.{Outcome, short, first_table, second_table, wide, crowded, many_kinds, answered, GapAnswer, behind, shows, number_of_count, number_of_gap, Left}
use Rattle.comparing.specs.Answers.{Counting, Counting as C, Showing}
use Rattle.comparing.proofs.Outcomes.{compared-exactly, shown-exactly}

-- a question whose refusals have the numbers that `number` says, and whose answer has none that is 14; `test` is whether lent memory is
-- too short
module _ {R : Type 0} {Short : Type 0} (no : ℕ → ℕ → ℕ → R) (Answer : List Statement → List Statement → R → Type 0)
    (number : R → ℕ) (says : (n table place : ℕ) → number (no n table place) ≡ n)
    (other : (first second : List Statement) (r : R) → Answer first second r → number r ≡ 14 → ⊥)
    (test : Bool) (yes : Short → test ≡ true) (not : (Short → ⊥) → test ≡ false) (words : List ℕ) where
  on-14 : (r : R) → Short → r ≡ no 14 0 0 → Left test (number r) words
  on-14 r s e = inl (ap number e ∙ says 14 0 0, ap (λ (t : Bool). cleared t words) (yes s))

  zero-else : (r : R) → (Short → ⊥) → (number r ≡ 14 → ⊥) → Left test (number r) words
  zero-else r long ne = inr (ne, ap (λ (t : Bool). cleared t words) (not long))

  refused-so : (r : R) (n table place : ℕ) → (Short → ⊥) → r ≡ no n table place → (n ≡ 14 → ⊥) → Left test (number r) words
  refused-so r n table place long e ne = zero-else r long (λ h. ne (sym (says n table place) ∙ ap number (sym e) ∙ h))

  left_by : (a b : List ℕ) (r : R) → Outcome Short no Answer a b r → Left test (number r) words
  left_by a b r (short s e) = on-14 r s e
  left_by a b r (first_table long n place f e) =
      let (positive, low, near) = refused-where a n place f in
      refused-so r n 1 place long e (λ h. omega arith)
  left_by a b r (second_table long t n place f e) =
      let (positive, low, near) = refused-where b n place f in
      refused-so r n 2 place long e (λ h. omega arith)
  left_by a b r (wide both c w e) = refused-so r 10 0 c both.long e (λ h. omega arith)
  left_by a b r (crowded both none c k e) = refused-so r 11 0 c both.long e (λ h. omega arith)
  left_by a b r (many_kinds both counts within over e) = refused-so r 12 0 0 both.long e (λ h. omega arith)
  left_by a b r (answered both counts within few is) = zero-else r both.long (other _ _ r is)

not-below : (n m : ℕ) → (n < m → ⊥) → ltb n m ≡ false
not-below n m long = le-ltb n m (omega arith)

count-number : (first second : List Statement) (r : Counting) → IsCount first second r → number_of_count r ≡ 14 → ⊥
count-number first second r (n, counted, e) h = let same = ap number_of_count e in omega arith

-- the question for the number of gaps
pub workspace-left : (words a b : List ℕ) (r : Counting) → Compared (length words) a b r
    → Left (ltb (length words) workspace_words) (number_of_count r) words
workspace-left words a b r c =
    left_by C.Refused IsCount number_of_count (λ n table place. refl) count-number
    (ltb (length words) workspace_words) (lt-ltb (length words) workspace_words) (not-below (length words) workspace_words) words a b r
    ((compared-exactly (length words) a b r).0 c)

module _ (k : ℕ) (buffer : List ℕ) where
  abbrev number_of : Showing × List ℕ → ℕ
  number_of r = number_of_gap r.0

  gap-number : (first second : List Statement) (r : Showing × List ℕ) → GapAnswer k buffer first second r → number_of r ≡ 14 → ⊥
  gap-number first second r (behind n counted high e) h = let same = ap number_of e in omega arith
  gap-number first second r (shows n counted low request gap e) h = let same = ap number_of e in omega arith

  module _ (room : ℕ) where
    either : (t : Bool) → (t || true) ≡ true
    either true = refl
    either false = refl

    too_short : (room < workspace_words) ⊎ (length buffer < value_bytes) → (ltb room workspace_words || ltb (length buffer) value_bytes) ≡ true
    too_short (inl s) = ap (λ (t : Bool). t || ltb (length buffer) value_bytes) (lt-ltb room workspace_words s)
    too_short (inr s) = ap (λ (t : Bool). ltb room workspace_words || t) (lt-ltb (length buffer) value_bytes s) ∙ either (ltb room workspace_words)

    long-enough : ((room < workspace_words) ⊎ (length buffer < value_bytes) → ⊥)
        → (ltb room workspace_words || ltb (length buffer) value_bytes) ≡ false
    long-enough neither =
        ap₂ ◌||◌ (not-below room workspace_words (λ s. neither (inl s))) (not-below (length buffer) value_bytes (λ s. neither (inr s)))

  -- the question for gap k
  pub workspace-left-shown : (words a b : List ℕ) (r : Showing × List ℕ) → Shown (length words) a b k buffer r
      → Left (ltb (length words) workspace_words || ltb (length buffer) value_bytes) (number_of_gap r.0) words
  workspace-left-shown words a b r c =
      left_by (keeps buffer) (GapAnswer k buffer) number_of (λ n table place. refl) gap-number
      (ltb (length words) workspace_words || ltb (length buffer) value_bytes) (too_short (length words)) (long-enough (length words)) words a b r
      ((shown-exactly k buffer (length words) a b r).0 c)
