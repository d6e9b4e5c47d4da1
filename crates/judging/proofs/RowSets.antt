-- Sets of rows as words: `&` is the meet of two tests, no bit is set where no row passes, and equal words are equal sets; so the verdict
-- by words is the verdict by statements.
use Rattle.std.proofs.Common.{ℕ, zero, suc, ◌+◌, ◌*◌, ◌^◌, ◌<◌, ◌≤◌, ◌≡◌, refl, sym, ◌∙◌, ap, ap₂, Bool, true, false, not, ◌&&◌, ◌||◌, List, [], ◌∷◌, ◌++◌, map, mul_assoc, arith, bit_and, eqb, length, pow_pos, eqb-true, eq-eqb, ne_eqb}
use mathlib.Core.Bool.{beq, and_comm}
use Rattle.std.proofs.Math.Nat.{pow-succ'}
use Rattle.std.specs.Int.Bits.{and_block}
use borrow.Author.Tests.{eqb-false}
use Rattle.stored.specs.Choice.{pick, some}
use Rattle.stored.specs.Tables.{Statement}
use Rattle.judging.specs.Requests.{Value}
use Rattle.judging.specs.Meaning.{applies, is_allow, some_allows, some_denies}
use Rattle.judging.specs.Machinery.Rows.{bit_of, rows_word}
use Rattle.judging.specs.Judging.{Judgement as J, verdict}
use Rattle.judging.specs.Machinery.Verdict.{verdict_of_rows}

-- words of one row more

bit-small : (t : Bool) → bit_of t < 2
bit-small true = omega arith
bit-small false = omega arith

and-bit : (x y : Bool) → bit_and (bit_of x) (bit_of y) ≡ bit_of (x && y)
and-bit true true = refl
and-bit true false = refl
and-bit false y = refl

and-more : (a b : ℕ) (x y : Bool) → bit_and (a * 2 + bit_of x) (b * 2 + bit_of y) ≡ bit_and a b * 2 + bit_of (x && y)
and-more a b x y =
    and_block 1 a b (bit_of x) (bit_of y) (bit-small x) (bit-small y) ∙ ap (λ (n : ℕ). bit_and a b * 2 + n) (and-bit x y)

eqb-more : (a b : ℕ) (x y : Bool) → eqb (a * 2 + bit_of x) (b * 2 + bit_of y) ≡ (beq x y && eqb a b)
eqb-more a b true false = ne_eqb (a * 2 + 1) (b * 2 + 0) (λ e. omega arith)
eqb-more a b false true = ne_eqb (a * 2 + 0) (b * 2 + 1) (λ e. omega arith)
eqb-more a b true true = by (eqb a b) refl
  where
    by : (t : Bool) → eqb a b ≡ t → eqb (a * 2 + 1) (b * 2 + 1) ≡ t
    by true e = eq-eqb (a * 2 + 1) (b * 2 + 1) (omega (arith, eqb-true a b e))
    by false e = ne_eqb (a * 2 + 1) (b * 2 + 1) (λ w. eqb-false a b e (omega arith))
eqb-more a b false false = by (eqb a b) refl
  where
    by : (t : Bool) → eqb a b ≡ t → eqb (a * 2 + 0) (b * 2 + 0) ≡ t
    by true e = eq-eqb (a * 2 + 0) (b * 2 + 0) (omega (arith, eqb-true a b e))
    by false e = ne_eqb (a * 2 + 0) (b * 2 + 0) (λ w. eqb-false a b e (omega arith))

parts : (a b : ℕ) (x y : Bool) → a * 2 + bit_of x ≡ b * 2 + bit_of y → (a ≡ b) × (x ≡ y)
parts a b true true e = (omega arith, refl)
parts a b true false e = absurd (omega arith)
parts a b false true e = absurd (omega arith)
parts a b false false e = (omega arith, refl)

module _ {ℓ} {A : Type ℓ} where
  -- `&` of two sets of rows: the rows that pass both tests
  pub meet : (f g : A → Bool) (rows : List A) → bit_and (rows_word f rows) (rows_word g rows) ≡ rows_word (λ s. f s && g s) rows
  meet f g [] = refl
  meet f g (s ∷ rows) =
      and-more (rows_word f rows) (rows_word g rows) (f s) (g s) ∙ ap (λ (n : ℕ). n * 2 + bit_of (f s && g s)) (meet f g rows)

  -- tests that agree make one set
  pub same : (f g : A → Bool) (rows : List A) → ((s : A) → f s ≡ g s) → rows_word f rows ≡ rows_word g rows
  same f g [] e = refl
  same f g (s ∷ rows) e = ap₂ (λ (n : ℕ) (t : Bool). n * 2 + bit_of t) (same f g rows e) (e s)

  -- k rows fit into k bits
  pub below : (f : A → Bool) (rows : List A) (k : ℕ) → length rows ≤ k → rows_word f rows < 2 ^ k
  below f [] k few = pow_pos k
  below f (s ∷ rows) zero few = absurd (omega arith)
  below f (s ∷ rows) (suc k) few = doubled (rows_word f rows) (bit_of (f s)) (below f rows k (omega arith)) (bit-small (f s))
    where
      doubled : (a r : ℕ) → a < 2 ^ k → r < 2 → a * 2 + r < 2 ^ suc k
      doubled a r small bit = omega (arith, pow-succ' 2 k)

  -- no row passes exactly where the word is 0
  pub none : (f : A → Bool) (rows : List A) → eqb (rows_word f rows) 0 ≡ not (some f rows)
  none f [] = refl
  none f (s ∷ rows) = eqb-more (rows_word f rows) 0 (f s) false ∙ by (f s) (none f rows)
    where
      by : (t : Bool) → eqb (rows_word f rows) 0 ≡ not (some f rows)
          → (beq t false && eqb (rows_word f rows) 0) ≡ not (t || some f rows)
      by true e = refl
      by false e = e

  -- all rows of one set are in another exactly where no row passes the one test and fails the other
  pub all_of : (f g : A → Bool) (rows : List A)
      → eqb (bit_and (rows_word f rows) (rows_word g rows)) (rows_word f rows) ≡ not (some (λ s. f s && not (g s)) rows)
  all_of f g rows = ap (λ (n : ℕ). eqb n (rows_word f rows)) (meet f g rows) ∙ go rows
    where
      go : (rows : List A) → eqb (rows_word (λ s. f s && g s) rows) (rows_word f rows) ≡ not (some (λ s. f s && not (g s)) rows)
      go [] = refl
      go (s ∷ rows) =
          eqb-more (rows_word (λ s. f s && g s) rows) (rows_word f rows) (f s && g s) (f s) ∙ by (f s) (g s) (go rows)
        where
          by : (t u : Bool) → eqb (rows_word (λ s. f s && g s) rows) (rows_word f rows) ≡ not (some (λ s. f s && not (g s)) rows)
              → (beq (t && u) t && eqb (rows_word (λ s. f s && g s) rows) (rows_word f rows)) ≡ not ((t && not u) || some (λ s. f s && not (g s)) rows)
          by true true e = e
          by true false e = refl
          by false u e = e

  -- equal words are equal sets
  pub rows_same : (f g : A → Bool) (rows : List A) → rows_word f rows ≡ rows_word g rows → map f rows ≡ map g rows
  rows_same f g [] e = refl
  rows_same f g (s ∷ rows) e =
      let p = parts (rows_word f rows) (rows_word g rows) (f s) (g s) e in
      ap₂ ◌∷◌ p.1 (rows_same f g rows p.0)

  -- rows behind rows
  pub joined : (f : A → Bool) (xs ys : List A) → rows_word f (xs ++ ys) ≡ rows_word f xs + 2 ^ length xs * rows_word f ys
  joined f [] ys = omega arith
  joined f (s ∷ xs) ys =
      ap (λ (n : ℕ). n * 2 + bit_of (f s)) (joined f xs ys)
      ∙ doubled (rows_word f xs) (bit_of (f s)) (2 ^ length xs) (rows_word f ys)
      ∙ ap (λ (n : ℕ). rows_word f xs * 2 + bit_of (f s) + n * rows_word f ys) (sym (pow-succ' 2 (length xs)))
    where
      doubled : (a r p w : ℕ) → (a + p * w) * 2 + r ≡ a * 2 + r + 2 * p * w
      doubled a r p w = omega (arith, mul_assoc 2 p w)

  -- a row that passes a test passes another as well or fails it
  pub some-split : (f g : A → Bool) (rows : List A) → some f rows ≡ (some (λ s. not (g s) && f s) rows || some (λ s. g s && f s) rows)
  some-split f g [] = refl
  some-split f g (s ∷ rows) = by (f s) (g s) (some-split f g rows)
    where
      by : (t u : Bool) → some f rows ≡ (some (λ s. not (g s) && f s) rows || some (λ s. g s && f s) rows)
          → (t || some f rows) ≡ (((not u && t) || some (λ s. not (g s) && f s) rows) || ((u && t) || some (λ s. g s && f s) rows))
      by true true e = last (some (λ s. not (g s) && f s) rows)
        where
          last : (t : Bool) → true ≡ (t || true)
          last true = refl
          last false = refl
      by true false e = refl
      by false true e = e
      by false false e = e

  some_same : (f g : A → Bool) (rows : List A) → ((s : A) → f s ≡ g s) → some f rows ≡ some g rows
  some_same f g [] e = refl
  some_same f g (s ∷ rows) e = ap₂ ◌||◌ (e s) (some_same f g rows e)

-- the verdict by words: some applying row is no allow row, none applies, or all that apply allow
pub verdict-rows : (request : List Value) (rows : List Statement)
    → verdict_of_rows (rows_word (applies request) rows) (rows_word (λ s. is_allow s.effect) rows) ≡ verdict request rows
verdict-rows request rows =
    ap₂ (λ (t u : Bool). pick t (pick u J.NotMentioned J.Allowed) J.DeniedByRule)
    (all_of (applies request) (λ s. is_allow s.effect) rows
    ∙ ap not (some_same (λ s. applies request s && not (is_allow s.effect)) (λ s. not (is_allow s.effect) && applies request s) rows
    (λ s. and_comm (applies request s) (not (is_allow s.effect)))))
    (none (applies request) rows ∙ ap not (some-split (applies request) (λ s. is_allow s.effect) rows))
    ∙ by (some_denies request rows) (some_allows request rows)
  where
    by : (d a : Bool) → pick (not d) (pick (not (d || a)) J.NotMentioned J.Allowed) J.DeniedByRule ≡ pick d J.DeniedByRule (pick a J.Allowed J.NotMentioned)
    by true a = refl
    by false true = refl
    by false false = refl
