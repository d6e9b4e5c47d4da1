-- A row that has none of the last positions of a plan's values runs over the plan like a row of no position: the run looks only there.
use Rattle.std.proofs.Common.{ℕ, zero, suc, ◌-◌, ◌/◌, ◌%◌, ◌^◌, ◌<◌, ◌≤◌, ◌≡◌, refl, sym, ap, ◌∙◌, Bool, true, false, not, ◌&&◌, ◌||◌, List, [], ◌∷◌, ◌⊎◌, inl, inr, arith, bit_and, bit_or, eqb, ltb, length, get_or, set, length-set, get_or-set_same, eq-eqb, eqb-true}
use mathlib.Core.Bool.{false≢true, and-true}
use lib.Bits.{or_comm}
use lib.ListN.{get_or-eq_default}
use Rattle.std.specs.List.{list_any, zip}
use Rattle.stored.specs.Choice.{pick}
use Rattle.matching.specs.Machinery.Rows.{word_bit, row_bit, mark_row}
use Rattle.matching.proofs.Rows.{below_or_not, row_zero}
use Rattle.states.proofs.BitsOfWords.{bit-or, bit-and, bit-none, bit-power}
use Rattle.columns.specs.declared.runs.Run.{Run}
use Rattle.columns.specs.declared.words.Word.{Word}
use Rattle.columns.specs.declared.words.Word.TheVariants as W
use Rattle.columns.specs.Machinery.Words.{word_of}
use Rattle.columns.specs.Machinery.LastPositions.{no_positions, word_marked, last_positions, rows_meet}
use Rattle.columns.specs.Machinery.Plan.{statement_word, began_run, opened_run, seen_run, run_word, run_plan}

-- the bits of a word

or-bit : (a b k : ℕ) → word_bit a k ≡ true → word_bit (bit_or a b) k ≡ true
or-bit a b k e = bit-or a b k ∙ ap (λ (t : Bool). t || word_bit b k) e

own-bit : (a k : ℕ) → word_bit (bit_or a (2 ^ k)) k ≡ true
own-bit a k = ap (λ (w : ℕ). word_bit w k) (or_comm a (2 ^ k)) ∙ or-bit (2 ^ k) a k (bit-power k k ∙ eq-eqb k k refl)

-- where `&` gives 0, no bit is in both
and-apart : (a b k : ℕ) → bit_and a b ≡ 0 → word_bit b k ≡ true → word_bit a k ≡ false
and-apart a b k none e =
    sym (and-true (word_bit a k))
    ∙ ap (λ (t : Bool). word_bit a k && t) (sym e)
    ∙ sym (bit-and a b k)
    ∙ ap (λ (w : ℕ). word_bit w k) none
    ∙ bit-none k

-- marking

word_keeps : (row : List ℕ) (i j k bit : ℕ) → word_bit (get_or row j 0) k ≡ true → word_bit (get_or (set row i (bit_or (get_or row i 0) bit)) j 0) k ≡ true
word_keeps [] i j k bit e = e
word_keeps (x ∷ row) zero zero k bit e = or-bit x bit k e
word_keeps (x ∷ row) zero (suc j) k bit e = e
word_keeps (x ∷ row) (suc i) zero k bit e = e
word_keeps (x ∷ row) (suc i) (suc j) k bit e = word_keeps row i j k bit e

mark-keeps : (row : List ℕ) (p q : ℕ) → row_bit row q ≡ true → row_bit (mark_row row p true) q ≡ true
unfolding row_bit mark_row
mark-keeps row p q e = word_keeps row (p / 64) (q / 64) (q % 64) (2 ^ (p % 64)) e

mark-has : (row : List ℕ) (p : ℕ) → p / 64 < length row → row_bit (mark_row row p true) p ≡ true
unfolding row_bit mark_row
mark-has row p low =
    ap (λ (w : ℕ). word_bit w (p % 64)) (get_or-set_same row (p / 64) (bit_or (get_or row (p / 64) 0) (2 ^ (p % 64))) 0 low)
    ∙ own-bit (get_or row (p / 64) 0) (p % 64)

mark-length : (row : List ℕ) (p : ℕ) → length (mark_row row p true) ≡ length row
unfolding mark_row
mark-length row p = length-set row (p / 64) (bit_or (get_or row (p / 64) 0) (2 ^ (p % 64)))

module _ (row : List ℕ) (word : ℕ) where
  marks-length : length (word_marked row word) ≡ length row
  unfolding word_marked
  marks-length = by (ltb word 4)
    where
      by : (t : Bool) → length (pick t row (mark_row row (word - 4) true)) ≡ length row
      by true = refl
      by false = mark-length row (word - 4)

  marks-keep : (q : ℕ) → row_bit row q ≡ true → row_bit (word_marked row word) q ≡ true
  unfolding word_marked
  marks-keep q e = by (ltb word 4)
    where
      by : (t : Bool) → row_bit (pick t row (mark_row row (word - 4) true)) q ≡ true
      by true = e
      by false = mark-keeps row (word - 4) q e

  marks-value : ltb word 4 ≡ false → (word - 4) / 64 < length row → row_bit (word_marked row word) (word - 4) ≡ true
  unfolding word_marked
  marks-value value low = ap (λ (t : Bool). row_bit (pick t row (mark_row row (word - 4) true)) (word - 4)) value ∙ mark-has row (word - 4) low

last-length : (plan row : List ℕ) → length (last_positions row plan) ≡ length row
last-length [] row = refl
last-length (word ∷ plan) row = last-length plan (word_marked row word) ∙ marks-length row word

last-keeps : (plan row : List ℕ) (q : ℕ) → row_bit row q ≡ true → row_bit (last_positions row plan) q ≡ true
last-keeps [] row q e = e
last-keeps (word ∷ plan) row q e = last-keeps plan (word_marked row word) q (marks-keep row word q e)

-- what a word marks
abbrev pub marked_at : List ℕ → Word → List ℕ
marked_at row W.Statement = row
marked_at row W.List = row
marked_at row W.NegatedList = row
marked_at row (W.Content p) = mark_row row p true

pub word-marks : (row : List ℕ) (n : ℕ) → word_marked row n ≡ marked_at row (word_of n)
unfolding word_marked
word-marks row n = by (ltb n 4) (eqb n 1) (eqb n 3)
  where
    by : (t s u : Bool) → pick t row (mark_row row (n - 4) true) ≡ marked_at row (pick t (pick s W.Statement (pick u W.NegatedList W.List)) (W.Content (n - 4)))
    by true true u = refl
    by true false true = refl
    by true false false = refl
    by false s u = refl

-- two rows, word by word
pub meet-any : (row others : List ℕ) → list_any (λ (p : ℕ × ℕ). not (eqb (bit_and p.0 p.1) 0)) (zip row others) ≡ rows_meet row others
meet-any [] others = refl
meet-any (a ∷ row) [] = refl
meet-any (a ∷ row) (b ∷ others) = ap (λ (t : Bool). not (eqb (bit_and a b) 0) || t) (meet-any row others)

-- a row has none of the positions of another
abbrev Apart : List ℕ → List ℕ → Type 0
Apart row ends = (p : ℕ) → row_bit ends p ≡ true → row_bit row p ≡ false

or-neither : (s t : Bool) → (s || t) ≡ false → (s ≡ false) × (t ≡ false)
or-neither true t e = absurd (false≢true (sym e))
or-neither false t e = (refl, e)

zero-told : (n : ℕ) → not (eqb n 0) ≡ false → n ≡ 0
zero-told n e = by (eqb n 0) refl e
  where
    by : (t : Bool) → eqb n 0 ≡ t → not t ≡ false → n ≡ 0
    by true is told = eqb-true n 0 is
    by false is told = absurd (false≢true (sym told))

words-apart : (row ends : List ℕ) → rows_meet row ends ≡ false → (i k : ℕ) → word_bit (get_or ends i 0) k ≡ true → word_bit (get_or row i 0) k ≡ false
words-apart [] ends none i k e = bit-none k
words-apart (a ∷ row) [] none i k e = absurd (false≢true (sym (bit-none k) ∙ e))
words-apart (a ∷ row) (b ∷ ends) none zero k e = and-apart a b k (zero-told (bit_and a b) (or-neither (not (eqb (bit_and a b) 0)) (rows_meet row ends) none).0) e
words-apart (a ∷ row) (b ∷ ends) none (suc i) k e = words-apart row ends (or-neither (not (eqb (bit_and a b) 0)) (rows_meet row ends) none).1 i k e

rows_apart : (row ends : List ℕ) → rows_meet row ends ≡ false → Apart row ends
unfolding row_bit
rows_apart row ends none p e = words-apart row ends none (p / 64) (p % 64) e

-- a position past the words of a row
past_row : (row : List ℕ) (p : ℕ) → length row ≤ p / 64 → row_bit row p ≡ false
unfolding row_bit
past_row row p h = ap (λ (w : ℕ). word_bit w (p % 64)) (get_or-eq_default row 0 h) ∙ bit-none (p % 64)

-- one word of a plan: only a value's last position is looked at
word-alike : (f g : ℕ → Bool) (r : Run) (word : ℕ) → (ltb word 4 ≡ false → f (word - 4) ≡ g (word - 4)) → run_word f r word ≡ run_word g r word
unfolding run_word
word-alike f g r word same = by (ltb word 4) same
  where
    by : (t : Bool) → (t ≡ false → f (word - 4) ≡ g (word - 4))
        → pick t (pick (eqb word statement_word) (began_run r) (opened_run (eqb word 3) r)) (seen_run (f (word - 4)) r)
        ≡ pick t (pick (eqb word statement_word) (began_run r) (opened_run (eqb word 3) r)) (seen_run (g (word - 4)) r)
    by true told = refl
    by false told = ap (λ (hit : Bool). seen_run hit r) (told refl)

module _ (row : List ℕ) (few : length row ≡ 8) where
  runs-alike : (plan ends : List ℕ) (r : Run) → length ends ≡ 8 → Apart row (last_positions ends plan)
      → run_plan (row_bit row) r plan ≡ run_plan (row_bit no_positions) r plan
  runs-alike [] ends r wide apart = refl
  runs-alike (word ∷ plan) ends r wide apart =
      ap (λ (x : Run). run_plan (row_bit row) x plan)
      (word-alike (row_bit row) (row_bit no_positions) r word (λ value. missed value (below_or_not ((word - 4) / 64) 8) ∙ sym (row_zero 8 (word - 4))))
      ∙ runs-alike plan (word_marked ends word) (run_word (row_bit no_positions) r word) (marks-length ends word ∙ wide) apart
    where
      missed : ltb word 4 ≡ false → ((word - 4) / 64 < 8) ⊎ (8 ≤ (word - 4) / 64) → row_bit row (word - 4) ≡ false
      missed value (inl low) = apart (word - 4) (last-keeps plan (word_marked ends word) (word - 4) (marks-value ends word value (omega (arith, wide))))
      missed value (inr high) = past_row row (word - 4) (omega (arith, few))

  -- by both plans, whose last positions were gathered one after the other
  pub both-alike : (own other : List ℕ) (r : Run) → rows_meet row (last_positions (last_positions no_positions own) other) ≡ false
      → (run_plan (row_bit row) r own ≡ run_plan (row_bit no_positions) r own) × (run_plan (row_bit row) r other ≡ run_plan (row_bit no_positions) r other)
  both-alike own other r none =
      let apart = rows_apart row (last_positions (last_positions no_positions own) other) none in (
        runs-alike own no_positions r refl (λ p e. apart p (last-keeps other (last_positions no_positions own) p e)),
        runs-alike other (last_positions no_positions own) r (last-length own no_positions) apart,
      )
