-- The walk over the entries of a table gathers just the rows that hold. The walk goes forward and the table is gathered from behind, so
-- the claim is made of a walk anywhere: what it has, the row at hand if the rest of its lists let it hold, and the rows behind.
use Rattle.std.proofs.Common.{ℕ, suc, ◌+◌, ◌*◌, ◌%◌, ◌^◌, ◌<◌, ◌≤◌, ◌≡◌, refl, sym, ◌∙◌, ap, Bool, true, false, not, ◌&&◌, ◌||◌, List, [], ◌∷◌, mod-eq_of_lt, one-mul, mul-add, mul_assoc, arith, bit_or, eqb, length}
use mathlib.Core.Bool.{or_assoc, or-false, and-true}
use Rattle.std.proofs.Math.Nat.{pow-succ'}
use Rattle.std.specs.Int.Bits.{or_shifted_r}
use Rattle.std.proofs.Math.Pow.{pow-lt}
use Rattle.stored.specs.Choice.{pick, some, every}
use Rattle.stored.specs.Items.{column_place, column_negated, key_code}
use Rattle.stored.specs.Operators.{row_of}
use Rattle.stored.specs.Entries.{Entry}
use Rattle.stored.specs.Tables.{Listed, Statement, Part, empty, gather, table_of}
use Rattle.judging.specs.Requests.{Value, is_present, column_of}
use Rattle.judging.specs.Meaning.{listed_matches, sense, element_reading, operator_reading, holds, applies}
use Rattle.judging.specs.Machinery.Rows.{bit_of, rows_word}
use Rattle.judging.specs.Machinery.Walk.{fresh_walk, closed_of, done_of, began_of, matters_of, seen_of, element_begun, condition_begun, counts_of, step_of, run_of, gathered, step_in, run_in, element_asked, condition_asked, gathered_in, every_column}
use Rattle.judging.specs.declared.walk.Walk.{Walk}

-- what the lists of a row come to

-- the list at hand, with the values that are still to come
abbrev list_holds : Value → Walk → Part → Bool
list_holds v w p = not w.here || sense w.negated (w.some || some (listed_matches w.reading v) p.values)

-- the row at hand, with the lists that are still to come
abbrev row_holds : (ℕ → Bool) → (ℕ → Value) → Walk → ℕ → Part → Bool
row_holds watched value w column p =
    w.holds
    && (list_holds (value column) w p && (every (element_asked watched value) p.elements && every (condition_asked watched value) p.conditions))

-- a walk that has passed k rows: the row at hand has a bit of its own, below the place of the next one
record Passed (k : ℕ) (w : Walk) : Type 0 where
  next : w.next ≡ 2 ^ k % 2 ^ 64
  apart : bit_or w.set w.bit ≡ w.set + w.bit
  below : w.set + w.bit < 2 ^ k

-- tests of the moves, by cases of their outcomes

closes : (holds here negated some : Bool)
    → (holds && ((not here || sense negated (some || false)) && true)) ≡ (holds && (not here || sense negated some))
closes holds here negated some =
    ap (λ (t : Bool). holds && ((not here || sense negated t) && true)) (or-false some)
    ∙ ap (λ (t : Bool). holds && t) (and-true (not here || sense negated some))

seen-matters : (holds here negated some hit more rest : Bool)
    → (holds && ((not here || sense negated (some || hit || more)) && rest)) ≡ (holds && ((not here || sense negated (some || (hit || more))) && rest))
seen-matters holds here negated some hit more rest =
    ap (λ (t : Bool). holds && ((not here || sense negated t) && rest)) (or_assoc some hit more)

seen-not : (holds here negated some hit more rest : Bool) → (holds && (here && not some)) ≡ false
    → (holds && ((not here || sense negated (some || more)) && rest)) ≡ (holds && ((not here || sense negated (some || (hit || more))) && rest))
seen-not false here negated some hit more rest e = refl
seen-not true false negated some hit more rest e = refl
seen-not true true negated true hit more rest e = refl
seen-not true true negated false hit more rest e = cc

opens-element : (holds list here found elements conditions : Bool)
    → ((holds && list && true) && ((not here || found) && (elements && conditions)))
    ≡ (holds && (list && ((pick here found true && elements) && conditions)))
opens-element false list here found elements conditions = refl
opens-element true false here found elements conditions = refl
opens-element true true true true elements conditions = refl
opens-element true true true false elements conditions = refl
opens-element true true false found elements conditions = refl

opens-condition : (holds list here present absent found elements conditions : Bool)
    → ((holds && list && (not here || (present || absent))) && ((not (here && present) || found) && (elements && conditions)))
    ≡ (holds && (list && (elements && (pick here (pick present found absent) true && conditions))))
opens-condition false list here present absent found elements conditions = refl
opens-condition true false here present absent found elements conditions = refl
opens-condition true true false present absent found elements conditions = refl
opens-condition true true true true absent true elements conditions = refl
opens-condition true true true true absent false true conditions = refl
opens-condition true true true true absent false false conditions = refl
opens-condition true true true false true found elements conditions = refl
opens-condition true true true false false found true conditions = refl
opens-condition true true true false false found false conditions = refl

-- sets and bits

done-is : (k : ℕ) (w : Walk) → Passed k w → done_of w ≡ w.set + pick (closed_of w) w.bit 0
done-is k w h = by (closed_of w)
  where
    by : (t : Bool) → pick t (bit_or w.set w.bit) w.set ≡ w.set + pick t w.bit 0
    by true = h.apart
    by false = omega arith

done_below : (k : ℕ) (w : Walk) → Passed k w → done_of w < 2 ^ k
done_below k w h = by (closed_of w) (done-is k w h)
  where
    by : (t : Bool) → done_of w ≡ w.set + pick t w.bit 0 → done_of w < 2 ^ k
    by true e = omega (arith, h.below)
    by false e = omega (arith, h.below)

next-is : (k : ℕ) (w : Walk) → k < 64 → Passed k w → w.next ≡ 2 ^ k
next-is k w few h = h.next ∙ mod-eq_of_lt (pow-lt few)

began-passed : (counts : Bool) (k : ℕ) (w : Walk) → k < 64 → Passed k w → Passed (suc k) (began_of counts w)
began-passed counts k w few h =
    let is = next-is k w few h in
    record {
      next = ap (λ (n : ℕ). n * 2 % 2 ^ 64) is ∙ ap (λ (n : ℕ). n % 2 ^ 64) {x = 2 ^ k * 2} {y = 2 ^ suc k} (omega (arith, pow-succ' 2 k));
      apart = ap (bit_or (done_of w)) (is ∙ sym (one-mul (2 ^ k))) ∙ or_shifted_r 1 k (done_of w) (done_below k w h) ∙ omega arith;
      below = omega (arith, pow-succ' 2 k, done_below k w h, is);
    }

-- a row more in front of the rows behind
one_more : (k : ℕ) (t : Bool) (done next rows : ℕ) → next ≡ 2 ^ k
    → done + pick t next 0 + 2 ^ suc k * rows ≡ done + 2 ^ k * (rows * 2 + bit_of t)
one_more k true done next rows e =
    omega (arith, ap (λ (n : ℕ). n * rows) (pow-succ' 2 k), mul_assoc 2 (2 ^ k) rows, mul-add (2 ^ k) (rows * 2) 1, mul_assoc (2 ^ k) rows 2)
one_more k false done next rows e =
    omega (arith, ap (λ (n : ℕ). n * rows) (pow-succ' 2 k), mul_assoc 2 (2 ^ k) rows, mul-add (2 ^ k) (rows * 2) 0, mul_assoc (2 ^ k) rows 2)

module _ (only : Bool) (watched : ℕ → Bool) (value : ℕ → Value) where
  -- what a walk that has passed k rows comes to, where the row at hand holds or not
  abbrev amount : ℕ → Walk → List Statement → Bool → ℕ
  amount k w rows t = w.set + pick t w.bit 0 + 2 ^ k * rows_word (gathered_in only watched value) rows

  abbrev total : ℕ → Walk → ℕ → Part → ℕ
  total k w column p = amount k w p.rows (row_holds watched value w column p)

  -- a listed value more
  seen-means : (x : Listed) (es : List Entry) (k : ℕ) (w : Walk) (column : ℕ) → Passed k w
      → ((j : ℕ) (u : Walk) (column : ℕ) → Passed j u → j + length (gather es).rows ≤ 64
      → done_of (run_in only watched value u column es) ≡ total j u column (gather es))
      → k + length (gather es).rows ≤ 64
      → done_of (run_in only watched value (pick (matters_of w) (seen_of (listed_matches w.reading (value column) x) w) w) column es)
      ≡ total k w column (record { values = x ∷ (gather es).values; elements = (gather es).elements; conditions = (gather es).conditions; rows = (gather es).rows })
  seen-means x es k w column h go few = by (matters_of w) refl
    where
      rest : Bool
      rest = every (element_asked watched value) (gather es).elements && every (condition_asked watched value) (gather es).conditions

      more : Bool
      more = some (listed_matches w.reading (value column)) (gather es).values

      by : (t : Bool) → matters_of w ≡ t
          → done_of (run_in only watched value (pick t (seen_of (listed_matches w.reading (value column) x) w) w) column es)
          ≡ total k w column (record { values = x ∷ (gather es).values; elements = (gather es).elements; conditions = (gather es).conditions; rows = (gather es).rows })
      by true e =
          go k (seen_of (listed_matches w.reading (value column) x) w) column (record { next = h.next; apart = h.apart; below = h.below }) few
          ∙ ap (amount k w (gather es).rows) (seen-matters w.holds w.here w.negated w.some (listed_matches w.reading (value column) x) more rest)
      by false e =
          go k w column h few
          ∙ ap (amount k w (gather es).rows) (seen-not w.holds w.here w.negated w.some (listed_matches w.reading (value column) x) more rest e)

  means : (es : List Entry) (k : ℕ) (w : Walk) (column : ℕ) → Passed k w → k + length (gather es).rows ≤ 64
      → done_of (run_in only watched value w column es) ≡ total k w column (gather es)
  unfolding step_in
  means [] k w column h few =
      done-is k w h
      ∙ ap (λ (t : Bool). w.set + pick t w.bit 0) (sym (closes w.holds w.here w.negated w.some))
      ∙ nothing-behind (w.set + pick (row_holds watched value w column empty) w.bit 0)
    where
      nothing-behind : (n : ℕ) → n ≡ n + 2 ^ k * 0
      nothing-behind n = omega arith
  means (Entry.start n ∷ es) k w column h few = means es k w column h few
  means (Entry.statement e ∷ es) k w column h few =
      means es (suc k) (began_of (counts_of only e) w) column (began-passed (counts_of only e) k w (omega arith) h) (omega arith)
      ∙ one_more k (row_holds watched value (began_of (counts_of only e) w) column (gather es)) (done_of w) w.next (rows_word (gathered_in only watched value) (gather es).rows)
      (next-is k w (omega arith) h)
      ∙ ap (λ (n : ℕ). n + 2 ^ k * (rows_word (gathered_in only watched value) (gather es).rows * 2 + bit_of (row_holds watched value (began_of (counts_of only e) w) column (gather es))))
      (done-is k w h ∙ ap (λ (t : Bool). w.set + pick t w.bit 0) (sym (closes w.holds w.here w.negated w.some)))
  means (Entry.column c ∷ es) k w column h few =
      means es k (step_in only watched value w column (Entry.column c)) (column_place c) (record { next = h.next; apart = h.apart; below = h.below }) few
      ∙ ap (amount k w (gather es).rows)
      (opens-element w.holds (not w.here || sense w.negated w.some) (watched (column_place c))
      (sense (column_negated c) (some (listed_matches (element_reading c) (value (column_place c))) (gather es).values))
      (every (element_asked watched value) (gather es).elements) (every (condition_asked watched value) (gather es).conditions)
      ∙ ap (λ (t : Bool). w.holds && ((not w.here || sense w.negated t)
      && (every (element_asked watched value) (record { name = c; values = (gather es).values } ∷ (gather es).elements) && every (condition_asked watched value) (gather es).conditions)))
      (sym (or-false w.some)))
  means (Entry.condition o key ∷ es) k w column h few =
      means es k (step_in only watched value w column (Entry.condition o key)) (3 + key_code key) (record { next = h.next; apart = h.apart; below = h.below }) few
      ∙ ap (amount k w (gather es).rows)
      (opens-condition w.holds (not w.here || sense w.negated w.some) (watched (3 + key_code key)) (is_present (value (3 + key_code key))) (row_of o).absent
      (sense (row_of o).negated (some (listed_matches (operator_reading o) (value (3 + key_code key))) (gather es).values))
      (every (element_asked watched value) (gather es).elements) (every (condition_asked watched value) (gather es).conditions)
      ∙ ap (λ (t : Bool). w.holds && ((not w.here || sense w.negated t)
      && (every (element_asked watched value) (gather es).elements && every (condition_asked watched value) (record { operator = o; key = key; values = (gather es).values } ∷ (gather es).conditions))))
      (sym (or-false w.some)))
  means (Entry.network a n ∷ es) k w column h few = seen-means (Listed.range a n) es k w column h (means es) few
  means (Entry.value bs ∷ es) k w column h few = seen-means (Listed.text bs) es k w column h (means es) few
  means (Entry.end ∷ es) k w column h few = means es k w column h few

  -- the walk gathers the rows of a table that count and hold in the columns watched for their values
  walk-in-means : (es : List Entry) → length (table_of es) ≤ 64
      → done_of (run_in only watched value fresh_walk 0 es) ≡ rows_word (gathered_in only watched value) (table_of es)
  walk-in-means es few =
      means es 0 fresh_walk 0 (record { next = refl; apart = refl; below = omega arith }) (omega arith)
      ∙ alone (rows_word (gathered_in only watched value) (table_of es))
    where
      alone : (n : ℕ) → 0 + 0 + 2 ^ 0 * n ≡ n
      alone n = omega arith

  -- a walk that has no entry left, and has come to what the walk over all of them comes to
  pub walk-ends : (es left : List Entry) (w : Walk) (column : ℕ) → left ≡ []
      → run_in only watched value w column left ≡ run_in only watched value fresh_walk 0 es → length (table_of es) ≤ 64
      → done_of w ≡ rows_word (gathered_in only watched value) (table_of es)
  walk-ends es [] w column none is few = ap done_of is ∙ walk-in-means es few
  walk-ends es (e ∷ left) w column none is few = cc

-- in a single column
module _ (only : Bool) (column : ℕ) (v : Value) where
  -- the walk that watches one column is the walk over that column
  one-column : (es : List Entry) (w : Walk) (k : ℕ) → run_in only (λ c. eqb c column) (λ c. v) w k es ≡ run_of only column v w es
  unfolding step_in step_of
  one-column [] w k = refl
  one-column (Entry.start n ∷ es) w k = one-column es w k
  one-column (Entry.statement e ∷ es) w k = one-column es (began_of (counts_of only e) w) k
  one-column (Entry.column c ∷ es) w k = one-column es (element_begun column c w) (column_place c)
  one-column (Entry.condition o key ∷ es) w k = one-column es (condition_begun column (is_present v) o key w) (3 + key_code key)
  one-column (Entry.network a n ∷ es) w k =
      one-column es (pick (matters_of w) (seen_of (listed_matches w.reading v (Listed.range a n)) w) w) k
  one-column (Entry.value bs ∷ es) w k =
      one-column es (pick (matters_of w) (seen_of (listed_matches w.reading v (Listed.text bs)) w) w) k
  one-column (Entry.end ∷ es) w k = one-column es w k

  -- the walk gathers the rows of a table that count and hold in the column for the value
  pub walk-means : (es : List Entry) → length (table_of es) ≤ 64 → done_of (run_of only column v fresh_walk es) ≡ rows_word (gathered only column v) (table_of es)
  unfolding holds
  walk-means es few = ap done_of (sym (one-column es fresh_walk 0)) ∙ walk-in-means only (λ c. eqb c column) (λ c. v) es few

-- the walk over all columns gathers the rows that apply
pub walk-applies : (request : List Value) (es : List Entry) → length (table_of es) ≤ 64
    → done_of (run_in false every_column (column_of request) fresh_walk 0 es) ≡ rows_word (applies request) (table_of es)
unfolding applies
walk-applies request es few = walk-in-means false every_column (column_of request) es few
