-- The walk over a table with a state in place of a string ends where the walk with the string does: the codes of the values still to come
-- stand from the walk's position on, so that a value's last position is in the row exactly when the value matches the string.
use Rattle.std.proofs.Common.{ℕ, ◌+◌, ◌≤◌, ◌≡◌, refl, sym, ◌∙◌, ap, ap₂, subst, Bool, true, false, not, ◌&&◌, List, [], ◌∷◌, ◌++◌, append_assoc, arith, eqb, length, length-append}
use mathlib.Core.Bool.{and-true, and-false}
use lib.ListN.{length-map}
use Rattle.stored.specs.Choice.{pick}
use Rattle.stored.specs.Items.{column_place, key_code}
use Rattle.stored.specs.Entries.{Entry}
use Rattle.stored.specs.Machinery.Following.{Accepted}
use Rattle.stored.specs.Tables.{Listed, Statement, table_of}
use Rattle.stored.proofs.Choosing.{never}
use Rattle.matching.specs.declared.reading.Reading.{Reading}
use Rattle.matching.specs.declared.reading.Reading.TheVariants as R
use Rattle.matching.specs.Symbols.{symbols, ignores_case}
use Rattle.matching.specs.Matches.{value_matches}
use Rattle.matching.specs.Machinery.Codes.{symbol_code, value_codes, codes_of}
use Rattle.matching.specs.Machinery.Rows.{row_bit, row_of}
use Rattle.matching.proofs.States.{symbols-length, codes-append, last-position-decides}
use Rattle.judging.specs.declared.walk.Walk.{Walk}
use Rattle.judging.specs.Requests.{text}
use Rattle.judging.specs.Meaning.{element_reading, operator_reading, holds}
use Rattle.judging.specs.Machinery.Rows.{rows_word}
use Rattle.judging.specs.Machinery.Walk.{fresh_walk, done_of, began_of, matters_of, seen_of, element_begun, condition_begun, step_of, run_of}
use Rattle.judging.proofs.Walking.{walk-means}
use Rattle.states.specs.Machinery.Rows.{most_states}
use Rattle.columns.specs.Values.{values_in}
use Rattle.columns.specs.Machinery.Contents.{texts, contents_from}
use Rattle.columns.specs.Machinery.StateWalk.{state_step, run_state}
use Rattle.columns.proofs.ColumnContents.{walk-contents, texts-in}
use Rattle.columns.proofs.Widths.{values-append}

-- a value that is seen leaves the list at hand as it is
seen_here : (t hit : Bool) (w : Walk) → (pick t (seen_of hit w) w).here ≡ w.here
seen_here true hit w = refl
seen_here false hit w = refl

seen-reading : (t hit : Bool) (w : Walk) → (pick t (seen_of hit w) w).reading ≡ w.reading
seen-reading true hit w = refl
seen-reading false hit w = refl

-- a value of another column does not matter
elsewhere : (w : Walk) → w.here ≡ false → matters_of w ≡ false
elsewhere w e = ap (λ (t : Bool). w.holds && (t && not w.some)) e ∙ and-false w.holds

-- a network is no string
network-text : (here : Bool) (reading : Reading) (a n : ℕ) (l : List (Reading × Listed)) → texts (pick here ((reading, Listed.range a n) ∷ l) l) ≡ texts l
network-text true reading a n l = refl
network-text false reading a n l = refl

-- a value has one position more than bytes
codes-size : (reading : Reading) (bs : List ℕ) → length (value_codes reading bs) ≡ length bs + 1
codes-size reading bs =
    omega (arith, length-map (symbols reading bs) (symbol_code (ignores_case reading)), symbols-length reading bs)

module _ (column : ℕ) (s row : List ℕ) where
  -- from any place of a table on: the codes of the values to come stand behind those in front
  Means : List Entry → Type 0
  Means es =
      (w : Walk) (here : Bool) (reading : Reading) → w.here ≡ here → (here ≡ true → w.reading ≡ reading)
      → (front back : List ℕ) → length (front ++ (codes_of (texts (contents_from column here reading es)) ++ back)) ≤ most_states
      → row ≡ row_of (front ++ (codes_of (texts (contents_from column here reading es)) ++ back)) s
      → run_state column row w (length front) es ≡ run_of false column (text s) w es

  value-means : (bs : List ℕ) (es : List Entry) → Means es → Means (Entry.value bs ∷ es)
  unfolding Means state_step step_of
  value-means bs es go w false reading h r front back few is =
      let passed = elsewhere w h in
      ap₂ (λ (t u : Bool). run_state column row (pick t (seen_of (row_bit row (length front + length bs)) w) w) (pick u (length front + (length bs + 1)) (length front)) es) passed h
      ∙ go w false reading h r front back few is
      ∙ sym (ap (λ (t : Bool). run_of false column (text s) (pick t (seen_of (value_matches w.reading bs s) w) w) es) passed)
  value-means bs es go w true reading h r front back few is =
      ap (λ (p : ℕ). run_state column row (pick (matters_of w) (seen_of (row_bit row (length front + length bs)) w) w) p es) behind
      ∙ ap (λ (hit : Bool). run_state column row (pick (matters_of w) (seen_of hit w) w) (length (front ++ value_codes reading bs)) es) decides
      ∙ go (pick (matters_of w) (seen_of (value_matches w.reading bs s) w) w) true reading
      (seen_here (matters_of w) (value_matches w.reading bs s) w ∙ h)
      (λ e. seen-reading (matters_of w) (value_matches w.reading bs s) w ∙ r e)
      (front ++ value_codes reading bs) back
      (subst (λ (codes : List ℕ). length codes ≤ most_states) regroup few)
      (is ∙ ap (λ (codes : List ℕ). row_of codes s) regroup)
    where
      rest : List ℕ
      rest = codes_of (texts (contents_from column true reading es))

      regroup : front ++ ((value_codes reading bs ++ rest) ++ back) ≡ (front ++ value_codes reading bs) ++ (rest ++ back)
      regroup = simp append_assoc

      behind : pick w.here (length front + (length bs + 1)) (length front) ≡ length (front ++ value_codes reading bs)
      behind =
          ap (λ (t : Bool). pick t (length front + (length bs + 1)) (length front)) h
          ∙ omega (arith, length-append front (value_codes reading bs), codes-size reading bs)

      split : front ++ ((value_codes reading bs ++ rest) ++ back) ≡ front ++ (value_codes reading bs ++ (rest ++ back))
      split = ap (λ (l : List ℕ). front ++ l) (append_assoc (value_codes reading bs) rest back)

      decides : row_bit row (length front + length bs) ≡ value_matches w.reading bs s
      decides =
          ap₂ (λ (x : List ℕ) (n : ℕ). row_bit x (length front + n)) (is ∙ ap (λ (codes : List ℕ). row_of codes s) split) (sym (symbols-length reading bs))
          ∙ last-position-decides reading bs front (rest ++ back) (subst (λ (codes : List ℕ). length codes ≤ most_states) split few) s
          ∙ ap (λ (x : Reading). value_matches x bs s) (sym (r refl))

  means : (es : List Entry) → Means es
  unfolding Means state_step step_of
  means [] w here reading h r front back few is = refl
  means (Entry.start n ∷ es) w here reading h r front back few is = means es w here reading h r front back few is
  means (Entry.statement e ∷ es) w here reading h r front back few is =
      means es (began_of true w) false reading refl (λ e. never (cc)) front back few is
  means (Entry.column c ∷ es) w here reading h r front back few is =
      means es (element_begun column c w) (eqb (column_place c) column) (element_reading c) refl (λ e. refl) front back few is
  means (Entry.condition o k ∷ es) w here reading h r front back few is =
      means es (condition_begun column true o k w) (eqb (3 + key_code k) column) (operator_reading o) (and-true (eqb (3 + key_code k) column)) (λ e. refl) front back few is
  means (Entry.network a n ∷ es) w here reading h r front back few is =
      let same = network-text here reading a n (contents_from column here reading es) in
      means es (pick (matters_of w) (seen_of false w) w) here reading (seen_here (matters_of w) false w ∙ h) (λ e. seen-reading (matters_of w) false w ∙ r e) front back
      (subst (λ (vs : List (Reading × List ℕ)). length (front ++ (codes_of vs ++ back)) ≤ most_states) same few)
      (is ∙ ap (λ (vs : List (Reading × List ℕ)). row_of (front ++ (codes_of vs ++ back)) s) same)
  means (Entry.value bs ∷ es) w here reading h r front back few is = value-means bs es (means es) w here reading h r front back few is
  means (Entry.end ∷ es) w here reading h r front back few is = means es w here reading h r front back few is

-- The walk with a state is the walk with any string that has the state, wherever the codes of the column's values stand: of any entries, the
-- values in their order.
pub state-walk-contents : (column : ℕ) (es : List Entry) (s row front back : List ℕ)
    → length (front ++ (codes_of (texts (contents_from column false R.Literal es)) ++ back)) ≤ most_states
    → row ≡ row_of (front ++ (codes_of (texts (contents_from column false R.Literal es)) ++ back)) s
    → run_state column row fresh_walk (length front) es ≡ run_of false column (text s) fresh_walk es
unfolding Means
state-walk-contents column es s row front back few is = means column s row es fresh_walk false R.Literal refl (λ e. refl) front back few is

-- Of an accepted table, the values of its statements.
pub state-walk : (column : ℕ) (es : List Entry) → Accepted es → (s row front back : List ℕ)
    → length (front ++ (codes_of (values_in column (table_of es)) ++ back)) ≤ most_states
    → row ≡ row_of (front ++ (codes_of (values_in column (table_of es)) ++ back)) s
    → run_state column row fresh_walk (length front) es ≡ run_of false column (text s) fresh_walk es
state-walk column es ok s row front back few is =
    let same = ap texts (walk-contents column R.Literal es ok) ∙ texts-in column (table_of es) in
    state-walk-contents column es s row front back
    (subst (λ (vs : List (Reading × List ℕ)). length (front ++ (codes_of vs ++ back)) ≤ most_states) (sym same) few)
    (is ∙ ap (λ (vs : List (Reading × List ℕ)). row_of (front ++ (codes_of vs ++ back)) s) (sym same))

-- So it gathers the rows of the table that hold for such a string.
pub state-walk-means : (column : ℕ) (es : List Entry) → Accepted es → length (table_of es) ≤ 64 → (s row front back : List ℕ)
    → length (front ++ (codes_of (values_in column (table_of es)) ++ back)) ≤ most_states
    → row ≡ row_of (front ++ (codes_of (values_in column (table_of es)) ++ back)) s
    → done_of (run_state column row fresh_walk (length front) es) ≡ rows_word (holds column (text s)) (table_of es)
state-walk-means column es ok rows s row front back few is =
    ap done_of (state-walk column es ok s row front back few is) ∙ walk-means false column (text s) es rows

-- The codes of a column of two tables.
pub codes-both : (column : ℕ) (first second : List Statement)
    → codes_of (values_in column (first ++ second)) ≡ codes_of (values_in column first) ++ codes_of (values_in column second)
codes-both column first second =
    ap codes_of (values-append column first second) ∙ codes-append (values_in column first) (values_in column second)
