-- Footprints of two tables as one set of rows: the second's rows shifted behind the first's fit into one word; and the rows of each by the
-- plans of both.
use Rattle.std.proofs.Common.{ℕ, ◌+◌, ◌*◌, ◌^◌, ◌<◌, ◌≤◌, ◌≡◌, sym, ap, ap₂, subst, ◌∙◌, Bool, true, false, List, [], ◌++◌, append-nil, arith, length}
use Rattle.stored.specs.Entries.{Entry, entries_of}
use Rattle.stored.specs.Machinery.Following.{Accepted}
use Rattle.stored.specs.Tables.{Statement, table_of}
use Rattle.matching.specs.Machinery.Codes.{codes_of}
use Rattle.matching.specs.Machinery.Rows.{row_bit, row_of}
use Rattle.judging.specs.Requests.{text, number}
use Rattle.judging.specs.Meaning.{holds}
use Rattle.judging.specs.Machinery.Rows.{rows_word}
use Rattle.judging.specs.Judging.{rows_of}
use Rattle.judging.specs.Machinery.Walk.{fresh_walk, done_of}
use Rattle.judging.proofs.RowSets.{below, joined}
use Rattle.judging.proofs.Walking.{walk-means}
use Rattle.columns.specs.declared.plan.Plans.{Plans}
use Rattle.columns.specs.Machinery.Both.{BothRead, Narrow}
use Rattle.columns.specs.Values.{values_in, sum_of}
use Rattle.columns.specs.Machinery.StateWalk.{run_state}
use Rattle.columns.specs.Machinery.Plan.{plan_of, in_network, fresh_run, done_run, run_plan, TextPlans}
use Rattle.columns.specs.declared.prints.Prints.{Prints}
use Rattle.columns.specs.Machinery.LastPositions.{rows_meet}
use Rattle.columns.specs.Machinery.Prints.{IsReached, own_plan, other_plan, prints_of}
use Rattle.columns.proofs.LastPositions.{both-alike}
use Rattle.columns.proofs.PlanDecides.{plan-decides, plan-finds}
use Rattle.columns.proofs.StateWalk.{state-walk-means, codes-both}
use Rattle.columns.proofs.Widths.{codes-sum}

-- The rows of each of two tables that pass a test fit into one word, and this word is the rows of both.
module _ (test : Statement → Bool) (first second : List Statement) (size own other : ℕ)
    (rows : size ≡ length first) (few : length first ≤ 32) (more : length second ≤ 32)
    (own_is : own ≡ rows_word test first) (other-is : other ≡ rows_word test second) where
  pub both-fit : (own < 2 ^ size) × (size ≤ 32) × (other < 2 ^ 32)
  both-fit = (
    subst (λ (n : ℕ). n < 2 ^ size) (sym own_is) (below test first size (omega arith)),
    omega arith,
    subst (λ (n : ℕ). n < 2 ^ 32) (sym other-is) (below test second 32 more),
  )

  pub both-print : own + 2 ^ size * other ≡ rows_word test (first ++ second)
  both-print =
      ap₂ (λ (m n : ℕ). m + 2 ^ size * n) own_is other-is
      ∙ ap (λ (n : ℕ). rows_word test first + 2 ^ n * rows_word test second) rows
      ∙ sym (joined test first second)

-- The rows of each of two tables that hold for a string, by the walk with the string's state: the positions of the second table's values
-- begin behind those of the first's.
state-sides : (column : ℕ) (es fs : List Entry) → Accepted es → Accepted fs → length (table_of es) ≤ 64 → length (table_of fs) ≤ 64
    → sum_of (values_in column (table_of es ++ table_of fs)) ≤ 512
    → (s row : List ℕ) → row_of (codes_of (values_in column (table_of es ++ table_of fs))) s ≡ row
    → (done_of (run_state column row fresh_walk 0 es) ≡ rows_word (holds column (text s)) (table_of es))
    × (done_of (run_state column row fresh_walk (sum_of (values_in column (table_of es))) fs) ≡ rows_word (holds column (text s)) (table_of fs))
state-sides column es fs ok also few more fits s row is =
    let all : length (codes_of (values_in column (table_of es ++ table_of fs))) ≤ 512 = omega (arith, fits, codes-sum (values_in column (table_of es ++ table_of fs))) in (
      state-walk-means column es ok few s row [] (codes_of (values_in column (table_of fs)))
          (subst (λ (codes : List ℕ). length codes ≤ 512) both all)
          (sym is ∙ ap (λ (codes : List ℕ). row_of codes s) both),
      ap (λ (n : ℕ). done_of (run_state column row fresh_walk n fs)) (sym (codes-sum (values_in column (table_of es))))
          ∙ state-walk-means column fs also more s row (codes_of (values_in column (table_of es))) []
          (subst (λ (codes : List ℕ). length codes ≤ 512) last all)
          (sym is ∙ ap (λ (codes : List ℕ). row_of codes s) last),
    )
  where
    both : codes_of (values_in column (table_of es ++ table_of fs)) ≡ codes_of (values_in column (table_of es)) ++ codes_of (values_in column (table_of fs))
    both = codes-both column (table_of es) (table_of fs)

    last : codes_of (values_in column (table_of es ++ table_of fs))
        ≡ codes_of (values_in column (table_of es)) ++ (codes_of (values_in column (table_of fs)) ++ [])
    last = both ∙ ap (λ (l : List ℕ). codes_of (values_in column (table_of es)) ++ l) (sym (append-nil (codes_of (values_in column (table_of fs)))))

-- And by the plans.
plan-sides : (column : ℕ) (es fs : List Entry) → Accepted es → Accepted fs → length (table_of es) ≤ 32 → length (table_of fs) ≤ 32
    → sum_of (values_in column (table_of es ++ table_of fs)) ≤ 512
    → (s row : List ℕ) → row_of (codes_of (values_in column (table_of es ++ table_of fs))) s ≡ row
    → (done_run (run_plan (row_bit row) fresh_run (plan_of column true 0 es)) ≡ rows_word (holds column (text s)) (table_of es))
    × (done_run (run_plan (row_bit row) fresh_run (plan_of column true (sum_of (values_in column (table_of es))) fs)) ≡ rows_word (holds column (text s)) (table_of fs))
plan-sides column es fs ok also few more fits s row is =
    let sides = state-sides column es fs ok also (omega arith) (omega arith) fits s row is in (
      plan-decides column row 0 es ∙ sides.0,
      plan-decides column row (sum_of (values_in column (table_of es))) fs ∙ sides.1,
    )

-- With the rows of each table by the plans in the workspace: they fit into one word, and are the footprint of each string with the state.
module _ (first second : List ℕ) (size column : ℕ) (words row : List ℕ) (plans : Plans) (own other : ℕ) (read : BothRead first second size)
    (laid : TextPlans first second column words plans) (narrow : Narrow (rows_of first ++ rows_of second) column)
    (own_is : own ≡ done_run (run_plan (row_bit row) fresh_run (own_plan words plans)))
    (other-is : other ≡ done_run (run_plan (row_bit row) fresh_run (other_plan words plans))) where
  sides : (s : List ℕ) → row_of (codes_of (values_in column (rows_of first ++ rows_of second))) s ≡ row
      → (own ≡ rows_word (holds column (text s)) (rows_of first)) × (other ≡ rows_word (holds column (text s)) (rows_of second))
  sides s is =
      let found = plan-sides column (entries_of first) (entries_of second) read.one read.two read.few read.more narrow s row is in (
        own_is ∙ ap (λ (l : List ℕ). done_run (run_plan (row_bit row) fresh_run l)) laid.own ∙ found.0,
        other-is ∙ ap (λ (l : List ℕ). done_run (run_plan (row_bit row) fresh_run l)) laid.other ∙ found.1,
      )

  pub sides-fit : IsReached (codes_of (values_in column (rows_of first ++ rows_of second))) row → (own < 2 ^ size) × (size ≤ 32) × (other < 2 ^ 32)
  sides-fit (s, is) =
      let found = sides s is in
      both-fit (holds column (text s)) (rows_of first) (rows_of second) size own other read.rows read.few read.more found.0 found.1

  pub sides-print : (s : List ℕ) → row_of (codes_of (values_in column (rows_of first ++ rows_of second))) s ≡ row
      → own + 2 ^ size * other ≡ rows_word (holds column (text s)) (rows_of first ++ rows_of second)
  sides-print s is =
      let found = sides s is in
      both-print (holds column (text s)) (rows_of first) (rows_of second) size own other read.rows read.few read.more found.0 found.1

-- A state that has none of the last positions: the rows that were worked out for no position are those by the plans.
pub none-met : (words row : List ℕ) (prints : Prints) → length row ≡ 8 → prints ≡ prints_of words prints.plans → rows_meet row prints.ends ≡ false
    → (prints.own ≡ done_run (run_plan (row_bit row) fresh_run (own_plan words prints.plans)))
    × (prints.other ≡ done_run (run_plan (row_bit row) fresh_run (other_plan words prints.plans)))
none-met words row prints wide found none =
    let alike =
    both-alike row wide (own_plan words prints.plans) (other_plan words prints.plans) fresh_run
    (sym (ap (λ (p : Prints). rows_meet row p.ends) found) ∙ none) in (
      ap (λ (p : Prints). p.own) found ∙ sym (ap done_run alike.0),
      ap (λ (p : Prints). p.other) found ∙ sym (ap done_run alike.1),
    )

-- The rows of a table that hold for an address, by the plan of column 7.
pub address-side : (x : ℕ) (es : List Entry) (plan : List ℕ) → plan ≡ plan_of 7 false 0 es → length (table_of es) ≤ 32
    → done_run (run_plan (in_network x) fresh_run plan) ≡ rows_word (holds 7 (number x)) (table_of es)
address-side x es plan is few =
    ap (λ (l : List ℕ). done_run (run_plan (in_network x) fresh_run l)) is ∙ plan-finds x es ∙ walk-means false 7 (number x) es (omega arith)
