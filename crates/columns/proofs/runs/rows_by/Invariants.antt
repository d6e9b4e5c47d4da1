-- The loop's invariant: the run over the words left, from the run at hand, is the run over all of them from the beginning.
use Rattle.std.proofs.Common.{◌≡◌, ℕ, Bool, drop}
use Rattle.columns.specs.Machinery.Plan.{fresh_run, run_plan}
use Rattle.columns.proofs.runs.rows_by.Given as goal

abbrev pub invariant-loop-word : goal.invariant-loop-word
invariant-loop-word g l =
    (matches : ℕ → Bool) → ((q : ℕ) (hit : Bool) → goal.H-post g l.hits q hit → hit ≡ matches q)
    → run_plan matches l.run (drop l.word-index l.plan) ≡ run_plan matches fresh_run l.plan
