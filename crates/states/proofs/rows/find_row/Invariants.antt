-- No row before the index is this one: that is the invariant.
use Rattle.std.proofs.Common.{◌≡◌, ℕ, ◌<◌}
use Rattle.states.specs.Machinery.Rows.{row_at}
use Rattle.states.proofs.rows.find_row.Given as goal

abbrev pub invariant-loop-i : goal.invariant-loop-i
invariant-loop-i l = (j : ℕ) → j < l.i → row_at l.words j ≡ l.row → ⊥
