-- The loop is a sweep from no position: what is left of it, from the row so far, makes the row that is meant.
use Rattle.std.proofs.Common.{◌≡◌, true, false, drop}
use Rattle.matching.specs.Machinery.Rows.{nowhere, first_row}
use Rattle.matching.proofs.Sweeps.{sweep}
use Rattle.matching.proofs.state.first_state.Given as goal

abbrev pub invariant-loop-p : goal.invariant-loop-p
invariant-loop-p l = sweep true 0 nowhere (drop l.p l.within) l.row l.p l.new false ≡ first_row l.codes
