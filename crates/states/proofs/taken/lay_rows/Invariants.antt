-- The rows of the bytes have the positions before the one at hand: that is the invariant.
use Rattle.states.specs.Machinery.Rows.{codes_laid}
use Rattle.states.proofs.TakenRows.{RowsUpto}
use Rattle.states.proofs.taken.lay_rows.Given as goal

abbrev pub invariant-loop-p : goal.invariant-loop-p
invariant-loop-p l = RowsUpto (codes_laid l.positions l.initial.words) l.initial.words l.words l.p
