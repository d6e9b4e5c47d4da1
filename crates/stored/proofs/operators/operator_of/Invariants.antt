-- No row before the index has the code, so the rows from it on decide: that is the invariant.
use Rattle.std.proofs.Common.{◌≡◌, drop}
use Rattle.stored.specs.Operators.{operator_of}
use Rattle.stored.proofs.OperatorTable.{rows, first_with}
use Rattle.stored.proofs.operators.operator_of.Given as goal

abbrev pub invariant-loop-row : goal.invariant-loop-row
invariant-loop-row l = first_with l.code (drop l.row-index rows) ≡ operator_of l.code
