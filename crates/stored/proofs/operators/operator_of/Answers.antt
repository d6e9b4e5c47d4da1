use Rattle.std.proofs.Common.{sym, ◌∙◌, arith}
use Rattle.stored.proofs.OperatorTable.{passed}
use Rattle.stored.proofs.operators.operator_of.Goals as goal

pub loop-row-preserved : goal.loop-row-preserved
loop-row-preserved c = sym (passed _ _ _ (omega arith) c.if-row-code.false) ∙ c.loop-row.invariant
