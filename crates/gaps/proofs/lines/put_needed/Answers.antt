-- Three columns, each behind the one before it.
use Rattle.printing.proofs.Laying.{joined}
use Rattle.gaps.proofs.lines.put_needed.Goals as goal

pub returns : goal.returns
returns c =
    joined (joined c.put_column-principal.ensures c.put_column-action.ensures) c.put_column.ensures
