-- Four columns, each behind the one before it.
use Rattle.printing.proofs.Laying.{joined}
use Rattle.gaps.proofs.lines.put_keys.Goals as goal

pub returns : goal.returns
returns c =
    joined (joined (joined c.put_column-vpc.ensures c.put_column-prefix.ensures) c.put_column-vpce.ensures) c.put_column.ensures
