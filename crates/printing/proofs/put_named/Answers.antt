-- The name, and the bytes behind it.
use Rattle.printing.proofs.Laying.{joined}
use Rattle.printing.proofs.put_named.Goals as goal

pub returns : goal.returns
returns c = joined c.put-next.ensures c.put.ensures
