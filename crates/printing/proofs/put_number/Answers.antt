-- The name, and the digits behind it.
use Rattle.printing.proofs.Laying.{joined}
use Rattle.printing.proofs.put_number.Goals as goal

pub returns : goal.returns
returns c = joined c.put-next.ensures c.put_decimal.ensures
