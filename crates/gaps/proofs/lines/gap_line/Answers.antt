-- The number, the columns that are there, and the line feed, each behind the one before it.
use Rattle.std.proofs.Common.{arith}
use Rattle.printing.proofs.Laying.{joined, widened}
use Rattle.gaps.specs.Lines.{gap_line}
use Rattle.gaps.proofs.lines.gap_line.Goals as goal

pub returns : goal.returns
unfolding gap_line
returns c =
    widened (omega arith)
    (joined (joined (joined (joined c.put_decimal-number.ensures c.put_needed-needed.ensures) c.put_keys-keys.ensures) c.put_address-address.ensures) c.put.ensures)
