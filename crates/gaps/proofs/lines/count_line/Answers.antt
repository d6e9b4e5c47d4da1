-- The number behind its name, and the line feed.
use Rattle.printing.proofs.Laying.{joined}
use Rattle.gaps.specs.Lines.{count_line}
use Rattle.gaps.proofs.lines.count_line.Goals as goal

pub returns : goal.returns
unfolding count_line
returns c = joined c.put_number-next.ensures c.put.ensures
