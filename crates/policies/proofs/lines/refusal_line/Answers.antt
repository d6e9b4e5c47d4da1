-- Two numbers, each behind its word or a space, and the line feed.
use Rattle.printing.proofs.Laying.{joined}
use Rattle.policies.specs.Lines.{refusal_line}
use Rattle.policies.proofs.lines.refusal_line.Goals as goal

pub returns : goal.returns
unfolding refusal_line
returns c = rw (← c.from.ensures) (joined (joined c.put_number-first.ensures c.put_number-second.ensures) c.put.ensures)
