-- Three numbers, each behind a space, and the line feed.
use Rattle.std.proofs.Common.{ℕ, ap₂}
use Rattle.printing.proofs.Laying.{joined, relaid}
use Rattle.gaps.specs.Lines.{refusal_line}
use Rattle.gaps.proofs.lines.refusal_line.Goals as goal

pub returns : goal.returns
unfolding refusal_line
returns c =
    relaid (ap₂ (λ (number table : ℕ). refusal_line number table c.args.place) c.from.ensures c.from-2.ensures)
    (joined (joined (joined c.put_number-first.ensures c.put_number-second.ensures) c.put_number-third.ensures) c.put.ensures)
