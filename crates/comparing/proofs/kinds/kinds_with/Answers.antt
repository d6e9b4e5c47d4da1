-- The remainder of the count before the product changes no remainder of the product, and keeps it within a word.
use Rattle.std.proofs.Common.{◌^◌}
use Rattle.comparing.proofs.kinds.Settling.{remainder-times}
use Rattle.comparing.proofs.kinds.kinds_with.Goals as goal

pub returns : goal.returns
returns c = remainder-times c.args.count c.args.kinds (2 ^ 32)
