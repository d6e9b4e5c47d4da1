-- The bytes of the words before the index are named: that is the invariant.
use Rattle.std.proofs.Common.{◌*◌}
use Rattle.states.specs.Machinery.Bytes.{Names}
use Rattle.states.proofs.named.name_positions.Given as goal

abbrev pub invariant-loop-i : goal.invariant-loop-i
invariant-loop-i l = Names l.words l.row (64 * l.i) l.named.words
