-- A count of trailing zeros that reaches the length is what the definition says of the low bits; the address 0 has none set.
use Rattle.std.proofs.Common.{arith}
use Rattle.std.proofs.lemmas.Bool.{le-leb}
use Rattle.stored.proofs.LowBits.{low-bits-zero}
use Rattle.stored.proofs.networks.is_sound_network.Goals as goal

pub returns-else-address-eq0 : goal.returns-else-address-eq0
returns-else-address-eq0 c = rw (le-leb _ _ c.if-length-le32.true, c.from.ensures) (low-bits-zero _ 32 _ (omega arith))
