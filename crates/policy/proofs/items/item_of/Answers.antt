-- Each wish but a string is its item; a string is asked for by its bytes.
use Rattle.std.proofs.Common.{arith}
use Rattle.policy.proofs.Standing.{start-stands}
use Rattle.policy.proofs.items.item_of.Goals as goal

pub returns-in-Start : goal.returns-in-Start
returns-in-Start c = rw (c.in-Start.is, c.in_byte.ensures) (omega arith, start-stands c.args.state _ _)

pub returns-in-Value : goal.returns-in-Value
returns-in-Value c = rw c.in-Value.is (c.value_item.ensures c.args.state)
