-- Each step goes on from the room and the place that the one before left.
use Rattle.std.proofs.Common.{arith}
use Rattle.cases.proofs.OneByOne.{value-laid}
use Rattle.cases.proofs.laying.lay_value.Goals as goal

pub returns : goal.returns
returns c =
    let first = c.lay_byte-start.ensures in
    let text = c.lay_text-end.ensures in
    let kind = c.lay_byte.ensures in
    let both = value-laid _ _ _ _ _ _ _ _ first.next first.laid text.next text.laid kind.laid in
    record { on = omega (arith, first.on, text.on); next = both.0; laid = both.1 }
