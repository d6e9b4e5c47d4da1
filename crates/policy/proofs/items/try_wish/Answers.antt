-- The item that stands for the wish does in the machine what the wish does.
use Rattle.std.proofs.Common.{◌∙◌, take}
use Rattle.records.specs.Machinery.Cursors.{wish_of}
use Rattle.policy.proofs.Standing.{stands-would}
use Rattle.policy.proofs.items.try_wish.Goals as goal

pub returns : goal.returns
returns c =
    let a = c.args in
    let asked = c.in_ok-item in
    c.would_write.ensures
    ∙ stands-would a.state (wish_of a.text.now a.wish a.place) asked.item (take asked.size c.item_of.new.bytes) asked.ensures.1
