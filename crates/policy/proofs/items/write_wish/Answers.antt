-- The item that stands for the wish does in the writer what the wish does.
use Rattle.std.proofs.Common.{◌∙◌, length, take}
use Rattle.stored.specs.Writing.{as_written}
use Rattle.records.specs.Machinery.Cursors.{wish_of}
use Rattle.policy.proofs.Standing.{stands-writing, stands-laid}
use Rattle.policy.proofs.items.write_wish.Goals as goal

pub returns-in-Ok : goal.returns-in-Ok
returns-in-Ok c =
    let a = c.args in
    let x = wish_of a.text.now a.wish a.place in
    let i = c.in-Ok.item in
    let bs = take c.in-Ok.size c.item_of.new.bytes in
    let h = c.in-Ok.ensures.1 in
    let answer = c.write.ensures.answer ∙ stands-writing a.writer x i bs (length a.buffer.now) h in
    record { answer = answer; laid = c.write.ensures.laid ∙ stands-laid a.writer x i bs a.buffer.now (as_written c.write.result) h answer }
