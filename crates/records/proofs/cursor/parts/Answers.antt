-- `records::cursor::parts` meets its contract: what the walk to an element finds is what `element_from` goes by.
use Rattle.std.proofs.Common.{sym, ◌∙◌, ap}
use Rattle.records.specs.Machinery.Walkers.{Sought}
use Rattle.records.specs.Machinery.Streams.{element_from}
use Rattle.records.specs.Machinery.Cursors.{part_left}
use Rattle.records.proofs.Parts.{after_part, part-element}
use Rattle.records.proofs.cursor.parts.Goals as goal

pub returns-in-Some-seek_member : goal.returns-in-Some-seek_member
returns-in-Some-seek_member c =
    let text = c.args.text.now in
    let row = c.args.row in
    sym c.loop-like.invariant
    ∙ part-element text row c.loop-like.part
    ∙ ap (after_part text row) (sym c.in-Some.ensures)
    ∙ ap (λ (x : Sought). element_from x (part_left text row c.in-Some.behind)) (sym c.in-Some-seek_member.ensures)
    ∙ c.column.ensures
