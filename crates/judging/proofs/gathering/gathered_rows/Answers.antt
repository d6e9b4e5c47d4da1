use Rattle.std.proofs.Common.{◌∙◌}
use Rattle.stored.specs.Entries.{entries_of}
use Rattle.stored.specs.EntriesLeft.{entries_left}
use Rattle.judging.proofs.Walking.{walk-ends}
use Rattle.judging.proofs.gathering.gathered_rows.Goals as goal

pub returns : goal.returns
returns g c =
    let asked = c.args.asked.now in
    let here = c.loop-entry in
    c.done.ensures
    ∙ walk-ends c.args.only (g.A.Asked.watched asked) (g.A.Asked.held asked) (entries_of c.args.table.now) (entries_left here.entry-iterator) here.walk here.column
    c.in-None.ensures.steps.0 here.invariant c.requires
