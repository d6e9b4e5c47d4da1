use Rattle.std.proofs.Common.{List, arith, ap, ◌∙◌}
use Rattle.stored.specs.Tables.{Listed}
use Rattle.matching.specs.declared.reading.Reading.{Reading}
use Rattle.columns.specs.Values.{sum_of}
use Rattle.columns.specs.Machinery.Contents.{texts}
use Rattle.columns.proofs.LeftInColumn.{all-values, texts-few}
use Rattle.columns.proofs.contents.positions_in.Goals as goal

pub overflow_add-sum-in-Text : goal.overflow_add-sum-in-Text
overflow_add-sum-in-Text c =
    let more = rw c.in-Text.is at (ap (λ (l : List (Reading × Listed)). sum_of (texts l)) c.in-Some.ensures.steps) in
    omega (arith, c.loop-content.invariant, texts-few c.args.column c.args.table.now, c.well_formed)

pub returns : goal.returns
returns c =
    let none = ap (λ (l : List (Reading × Listed)). sum_of (texts l)) c.in-None.ensures.steps.0 in
    omega (arith, c.loop-content.invariant) ∙ ap sum_of (all-values c.args.column c.args.table.now c.requires)
