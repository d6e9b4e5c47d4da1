use Rattle.std.proofs.Common.{◌+◌, ◌-◌, ◌<◌, sym, ap, ap₂, ◌∙◌, arith}
use Rattle.comparing.specs.Machinery.Kinds.{prints_in, meet_all, meet_of}
use Rattle.comparing.proofs.kinds.KindsInWords.{prints-on}
use Rattle.comparing.proofs.kinds.Settling.{right-more}
use Rattle.comparing.proofs.kinds.meets_of.Goals as goal

pub loop-column-preserved : goal.loop-column-preserved
loop-column-preserved c =
    let words = c.args.words.now in
    let bounds = c.args.bounds.now in
    let now = c.loop-column in
    let some : 0 < now.column = omega arith in
    let low : now.column - 1 < 8 = omega arith in
    right-more (λ n. meet_of (prints_in words bounds n)) now.meets now.column c.meet_column.result some (omega arith) now.invariant
    (c.meet_column.ensures
    ∙ ap₂ meet_all (now.invariant.1 (now.column - 1 + 1) (omega arith) (omega arith)) c.column_prints.ensures
    ∙ sym (ap meet_of (prints-on words bounds (now.column - 1) low)))
