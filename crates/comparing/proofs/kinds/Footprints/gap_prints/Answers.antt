use Rattle.std.proofs.Common.{◌<◌}
use Rattle.comparing.proofs.kinds.KindsInWords.{along-on}
use Rattle.comparing.proofs.kinds.GapPrints.{laid_on, laid_done, along-none}
use Rattle.comparing.proofs.kinds.Footprints.gap_prints.Goals as goal

pub returns-in_default : goal.returns-in_default
returns-in_default c =
    let f = c.args.self.now in
    let now = c.loop-column in
    laid_done now.invariant.1
    (along-none f.sides f.words.now f.bounds now.column now.rows now.left c.loop-column-test.true c.in_default.ensures.found)

pub loop-column-preserved : goal.loop-column-preserved
loop-column-preserved c =
    let f = c.args.self.now in
    let now = c.loop-column in
    let low : now.column < 8 = c.loop-column-test.true in (
      c.in-Some.ensures.few,
      laid_on low now.invariant.1
          (along-on f.words.now f.bounds now.column low f.sides now.rows now.left c.in-Some.step c.in-Some.ensures.found),
    )
