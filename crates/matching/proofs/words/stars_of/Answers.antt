use Rattle.std.proofs.Common.{ℕ, ◌<◌, eqb, ap, ◌∙◌, length-take, get_or-take, arith}
use Rattle.matching.specs.Machinery.Codes.{star_code}
use Rattle.matching.specs.Machinery.Words.{star_bit, star_row}
use Rattle.matching.proofs.MarkedRows.{none-marked, mark-more, all-marked, star-outside}
use Rattle.matching.proofs.words.stars_of.Goals as goal

pub loop-p-init : goal.loop-p-init
loop-p-init c = none-marked (star_bit c.args.codes.now)

pub loop-p-preserved : goal.loop-p-preserved
loop-p-preserved c =
    let l = c.loop-p in
    let codes = c.args.codes.now in
    let size = length-take c.min.result codes in
    let inside : l.p < c.min.result = omega arith in
    mark-more (star_bit codes) l.row c.mark_in.new.row l.p _ (omega arith) l.invariant
    (ap (λ (code : ℕ). eqb code star_code) (get_or-take c.min.result codes l.p 0 inside)) c.mark_in.ensures

pub returns : goal.returns
unfolding star_row
returns c =
    let l = c.loop-p in
    let codes = c.args.codes.now in
    let size = length-take c.min.result codes in
    l.invariant ∙ all-marked (star_bit codes) l.p (λ q h g. star-outside codes q (omega arith))
