use Rattle.std.proofs.Common.{ℕ, true, false, List, take, replicate, ap, ◌∙◌}
use Rattle.std.proofs.lemmas.List.{take_min}
use Rattle.matching.specs.Machinery.Rows.{nowhere}
use Rattle.matching.proofs.Sweeps.{sweep, sweep-first}
use Rattle.matching.proofs.state.first_state.Goals as goal

pub loop-p-init : goal.loop-p-init
loop-p-init c =
    let codes = c.args.codes.now in
    ap (λ (l : List ℕ). sweep true 0 nowhere l (replicate 8 0) 0 false false) (ap (λ (n : ℕ). take n codes) c.min.ensures ∙ take_min 512 codes)
    ∙ sweep-first codes
