use Rattle.std.proofs.Common.{◌+◌, ◌-◌, ◌*◌, ◌%◌, ◌^◌, ◌<◌, ℕ, sym, ap, ◌∙◌, arith, get_or}
use Rattle.comparing.proofs.kinds.Settling.{right-more, kinds_on, kinds-step}
use Rattle.comparing.proofs.kinds.kinds_of.Goals as goal

pub loop-column-preserved : goal.loop-column-preserved
loop-column-preserved c =
    let bounds = c.args.bounds.now in
    let now = c.loop-column in
    let some : 0 < now.column = omega arith in
    right-more (kinds_on bounds) now.kinds now.column c.kinds_with.result some (omega arith) now.invariant
    (c.kinds_with.ensures
    ∙ ap (λ (n : ℕ). (get_or bounds (now.column - 1 + 1) 0 - get_or bounds (now.column - 1) 0) * n % 2 ^ 32)
    (now.invariant.1 (now.column - 1 + 1) (omega arith) (omega arith))
    ∙ sym (kinds-step bounds (now.column - 1) (omega arith)))
