-- By the cases of the code.
use Rattle.std.proofs.Common.{◌∙◌, ap, arith, eqb}
use Rattle.matching.specs.Machinery.Codes.{takes_byte}
use Rattle.states.proofs.CodeBytes.{names-none, names-far, names-exact}
use Rattle.states.proofs.ByteSets.{adds_none, adds-as}
use Rattle.states.proofs.named.with_named.Goals as goal

pub returns-then-code-lt4 : goal.returns-then-code-lt4
returns-then-code-lt4 c =
    let a = c.args in
    adds_none a.set.words (takes_byte a.code) (λ x few. names-none a.code x (omega arith))

pub returns-in_default : goal.returns-in_default
returns-in_default c =
    let a = c.args in
    adds_none a.set.words (takes_byte a.code) (λ x few. names-far a.code x (omega (arith, c.in_default.ensures)) few)

pub returns-then-code-eq0 : goal.returns-then-code-eq0
returns-then-code-eq0 c =
    let a = c.args in
    adds-as a.set.words c.with.result.words (λ x. eqb x c.in-Ok.b) (takes_byte a.code) c.with.ensures
    (λ x few. ap (eqb x) c.in-Ok.ensures.1 ∙ names-exact a.code x (omega arith) c.if-code-eq0.true)
