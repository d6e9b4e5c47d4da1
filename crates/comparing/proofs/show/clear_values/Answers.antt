use Rattle.std.proofs.Common.{ℕ, List, ◌++◌, ◌∙◌, ap, drop, replicate}
use Rattle.std.proofs.Math.Seq.{length-take-le}
use Rattle.comparing.specs.Compared.{value_bytes}
use Rattle.comparing.proofs.show.clear_values.Goals as goal

pub returns : goal.returns
returns c =
    let a = c.args in
    ap (λ (l : List ℕ). l ++ drop value_bytes a.values.now)
    (c.fill.ensures.after (λ y same. same) ∙ ap (λ (n : ℕ). replicate n 0) (length-take-le value_bytes a.values.now c.requires))
