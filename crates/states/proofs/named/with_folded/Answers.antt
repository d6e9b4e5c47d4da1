-- By the cases of the byte: it has no case, it is a capital letter, or a small one, which the capital one folds to.
use Rattle.std.proofs.Common.{◌-◌, ◌<◌, ◌⊎◌, inl, inr, arith, eqb}
use Rattle.matching.specs.Symbols.{fold_byte}
use Rattle.states.proofs.CodeBytes.{fold-alone, fold-never, fold-letter}
use Rattle.states.proofs.ByteSets.{adds_none, adds-as, adds-both}
use Rattle.states.proofs.named.with_folded.Goals as goal
use Rattle.states.proofs.named.with_folded.Goals.{in_default-via-then-b-lt65, in_default-via-else-b-lt65+else-b-lt91+then-b-lt97, in_default-via-else-b-lt65+else-b-lt91+else-b-lt97+else-b-lt123}

pub returns-in-65-to-90 : goal.returns-in-65-to-90
returns-in-65-to-90 c =
    let set = c.args.set.words in
    let b = c.args.b in
    adds_none set (λ x. eqb (fold_byte x) b) (λ x few. fold-never b x (omega arith) (omega arith))

pub returns-in-97-to-122 : goal.returns-in-97-to-122
returns-in-97-to-122 c =
    let set = c.args.set.words in
    let b = c.args.b in
    adds-both set c.with.result.words c.with-in-97-to-122.result.words (λ x. eqb x b) (λ x. eqb x (b - 32)) (λ x. eqb (fold_byte x) b) c.with.ensures
    c.with-in-97-to-122.ensures (λ x. fold-letter b x (omega arith) (omega arith))

pub returns-in_default : goal.returns-in_default
returns-in_default c =
    let b = c.args.b in
    let alone : (b < 65) ⊎ (((90 < b) × (b < 97)) ⊎ (122 < b)) =
    elim c.in_default.branch [
      | in_default-via-then-b-lt65 w ↦ inl (omega arith)
      | in_default-via-else-b-lt65+else-b-lt91+then-b-lt97 w ↦ inr (inl (omega arith, omega arith))
      | in_default-via-else-b-lt65+else-b-lt91+else-b-lt97+else-b-lt123 w ↦ inr (inr (omega arith))
    ] in
    adds-as c.args.set.words c.with-in_default.result.words (λ x. eqb x b) (λ x. eqb (fold_byte x) b) c.with-in_default.ensures (λ x few. fold-alone b x alone)
