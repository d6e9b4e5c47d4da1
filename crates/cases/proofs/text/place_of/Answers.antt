use Rattle.std.proofs.Common.{◌≡◌, ◌≢◌, sym, ◌∙◌, rules, tests}
use Rattle.std.proofs.lemmas.Iterator.{YieldsList-from_slice, IsFirst-from_position}
use Rattle.cases.proofs.Scanning.{first}
use Rattle.cases.proofs.text.place_of.Goals as goal

pub returns-clause-value : goal.returns-clause-value
returns-clause-value c =
    let text = c.args.text.now in
    c.unwrap_or.ensures
    ∙ sym (first c.args.wanted text c.position.result
    (IsFirst-from_position _ _ _ (λ b. b ≡ c.args.wanted) (λ b. b ≢ c.args.wanted) c.position.ensures.ran (YieldsList-from_slice text cc)
    (λ x q k. search (rules, tests)) (λ x q k. search (rules, tests))))
