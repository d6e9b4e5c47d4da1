-- The two tests are the two ends of the range.
use Rattle.std.proofs.Common.{◌≡◌, ◌&&◌, ℕ, leb, ap₂, ◌∙◌, rules}
use Rattle.matching.proofs.Networks.{in-range}
use Rattle.matching.proofs.network.in_network.Goals as goal

pub returns : goal.returns
returns c =
    let a = c.args in
    let tested : c.contains.result ≡ (leb c.network_low.result a.address && leb a.address c.network_high.result) = search rules in
    tested
    ∙ ap₂ (λ (low high : ℕ). leb low a.address && leb a.address high) c.network_low.ensures c.network_high.ensures
    ∙ in-range a.network a.address a.length
