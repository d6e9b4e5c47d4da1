-- All symbols of the value are left.
use Rattle.std.proofs.Common.{◌∙◌}
use Rattle.matching.proofs.SymbolsLeft.{value-left}
use Rattle.matching.proofs.value.value_matches.Goals as goal

pub returns : goal.returns
returns c =
    let a = c.args in
    c.left_matches.ensures ∙ value-left c.symbols_of.result a.reading a.value.now c.symbols_of.ensures a.string.now
