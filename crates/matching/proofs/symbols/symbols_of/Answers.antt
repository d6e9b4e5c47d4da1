-- All bytes of the value are left.
use mathlib.Core.List.{map-map}
use Rattle.matching.specs.Machinery.SymbolsLeft.{symbols_left}
use Rattle.matching.proofs.symbols.symbols_of.Goals as goal

pub returns : goal.returns
unfolding symbols_left
returns c =
    let a = c.args in
    simp (c.is_wild.ensures, c.ignores_case.ensures, map-map)
