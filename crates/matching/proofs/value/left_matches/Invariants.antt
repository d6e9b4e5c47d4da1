-- The symbols that are left match the bytes that are left exactly where all symbols match the whole string.
use Rattle.std.proofs.Common.{◌≡◌, ◌<◌, length}
use Rattle.matching.specs.Machinery.SymbolsLeft.{symbols_left, left_matches}
use Rattle.matching.proofs.value.left_matches.Given as goal

abbrev pub invariant-loop-code : goal.invariant-loop-code
invariant-loop-code l = (length (symbols_left l.left) < 512) × (left_matches l.left l.rest ≡ left_matches l.symbols l.string)

abbrev pub decreases-loop-code : goal.decreases-loop-code
decreases-loop-code l = length (symbols_left l.left)
