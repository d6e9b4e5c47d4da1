-- The row is that of the bytes passed, stepped over the codes of these symbols alone; its last position says whether they match.
use Rattle.std.proofs.Common.{◌≡◌, ◌∷◌, drop}
use Rattle.matching.specs.Machinery.SymbolsLeft.{symbols_left}
use Rattle.matching.specs.Machinery.Rows.{row_after, row_of}
use Rattle.matching.proofs.value.rows_match.Given as goal

abbrev pub invariant-loop-b : goal.invariant-loop-b
invariant-loop-b l = row_after (1 ∷ symbols_left l.symbols) l.row (drop l.b-index l.string) ≡ row_of (1 ∷ symbols_left l.symbols) l.string
