-- The loop is a sweep over the codes of the symbols that are left, begun with the code of the start.
use Rattle.std.proofs.Common.{◌≡◌, ◌+◌, ◌≤◌, ◌∷◌, length}
use Rattle.matching.specs.Machinery.SymbolsLeft.{symbols_left}
use Rattle.matching.specs.Machinery.Rows.{row_bit, cell_row}
use Rattle.matching.proofs.Sweeps.{sweep}
use Rattle.matching.proofs.value.row_of_value.Given as goal

abbrev pub invariant-loop-i : goal.invariant-loop-i
invariant-loop-i l =
    (l.i-iterator.count + 1 + length (symbols_left l.i-iterator.iter) ≤ 512)
    × (sweep l.begins l.b (row_bit l.row) (symbols_left l.i-iterator.iter) l.next (l.i-iterator.count + 1) l.new l.before ≡ cell_row l.begins l.b (1 ∷ symbols_left l.fn.symbols) l.row)
