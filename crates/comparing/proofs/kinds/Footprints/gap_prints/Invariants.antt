-- The loop's invariant: the footprints of the columns passed are laid, and those that are still to come are the footprints of what is left
-- of k by the rows left. At a column in which it does not lie they are all 0, as they are in the array already.
use Rattle.std.proofs.Common.{◌^◌, ◌-◌, ◌≤◌, map, length}
use Rattle.comparing.specs.Compared.{product, most_kinds}
use Rattle.comparing.specs.Machinery.Kinds.{prints_along, prints_in}
use Rattle.comparing.proofs.kinds.GapPrints.{Laid}
use Rattle.comparing.proofs.kinds.Footprints.gap_prints.Given as goal

abbrev pub invariant-loop-column : goal.invariant-loop-column
invariant-loop-column l =
    (product (map length (prints_in l.self.words.now l.self.bounds l.column)) ≤ most_kinds)
    × Laid (prints_along l.self.sides (prints_in l.self.words.now l.self.bounds 0) (2 ^ 64 - 1) l.k) l.prints
    (prints_along l.self.sides (prints_in l.self.words.now l.self.bounds l.column) l.rows l.left) l.column
