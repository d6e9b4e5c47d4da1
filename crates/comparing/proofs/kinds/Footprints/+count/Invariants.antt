-- With one column fewer the function counts the gaps that go on with a footprint of this column, so the loop's invariant is: the sum and the
-- gaps left, behind the footprints still to come, are all gaps; the sum of all is at most the number of kinds, and fits. A settled footprint
-- is counted by its kinds. The measure is the number of columns left.
use Rattle.std.proofs.Common.{◌≡◌, ◌+◌, ◌-◌, drop}
use Rattle.comparing.specs.Machinery.Kinds.{total, count_of, prints_in}
use Rattle.comparing.proofs.kinds.KindsInWords.{gaps_behind}
use Rattle.comparing.proofs.kinds.Footprints.+count.Given as goal

abbrev pub decreases-count : goal.decreases-count
decreases-count l = 8 - l.column

abbrev pub invariant-loop-print : goal.invariant-loop-print
invariant-loop-print l =
    l.sum + total (gaps_behind l.self.sides l.self.words.now l.self.bounds l.column l.rows) (drop l.print-index l.print-items)
    ≡ count_of l.self.sides (prints_in l.self.words.now l.self.bounds l.column) l.rows
