-- Where gap k lies in the column is where what is left of k lies among the footprints still to come: that is the invariant. With each
-- footprint passed, its gaps are taken off.
use Rattle.std.proofs.Common.{◌≡◌, drop}
use Rattle.comparing.specs.Machinery.Kinds.{step_of, prints_in}
use Rattle.comparing.proofs.kinds.KindsInWords.{gaps_behind, step_in}
use Rattle.comparing.proofs.kinds.Footprints.step_to.Given as goal

abbrev pub invariant-loop-print : goal.invariant-loop-print
invariant-loop-print l =
    step_in (gaps_behind l.self.sides l.self.words.now l.self.bounds l.column l.rows) l.left (drop l.print-index l.print-items)
    ≡ step_of l.self.sides (prints_in l.self.words.now l.self.bounds l.column) l.rows l.k
