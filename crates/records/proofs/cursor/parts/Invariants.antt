-- The invariant: what comes from the part at hand on is what comes from the first one on.
use Rattle.std.proofs.Common.{◌≡◌}
use Rattle.records.specs.Machinery.Cursors.{part_left}
use Rattle.records.proofs.Parts.{rank}
use Rattle.records.proofs.cursor.parts.Given as goal

abbrev pub invariant-loop-like : goal.invariant-loop-like
invariant-loop-like l = part_left l.text l.row l.part ≡ part_left l.text l.row l.initial.part

abbrev pub decreases-loop-like : goal.decreases-loop-like
decreases-loop-like l = rank l.part
