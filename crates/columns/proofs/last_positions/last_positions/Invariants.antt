-- The loop's invariant: marking the words left, in the row at hand, is marking all of them in the row at the beginning.
use Rattle.std.proofs.Common.{◌≡◌, drop}
use Rattle.columns.specs.Machinery.LastPositions.{last_positions}
use Rattle.columns.proofs.last_positions.last_positions.Given as goal

abbrev pub invariant-loop-word : goal.invariant-loop-word
invariant-loop-word l = last_positions l.ends (drop l.word-index l.plan) ≡ last_positions l.initial.ends l.plan
