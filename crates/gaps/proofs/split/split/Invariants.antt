-- The walk over what is left ends where the whole walk ends; each record leaves less.
use Rattle.std.proofs.Common.{◌≡◌, ◌-◌, ◌≤◌, length, drop}
use Rattle.gaps.specs.Split.{end_from, first_end}
use Rattle.gaps.proofs.split.split.Given as goal

abbrev pub invariant-loop-byte : goal.invariant-loop-byte
invariant-loop-byte l =
    (length l.left ≤ length l.input)
    × (drop (length l.input - length l.left) l.input ≡ l.left)
    × (end_from (length l.left) l.input (length l.input - length l.left) ≡ first_end l.input)

abbrev pub decreases-loop-byte : goal.decreases-loop-byte
decreases-loop-byte l = length l.left
