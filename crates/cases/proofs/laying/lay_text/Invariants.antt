-- The signs left lay down, from the room and the place at hand, what was to be laid down: that is the invariant.
use Rattle.std.proofs.Common.{◌≡◌, ℕ, ◌≤◌, length}
use Rattle.cases.specs.Laying.{signs_laid}
use Rattle.cases.proofs.laying.lay_text.Given as goal

abbrev pub invariant-loop-rest : goal.invariant-loop-rest
invariant-loop-rest l =
    (l.from ≤ l.to)
    × (length l.room ≡ length l.initial.room)
    × (fuel : ℕ)
    × (length l.rest ≤ fuel)
    × (signs_laid fuel l.rest 0 l.room l.to ≡ signs_laid (length l.text) l.text 0 l.initial.room l.from)

abbrev pub decreases-loop-rest : goal.decreases-loop-rest
decreases-loop-rest l = length l.rest
