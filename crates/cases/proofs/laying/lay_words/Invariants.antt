-- The words left lay down, from the room and the place at hand, what was to be laid down: that is the invariant.
use Rattle.std.proofs.Common.{◌≡◌, ℕ, ◌≤◌, length}
use Rattle.cases.specs.Laying.{words_from}
use Rattle.cases.proofs.laying.lay_words.Given as goal

abbrev pub invariant-loop-rest : goal.invariant-loop-rest
invariant-loop-rest l =
    (length l.room ≡ length l.initial.room)
    × (fuel : ℕ)
    × (length l.rest ≤ fuel)
    × (words_from fuel l.rest 0 l.room l.size ≡ words_from (length l.words) l.words 0 l.initial.room 0)

abbrev pub decreases-loop-rest : goal.decreases-loop-rest
decreases-loop-rest l = length l.rest
