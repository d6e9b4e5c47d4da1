-- The set has the followers below the byte at hand: that is the invariant.
use Rattle.states.specs.Machinery.Rows.{taken_laid}
use Rattle.states.specs.Machinery.Taken.{FollowersBelow}
use Rattle.states.proofs.taken.followers_of.Given as goal

abbrev pub invariant-loop-b : goal.invariant-loop-b
invariant-loop-b l = FollowersBelow (taken_laid l.words) l.b l.set.words
