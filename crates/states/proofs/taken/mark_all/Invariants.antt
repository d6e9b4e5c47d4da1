-- The rows of the bytes below the one at hand are marked: that is the invariant.
use Rattle.std.proofs.Common.{ltb}
use Rattle.states.specs.Machinery.Taken.{Marks}
use Rattle.states.proofs.taken.mark_all.Given as goal

abbrev pub invariant-loop-b : goal.invariant-loop-b
invariant-loop-b l = Marks l.initial.words l.words l.p (λ x. ltb x l.b)
