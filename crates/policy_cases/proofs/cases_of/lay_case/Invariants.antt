-- What is laid down has room.
use Rattle.std.proofs.Common.{◌≤◌, length}
use Rattle.policy_cases.proofs.cases_of.lay_case.Given as goal

abbrev pub invariant-loop-i : goal.invariant-loop-i
invariant-loop-i l =
    goal.iterator-loop-i.can_next l.i-iterator × goal.iterator-loop-i.is_finite l.i-iterator × (l.size ≤ length l.room)
