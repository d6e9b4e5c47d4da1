-- The rows of the bytes before the iterator's place are marked: that is the invariant.
use Rattle.std.proofs.Common.{◌≡◌, ◌≤◌}
use Rattle.states.specs.Machinery.Taken.{Marks}
use Rattle.states.proofs.MarkedBytes.{below_in}
use Rattle.states.proofs.taken.mark_code.Given as goal

abbrev pub invariant-loop-b : goal.invariant-loop-b
invariant-loop-b l = record {
  set : l.b-iterator.set ≡ l.initial.b-iterator.set;
  low : 0x21 ≤ l.b-iterator.from;
  marks : Marks l.initial.words l.words l.p (below_in l.b-iterator.set.words l.b-iterator.from);
}
