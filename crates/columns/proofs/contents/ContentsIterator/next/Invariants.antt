-- The loop's invariant: what is left to give is what was left at the beginning, since the records that were passed add nothing.
use Rattle.std.proofs.Common.{◌≡◌, length}
use Rattle.stored.specs.EntriesLeft.{entries_left}
use Rattle.columns.specs.Machinery.ContentsLeft.{contents_left}
use Rattle.columns.proofs.contents.ContentsIterator.next.Given as goal

abbrev pub invariant-loop-entry : goal.invariant-loop-entry
invariant-loop-entry l = contents_left l.self ≡ contents_left l.initial.self

abbrev pub decreases-loop-entry : goal.decreases-loop-entry
decreases-loop-entry l = length (entries_left l.self.entries)
