-- The loop's invariant: the walk over the entries left, from the state at hand, is the walk over all of them from the beginning. At the
-- end no entry is left, so that the state at hand is the whole walk's, which means the rows whose lists hold.
use Rattle.std.proofs.Common.{◌≡◌}
use Rattle.stored.specs.Entries.{entries_of}
use Rattle.stored.specs.EntriesLeft.{entries_left}
use Rattle.judging.specs.Machinery.Walk.{run_in, fresh_walk}
use Rattle.judging.proofs.gathering.gathered_rows.Given as goal

abbrev pub invariant-loop-entry : goal.invariant-loop-entry
invariant-loop-entry g l =
    run_in l.only (g.A.Asked.watched l.asked) (g.A.Asked.held l.asked) l.walk l.column (entries_left l.entry-iterator)
    ≡ run_in l.only (g.A.Asked.watched l.asked) (g.A.Asked.held l.asked) fresh_walk 0 (entries_of l.table)
