-- The loop's invariant: with the plan of what is left laid down behind the words that are, the workspace is as it is with the whole plan laid
-- down; the room left is what that needs, and the positions passed are at most the bytes passed.
use Rattle.std.proofs.Common.{◌≡◌, ◌+◌, ◌≤◌, length}
use Rattle.std.proofs.lemmas.List.Edits.{sets}
use Rattle.stored.specs.Entries.{entries_of}
use Rattle.stored.specs.EntriesLeft.{entries_left}
use Rattle.stored.proofs.EntriesLeft.{bytes_taken}
use Rattle.columns.specs.Machinery.Plan.{plan_from, plan_of}
use Rattle.columns.proofs.plan.lay_plan.Given as goal

abbrev pub invariant-loop-entry : goal.invariant-loop-entry
invariant-loop-entry l =
    (l.p + bytes_taken (entries_left l.entry-iterator) ≤ l.from + length l.table)
    × (l.to + length (plan_from l.column l.strings l.list.here l.p (entries_left l.entry-iterator))
    ≡ l.start + length (plan_of l.column l.strings l.from (entries_of l.table)))
    × (sets l.words l.to (plan_from l.column l.strings l.list.here l.p (entries_left l.entry-iterator))
    ≡ sets l.initial.words l.start (plan_of l.column l.strings l.from (entries_of l.table)))
