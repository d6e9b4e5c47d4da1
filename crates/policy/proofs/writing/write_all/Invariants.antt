-- The invariant: the wishes left, poured by the writer at hand into the table as it is, leave what all leave.
use Rattle.std.proofs.Common.{◌≡◌, length}
use Rattle.records.specs.Machinery.WishesLeft.{looked_at, wishes_ahead}
use Rattle.policy.specs.Machinery.Runs.{pouring, poured_of}
use Rattle.policy.proofs.writing.write_all.Given as goal

abbrev pub invariant-loop-wished : goal.invariant-loop-wished
invariant-loop-wished l =
    (length l.table ≡ length l.initial.table) × (looked_at l.wished-iterator ≡ l.text)
    × (pouring (wishes_ahead l.wished-iterator) l.writer l.table ≡ poured_of l.text l.initial.table)
