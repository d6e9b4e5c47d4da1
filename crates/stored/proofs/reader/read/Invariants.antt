-- `stored::reader::read` meets its contract: the loop keeps what is left to read: the records from the place at hand give the answer for the whole table. Each record moves
-- the place on.
use Rattle.std.proofs.Common.{◌≡◌, ◌≤◌, ◌-◌, length}
use Rattle.stored.specs.Machine.{fresh_state}
use Rattle.stored.specs.Reading.{read_from}
use Rattle.stored.proofs.reader.read.Given as goal

abbrev pub invariant-loop-at : goal.invariant-loop-at
invariant-loop-at l =
    (l.at ≤ length l.table)
    × (read_from (length l.table - l.at) l.table l.state l.at ≡ read_from (length l.table) l.table fresh_state 0)

abbrev pub decreases-loop-at : goal.decreases-loop-at
decreases-loop-at l = length l.table - l.at
