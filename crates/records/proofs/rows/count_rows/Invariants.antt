-- The invariant: the statements counted and those from the place at hand on are all of them.
use Rattle.std.proofs.Common.{◌≡◌, ◌+◌, ◌-◌, ◌≤◌, length}
use Rattle.json_text.specs.Machinery.Marks.{tokens_at}
use Rattle.records.specs.Machinery.Streams.{count_from}
use Rattle.records.specs.Machinery.Streams.Among.{begin}
use Rattle.records.specs.Machinery.Rows.{among_of, AtMost}
use Rattle.records.proofs.rows.count_rows.Given as goal

abbrev pub invariant-loop-row : goal.invariant-loop-row
invariant-loop-row l =
    (l.count ≤ l.here.at) × AtMost l.here.at l.among × (l.count + count_from (tokens_at l.text l.here) (among_of l.among) ≡ count_from (tokens_at l.text l.initial.here) begin)

abbrev pub decreases-loop-row : goal.decreases-loop-row
decreases-loop-row l = length l.text - l.here.at
