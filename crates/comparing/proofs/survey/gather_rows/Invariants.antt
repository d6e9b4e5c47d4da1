-- The footprints of the rows before the one at hand were added: that is the invariant. A row's footprint is that of its string, which has the row.
use Rattle.std.proofs.Common.{ℕ, ◌+◌, ◌-◌, ◌≤◌, ◌≡◌, List, map, length, take}
use Rattle.judging.specs.Judging.{rows_of}
use Rattle.states.specs.Machinery.Rows.{prints_at}
use Rattle.comparing.specs.Machinery.Adding.{adding_rows}
use Rattle.comparing.specs.Machinery.Survey.{prints_between, print_at}
use Rattle.comparing.proofs.survey.gather_rows.Given as goal

abbrev pub invariant-loop-i : goal.invariant-loop-i
invariant-loop-i l =
    (l.start ≤ l.to) × (l.to ≤ l.start + (l.i - l.row)) × (length l.words ≡ length l.initial.words)
    × (take (prints_at + l.start) l.words ≡ take (prints_at + l.start) l.initial.words)
    × ((found : List ℕ) → prints_between l.initial.words l.from l.start ≡ map (print_at (rows_of l.tables.first.now) (rows_of l.tables.second.now) l.column l.initial.words) found
    → prints_between l.words l.from l.to
    ≡ map (print_at (rows_of l.tables.first.now) (rows_of l.tables.second.now) l.column l.initial.words) (adding_rows (print_at (rows_of l.tables.first.now) (rows_of l.tables.second.now) l.column l.initial.words) found l.row (l.i - l.row)))
