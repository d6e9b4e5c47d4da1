-- No column before the one at hand is wide: that is the invariant.
use Rattle.std.proofs.Common.{◌-◌, ◌≡◌, ◌++◌}
use Rattle.judging.specs.Judging.{rows_of}
use Rattle.comparing.specs.Columns.{is_wide}
use Rattle.comparing.specs.Compared.{lowest, first_wide}
use Rattle.comparing.proofs.compare.first_wide.Given as goal

abbrev pub invariant-loop-column : goal.invariant-loop-column
invariant-loop-column l =
    lowest (is_wide (rows_of l.tables.first.now ++ rows_of l.tables.second.now)) l.column (8 - l.column)
    ≡ first_wide (rows_of l.tables.first.now ++ rows_of l.tables.second.now)
