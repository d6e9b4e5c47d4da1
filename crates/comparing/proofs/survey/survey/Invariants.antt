-- The columns below the one at hand were surveyed: that is the invariant.
use Rattle.std.proofs.Common.{◌≡◌, length}
use Rattle.judging.specs.Judging.{rows_of}
use Rattle.comparing.proofs.survey.ColumnsSurveyed.{ColumnsUpto}
use Rattle.comparing.proofs.survey.survey.Given as goal

abbrev pub invariant-loop-column : goal.invariant-loop-column
invariant-loop-column l =
    (length l.words ≡ length l.initial.words) × ColumnsUpto (rows_of l.tables.first.now) (rows_of l.tables.second.now) l.words l.bounds l.from l.kinds l.column
