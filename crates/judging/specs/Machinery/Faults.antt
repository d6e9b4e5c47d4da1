-- The lowest faulty column of a request, where there is one.
use Rattle.std.specs.Prelude.{ℕ, Option, Some, None, ltb}
use Rattle.stored.specs.Choice.{pick}
use Rattle.judging.specs.Requests.{columns}

-- a column that is one of a request's, or none
abbrev pub fault_of : ℕ → Option ℕ
fault_of column = pick (ltb column columns) (Some column) None
