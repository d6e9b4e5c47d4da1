-- No column before the one at hand is faulty.
use Rattle.std.proofs.Common.{◌≡◌, drop}
use Rattle.judging.specs.Requests.{columns_of, first_fault}
use Rattle.judging.proofs.request.Request.first_fault.Given as goal

abbrev pub invariant-loop-column : goal.invariant-loop-column
invariant-loop-column l = first_fault l.column (drop l.column (columns_of l.self)) ≡ first_fault 0 (columns_of l.self)
