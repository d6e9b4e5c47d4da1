-- No address below the one at hand has the footprint, and absence has not: that is the invariant. An address between two edges is like the
-- edge below it.
use Rattle.std.proofs.Common.{◌-◌, ◌^◌, ◌≤◌, ◌≡◌}
use Rattle.judging.specs.Requests.{absent}
use Rattle.judging.specs.Judging.{rows_of}
use Rattle.comparing.specs.Machinery.Product.{print_of}
use Rattle.comparing.specs.Machinery.ShownValues.{NoneBelow}
use Rattle.comparing.proofs.show.show_address.Given as goal

abbrev pub invariant-loop-x : goal.invariant-loop-x
invariant-loop-x l =
    (l.x ≤ 2 ^ 32) × (print_of (rows_of l.tables.first.now) (rows_of l.tables.second.now) 7 absent ≡ l.print → ⊥) × NoneBelow (rows_of l.tables.first.now) (rows_of l.tables.second.now) l.print l.x

abbrev pub decreases-loop-x : goal.decreases-loop-x
decreases-loop-x l = 2 ^ 32 - l.x
