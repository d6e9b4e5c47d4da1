-- What is written lies in the array.
use Rattle.std.proofs.Common.{refl, arith}
use Rattle.policies.proofs.Room.{written-within}
use Rattle.policies.proofs.print_table.Goals as goal

pub slice_bounds-table-end : goal.slice_bounds-table-end
slice_bounds-table-end c =
    let within = written-within _ _ _ _ _ c.in-Ok.ensures refl in
    omega (arith, within)
