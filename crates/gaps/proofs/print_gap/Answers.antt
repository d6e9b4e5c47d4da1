-- The line lies inside its buffer.
use Rattle.std.proofs.Common.{sym, arith, length-take-le}
use Rattle.gaps.proofs.print_gap.Goals as goal

pub slice_bounds-write_all-end : goal.slice_bounds-write_all-end
slice_bounds-write_all-end c =
    sym (length-take-le c.gap_line-size.result c.gap_line-size.new.out (omega (arith, c.gap_line-size.ensures.within, c.gap_line-size.auto.out)))
