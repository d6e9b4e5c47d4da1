-- A row of eight words has no word for a position of 512 or more.
use Rattle.std.proofs.Common.{sym, ◌/◌, ◌%◌, ◌^◌, ◌≤◌, arith, length, get_or, bit_or}
use lib.Seq.{set_out}
use Rattle.matching.specs.Machinery.Rows.{mark_row}
use Rattle.columns.proofs.last_positions.marked.Goals as goal

pub returns-else-p-lt-POSITIONS : goal.returns-else-p-lt-POSITIONS
unfolding mark_row
returns-else-p-lt-POSITIONS c =
    let a = c.args in
    let past : length a.row ≤ a.p / 64 = omega (arith, c.well_formed.0.1.0.1, c.if-p-lt-POSITIONS.false) in
    sym (set_out a.row (a.p / 64) (bit_or (get_or a.row (a.p / 64) 0) (2 ^ (a.p % 64))) past)
