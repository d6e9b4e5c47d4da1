-- The reader accepts both tables, or the first that it refuses is the refusal.
use Rattle.std.proofs.Common.{sym, subst}
use Rattle.columns.specs.Machinery.Both.{BothRead}
use Rattle.comparing.proofs.compare.BothRead.{both_read}
use Rattle.comparing.proofs.compare.read_both.Goals as goal

pub new-requires : goal.new-requires
new-requires c =
    subst (BothRead c.args.first.now c.args.second.now) (sym c.from.ensures)
    (both_read c.args.first.now c.args.second.now c.in_ok-rows.rows c.in_ok-read_side.field-0 c.in_ok-rows.ensures c.in_ok-read_side.ensures)
