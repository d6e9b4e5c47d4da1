-- `stored::reader::taken` meets its contract: a record lies inside the table, so that its body is a part of it.
use Rattle.std.proofs.Common.{sym, arith}
use Rattle.std.proofs.Math.Nat.{add-sub_cancel_left}
use Rattle.stored.proofs.Walking.{inside}
use Rattle.stored.proofs.reader.taken.Goals as goal

pub overflow_add-end : goal.overflow_add-end
overflow_add-end c =
    let within = inside _ _ _ _ _ (sym c.in_ok-record.ensures) in
    omega arith

pub slice_bounds-take_turn-end : goal.slice_bounds-take_turn-end
slice_bounds-take_turn-end c = (inside _ _ _ _ _ (sym c.in_ok-record.ensures)).1

pub returns : goal.returns
returns c =
    let turn = simp (add-sub_cancel_left) at c.in_ok-next.ensures in
    rw (← c.in_ok-record.ensures, ← turn)
