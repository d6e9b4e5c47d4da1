-- The code's tests, which cannot wrap, are the definition's two; the record is laid down in a part of the buffer.
use Rattle.std.proofs.Common.{arith}
use Rattle.std.proofs.Math.Nat.{add-sub_cancel_left}
use Rattle.stored.proofs.Writing.{laid}
use Rattle.stored.proofs.writer.place.Goals as goal

pub returns-clause-laid : goal.returns-clause-laid
returns-clause-laid c =
    rw (add-sub_cancel_left, c.put_record.ensures, c.record_length-size.ensures)
    (laid c.args.buffer.now c.args.at _ (omega arith))
