-- The record of a value is its kind byte and its bytes; the other arms copy the bytes that the definition gives.
use Rattle.std.proofs.Common.{arith, length-set}
use Rattle.stored.proofs.Writing.{behind_kind}
use Rattle.stored.proofs.writer.put_record.Goals as goal

pub returns-in-Value : goal.returns-in-Value
returns-in-Value c =
    let long = rw c.in-Value.is at c.requires in
    rw (c.in-Value.is, c.copy_from_slice-in-Value.ensures.after)
    (behind_kind c.args.room.now c.args.entry.bytes.now _ _ (omega arith) (simp length-set (omega arith)))
