-- The state machine's answer decides.
use Rattle.std.proofs.lemmas.Result.{err_from_is_err_and}
use Rattle.stored.specs.Writing.{would_write}
use Rattle.stored.proofs.writer.would_write.Goals as goal

pub returns-in_err-next : goal.returns-in_err-next
unfolding would_write
returns-in_err-next c =
    let p = err_from_is_err_and c.from_residual.result c.from_residual.ensures.1 in
    rw (p.1, p.2, ← c.in_err-next.ensures)

pub returns : goal.returns
unfolding would_write
returns c = rw (← c.in_ok-next.ensures, c.record_length.ensures)
