-- `stored::reader::step_at` meets its contract: the test is that of `step_at`.
use Rattle.std.proofs.lemmas.Result.{err_from_is_err_and}
use Rattle.stored.specs.Reading.{step_at}
use Rattle.stored.proofs.Faults.{numbered}
use Rattle.stored.proofs.reader.step_at.Goals as goal

pub returns-in_err-due : goal.returns-in_err-due
unfolding step_at
returns-in_err-due c =
    let p = err_from_is_err_and c.from_residual.result c.from_residual.ensures.1 in
    let due = rw (c.kind_of.ensures, c.byte_at.ensures) at c.in_err-due.ensures in
    rw (p.1, p.2, ← due, numbered)

pub returns : goal.returns
unfolding step_at
returns c =
    let due = rw (c.kind_of.ensures, c.byte_at.ensures) at c.in_ok-due.ensures in
    rw (← due) c.taken.ensures
