-- `stored::machine::admit` meets its contract: what the kind decides comes first, then what the whole record decides, as in `admit_item`.
use Rattle.std.proofs.Common.{ap, ◌∙◌}
use Rattle.std.proofs.lemmas.Result.{err_from_is_err_and}
use Rattle.stored.specs.Machine.{due_of, admit_item}
use Rattle.stored.proofs.Faults.{numbered}
use Rattle.stored.proofs.machine.admit.Goals as goal

pub returns-in_err-due : goal.returns-in_err-due
unfolding admit_item
returns-in_err-due c =
    let p = err_from_is_err_and c.from_residual.result c.from_residual.ensures.1 in
    let due = c.in_err-due.ensures ∙ ap (due_of c.args.state) c.kind_of_item.ensures in
    rw (p.1, p.2, ← due, numbered)

pub returns : goal.returns
unfolding admit_item
returns c =
    let due = c.in_ok-due.ensures ∙ ap (due_of c.args.state) c.kind_of_item.ensures in
    rw (← due) c.take_turn.ensures
