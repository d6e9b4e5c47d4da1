-- 9 at the lowest faulty column; else the sets of rows decide as the statements do.
use Rattle.std.proofs.Common.{refl, sym, ◌∙◌}
use Rattle.judging.specs.Requests.{columns_of, first_fault}
use Rattle.judging.specs.Judging.{rows_of}
use Rattle.judging.proofs.Faults.{fault_of-none}
use Rattle.judging.proofs.Refusing.{request-sound, rows-decide}
use Rattle.judging.proofs.judge.judge_request.Goals as goal

pub returns-in-None : goal.returns-in-None
returns-in-None c =
    let request = columns_of c.args.request in
    let rows = rows_of c.args.table.now in
    c.verdict_of.ensures
    ∙ rows-decide request rows c.applying_rows.result c.allow_rows.result c.applying_rows.ensures c.allow_rows.ensures
    ∙ request-sound request rows (first_fault 0 request) refl (fault_of-none (first_fault 0 request) (sym c.first_fault.ensures ∙ c.in-None.is))
