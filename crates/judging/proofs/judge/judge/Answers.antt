-- What the reader answers decides first; a table that reads has at most 32 rows, so that a word holds them.
use Rattle.std.proofs.Common.{sym, ◌∙◌, arith}
use Rattle.std.proofs.lemmas.Result.{err_from_is_err_and}
use Rattle.refusals.specs.Numbers.{number_of}
use Rattle.stored.proofs.Accepting.{few}
use Rattle.judging.specs.Requests.{columns_of}
use Rattle.judging.proofs.Refusing.{table-refused, table-reads}
use Rattle.judging.proofs.judge.judge.Goals as goal

pub judge_request-requires : goal.judge_request-requires
judge_request-requires c =
    let low = few c.args.table.now c.in_ok-read.field-0 (sym c.in_ok-read.ensures) in
    omega arith

pub returns-in_err-read : goal.returns-in_err-read
returns-in_err-read c =
    let p = err_from_is_err_and c.from_residual.result c.from_residual.ensures.1 in
    let refused = c.in_err-read.field-0.0 in
    rw (p.1, p.2) (table-refused c.args.table.now (columns_of c.args.request) (number_of refused.reason) refused.place (sym c.in_err-read.ensures))

pub returns : goal.returns
returns c = c.judge_request.ensures ∙ table-reads c.args.table.now (columns_of c.args.request) c.in_ok-read.field-0 (sym c.in_ok-read.ensures)
