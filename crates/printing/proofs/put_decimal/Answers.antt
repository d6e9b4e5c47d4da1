-- The library's digits are the number in decimal, and there are at most 20.
use Rattle.std.proofs.Common.{◌∙◌, arith}
use Rattle.printing.proofs.Laying.{widened, relaid}
use Rattle.printing.proofs.Decimal.{decimal, at-most-20}
use Rattle.printing.proofs.put_decimal.Goals as goal

pub put-requires : goal.put-requires
put-requires c =
    let e = c.decimal-size.ensures in
    let few = at-most-20 c.decimal-size.result c.args.n (omega arith) e.len in
    let size = e.in_bounds in
    omega arith

pub returns : goal.returns
returns c =
    let e = c.decimal-size.ensures in
    let k = c.decimal-size.result in
    let n = c.args.n in
    let few = at-most-20 k n (omega arith) e.len in
    let size = e.in_bounds in
    relaid (e.digits ∙ decimal k n few e.len) (widened (omega arith) c.put.ensures)
