use Rattle.std.proofs.Common.{sym, ◌∙◌, ap}
use Rattle.judging.specs.Requests.{columns_of, is_faulty}
use Rattle.judging.specs.Machinery.Faults.{fault_of}
use Rattle.judging.proofs.Faults.{fault-here, fault-behind, fault_of-some}
use Rattle.judging.proofs.request.Request.first_fault.Goals as goal

pub returns-then-is_faulty : goal.returns-then-is_faulty
returns-then-is_faulty c =
    let column = c.loop-column.column in
    let faulty = ap (is_faulty column) (sym c.value.ensures) ∙ sym c.is_faulty.ensures ∙ c.if-is_faulty.true in
    sym (ap fault_of (sym c.loop-column.invariant ∙ fault-here column (columns_of c.args.self.now) c.loop-column-test.true faulty)
    ∙ fault_of-some column c.loop-column-test.true)

pub loop-column-preserved : goal.loop-column-preserved
loop-column-preserved c =
    let column = c.loop-column.column in
    let sound = ap (is_faulty column) (sym c.value.ensures) ∙ sym c.is_faulty.ensures ∙ c.if-is_faulty.false in
    fault-behind column (columns_of c.args.self.now) c.loop-column-test.true sound ∙ c.loop-column.invariant
