-- `json_text::reader::json_fault` meets its contract: a byte that is taken and the run behind it, a byte that fails, the end.
use Rattle.std.proofs.Common.{◌+◌, sym, ◌∙◌, arith}
use Rattle.json_text.specs.Machinery.Reading.{fault_of}
use Rattle.json_text.proofs.Running.{fault-behind}
use Rattle.json_text.proofs.Turning.{taken, fails, ends}
use Rattle.json_text.proofs.reader.json_fault.Goals as goal

pub loop-at-preserved : goal.loop-at-preserved
loop-at-preserved c =
    let l = c.loop-at in
    let text = c.args.text.now in
    let next = c.in-Some.next in
    let on = sym c.step.ensures ∙ c.in-Some.is in (
      omega (arith, c.run_of-at.ensures.within),
      sym (taken text l.at l.state next c.loop-at-test.true on ∙ fault-behind text (l.at + 1) c.run_of-at.result next c.run_of-at.ensures.run) ∙ l.invariant.1,
    )

pub returns-in_default : goal.returns-in_default
unfolding fault_of
returns-in_default c =
    let l = c.loop-at in
    let text = c.args.text.now in
    sym (fails text l.at l.state c.loop-at-test.true (sym c.step.ensures ∙ c.in_default.is)) ∙ l.invariant.1

pub returns-then-is_ended : goal.returns-then-is_ended
unfolding fault_of
returns-then-is_ended c =
    let l = c.loop-at in
    let text = c.args.text.now in
    let e = ends text l.at l.state c.loop-at-test.false in
    simp (sym c.is_ended.ensures ∙ c.if-is_ended.true) at (sym e ∙ l.invariant.1)

pub returns-else-is_ended : goal.returns-else-is_ended
unfolding fault_of
returns-else-is_ended c =
    let l = c.loop-at in
    let text = c.args.text.now in
    let e = ends text l.at l.state c.loop-at-test.false in
    simp (sym c.is_ended.ensures ∙ c.if-is_ended.false) at (sym e ∙ l.invariant.1)
