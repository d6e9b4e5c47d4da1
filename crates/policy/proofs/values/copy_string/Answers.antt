-- `policy::values::copy_string` meets its contract: the string ends, a byte of it is copied, or there is no more room.
use Rattle.std.proofs.Common.{◌∙◌, ap, ℕ, take, drop, arith}
use Rattle.std.proofs.lemmas.List.{take-set}
use Rattle.json_text.specs.Machinery.Pieces.{content_of, bytes_left}
use Rattle.policy.proofs.Copying.{goes_on_lem, whole}
use Rattle.policy.proofs.values.copy_string.Goals as goal

pub returns-in_default-clause-copied : goal.returns-in_default-clause-copied
returns-in_default-clause-copied c =
    let l = c.loop-i in
    take-set l.bytes l.i _
    ∙ whole l.bytes (bytes_left l.said) (content_of (drop c.args.from c.args.text.now)) l.i (omega arith) c.in_default.ensures.steps.0 l.invariant
    ∙ ap (λ (n : ℕ). take n (content_of (drop c.args.from c.args.text.now))) l.auto.bytes

pub loop-i-preserved : goal.loop-i-preserved
loop-i-preserved c =
    let l = c.loop-i in
    goes_on_lem l.bytes (bytes_left l.said) (bytes_left c.next.new.self) (content_of (drop c.args.from c.args.text.now)) l.i c.in-Some.next (omega arith) c.in-Some.ensures.steps l.invariant
