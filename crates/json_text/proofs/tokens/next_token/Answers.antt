-- `json_text::tokens::next_token` meets its contract: a byte that begins or ends something is the next token, others are passed over.
use Rattle.std.proofs.Common.{◌+◌, sym, ◌∙◌, arith}
use Rattle.json_text.proofs.Running.{tokens-behind}
use Rattle.json_text.proofs.Walking.{taken, passed, broken, failed}
use Rattle.json_text.proofs.tokens.next_token.Goals as goal

pub returns-in-Some-next-clause-tokens : goal.returns-in-Some-next-clause-tokens
returns-in-Some-next-clause-tokens c =
    let l = c.loop-at in
    l.invariant.1
    ∙ taken c.args.text.now l.at l.state c.loop-at-test.true c.in-Some-next.state (sym c.step-next.ensures ∙ c.in-Some-next.is)
    ∙ rw (sym c.event_of.ensures ∙ c.in-Some.is)

pub returns-in-None-clause-tokens : goal.returns-in-None-clause-tokens
returns-in-None-clause-tokens c =
    let l = c.loop-at in
    l.invariant.1
    ∙ broken c.args.text.now l.at l.state c.loop-at-test.true c.start.result.phase c.start.result.stack (sym c.step-next.ensures ∙ c.in-None.is)
    ∙ rw (sym c.event_of.ensures ∙ c.in-Some.is)

pub returns-in_err-state-clause-tokens : goal.returns-in_err-state-clause-tokens
returns-in_err-state-clause-tokens c =
    let l = c.loop-at in
    rw c.from_residual.ensures (l.invariant.1 ∙ failed c.args.text.now l.at l.state c.loop-at-test.true (sym c.step-next.ensures ∙ c.in_err-state.was) (sym c.event_of.ensures ∙ c.in_default.is))

pub loop-at-preserved : goal.loop-at-preserved
loop-at-preserved c =
    let l = c.loop-at in
    let text = c.args.text.now in
    let next = c.in_ok-state.state in
    let on = sym c.step-next.ensures ∙ c.in_ok-state.was in (
      omega (arith, l.invariant.0),
      l.invariant.1
          ∙ passed text l.at l.state c.loop-at-test.true next on (sym c.event_of.ensures ∙ c.in_default.is)
          ∙ tokens-behind text (l.at + 1) c.run_of-at.result next c.run_of-at.ensures.run,
    )
