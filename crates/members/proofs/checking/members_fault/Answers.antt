-- `members::checking::members_fault` meets its contract: a token goes on or stops the walk, and where none is left nothing is refused.
use Rattle.std.proofs.Common.{refl, sym, ◌∙◌, ap, arith, length}
use Rattle.json_text.specs.Machinery.Tokens.{tokens_of}
use Rattle.json_text.specs.Machinery.Marks.{tokens_at}
use Rattle.json_text.specs.Machinery.TokensLeft.{walked, reached}
use Rattle.json_text.specs.declared.tokens.Mark.{Mark}
use Rattle.members.specs.Machinery.States.{state_of}
use Rattle.members.specs.Machinery.Levels.{judge, placed, members_of}
use Rattle.members.proofs.OneToken.{goes_on_lem, stops, ends}
use Rattle.members.proofs.checking.members_fault.Goals as goal

pub loop-token-init : goal.loop-token-init
unfolding tokens_of
loop-token-init c =
    let text = c.args.text.now in
    let same = c.into_iter-token-iterator.ensures.into_iter_gives in
    let made = c.tokens_from-token-items.ensures in
    let place = ap reached same ∙ made.place ∙ c.first_mark.ensures in (
      ap walked same ∙ made.text,
      ap (λ (m : Mark). judge (tokens_at text m) (state_of c.begin-state.result)) place ∙ rw c.begin-state.ensures refl,
    )

pub loop-token-preserved : goal.loop-token-preserved
loop-token-preserved c =
    let l = c.loop-token in
    let text = c.args.text.now in
    let x = c.in-Some.token in
    let given = c.in-Some.ensures.steps in
    let tokens = rw l.invariant.0 at given.tokens in (
      given.text ∙ l.invariant.0,
      ap (λ (m : Mark). judge (tokens_at text m) (state_of c.in-Ok.next)) given.behind
          ∙ sym (goes_on_lem text (reached l.token-iterator) (state_of l.state) x tokens _ (state_of c.in-Ok.next) c.in-Ok.ensures refl)
          ∙ l.invariant.1,
    )

pub returns-in-Err : goal.returns-in-Err
unfolding members_of
returns-in-Err c =
    let l = c.loop-token in
    let text = c.args.text.now in
    let given = c.in-Some.ensures.steps in
    let tokens = rw l.invariant.0 at given.tokens in
    let ahead = rw l.invariant.0 at given.ahead in
    sym (stops text (reached l.token-iterator) (state_of l.state) c.in-Some.token tokens _ _ c.in-Err.ensures refl (omega (arith, ahead)))
    ∙ ap (placed (length text)) l.invariant.1

pub returns : goal.returns
unfolding members_of
returns c =
    let l = c.loop-token in
    let text = c.args.text.now in
    let none = rw l.invariant.0 at c.in-None.ensures.steps in
    ap (placed (length text)) (sym (ends text (reached l.token-iterator) (state_of l.state) none) ∙ l.invariant.1)
