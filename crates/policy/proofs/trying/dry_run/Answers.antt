-- `policy::trying::dry_run` meets its contract: a wish that would be taken, one that would be refused, and the end.
use Rattle.std.proofs.Common.{◌≡◌, ◌≤◌, ◌+◌, refl, sym, ◌∙◌, ap, ℕ, List, ◌∷◌, length, arith}
use Rattle.refusals.specs.Numbers.{number_of}
use Rattle.stored.specs.Writing.{as_would}
use Rattle.records.specs.Wishes.{Wish}
use Rattle.records.specs.Machinery.Cursors.{wish_of}
use Rattle.records.specs.Machinery.WishesLeft.{looked_at, wishes_ahead}
use Rattle.policy.specs.Machinery.Runs.{dried_from, dried_of}
use Rattle.policy.proofs.FirstWishes.{first-wishes}
use Rattle.policy.proofs.DryRuns.{capped_small, takes-on, stops, ends}
use Rattle.policy.proofs.trying.dry_run.Goals as goal

pub loop-wished-init : goal.loop-wished-init
unfolding dried_of
loop-wished-init c =
    let t = c.args.text.now in
    let same = c.into_iter-wished-iterator.ensures.into_iter_gives in
    let made = c.wishes_of-wished-items.ensures in
    let all = ap wishes_ahead same ∙ made.all ∙ first-wishes t in (
      omega arith,
      ap looked_at same ∙ made.text,
      ap (λ (ws : List Wish). dried_from t ws c.begin.result.state 0) all ∙ rw c.begin.ensures refl,
    )

pub loop-wished-preserved : goal.loop-wished-preserved
loop-wished-preserved c =
    let l = c.loop-wished in
    let t = c.args.text.now in
    let x = c.in-Some.wished in
    let given = c.in-Some.ensures.steps in
    let wish = wish_of t x.wish x.place in
    let behind = wishes_ahead c.next.new.self in
    let left : wishes_ahead l.wished-iterator ≡ wish ∷ behind = given.left ∙ ap (λ (u : List ℕ). wish_of u x.wish x.place ∷ behind) l.invariant.1 in
    let would = sym c.try_wish.ensures ∙ ap as_would c.in-Ok.is in (
      rw c.added-size.ensures (capped_small (l.size + c.in-Ok.more)),
      given.text ∙ l.invariant.1,
      rw c.added-size.ensures
          (sym (takes-on t wish behind l.state c.in-Ok.after l.size c.in-Ok.more would)
          ∙ ap (λ (ws : List Wish). dried_from t ws l.state l.size) (sym left)
          ∙ l.invariant.2),
    )

pub returns-in-Err : goal.returns-in-Err
returns-in-Err c =
    let l = c.loop-wished in
    let t = c.args.text.now in
    let x = c.in-Some.wished in
    let given = c.in-Some.ensures.steps in
    let behind = wishes_ahead c.next.new.self in
    let left : wishes_ahead l.wished-iterator ≡ wish_of t x.wish x.place ∷ behind = given.left ∙ ap (λ (u : List ℕ). wish_of u x.wish x.place ∷ behind) l.invariant.1 in
    let inside : x.place ≤ length t = rw l.invariant.1 at given.inside in
    let would = sym c.try_wish.ensures ∙ ap as_would c.in-Err.is in
    sym (stops t x.wish x.place behind l.state l.size (number_of c.in-Err.reason) inside would)
    ∙ ap (λ (ws : List Wish). dried_from t ws l.state l.size) (sym left)
    ∙ l.invariant.2

pub returns : goal.returns
returns c =
    let l = c.loop-wished in
    let t = c.args.text.now in
    sym (ends t l.state l.size l.invariant.0) ∙ ap (λ (ws : List Wish). dried_from t ws l.state l.size) (sym c.in-None.ensures.steps) ∙ l.invariant.2
