-- `policy::writing::write_all` meets its contract: a record that is added, one that is refused, and the end.
use Rattle.std.proofs.Common.{◌≡◌, refl, sym, ◌∙◌, ap, ℕ, List, ◌∷◌}
use Rattle.stored.specs.Writing.{as_written, buffer_after}
use Rattle.records.specs.Wishes.{Wish}
use Rattle.records.specs.Machinery.Cursors.{wish_of}
use Rattle.records.specs.Machinery.WishesLeft.{looked_at, wishes_ahead}
use Rattle.policy.specs.Machinery.Asking.{wish_record}
use Rattle.policy.specs.Machinery.Runs.{Poured, pouring, poured_of}
use Rattle.policy.proofs.FirstWishes.{first-wishes}
use Rattle.policy.proofs.Pouring.{adds, breaks-off}
use Rattle.policy.proofs.writing.write_all.Goals as goal

pub loop-wished-init : goal.loop-wished-init
unfolding poured_of
loop-wished-init c =
    let t = c.args.text.now in
    let same = c.into_iter-wished-iterator.ensures.into_iter_gives in
    let made = c.wishes_of-wished-items.ensures in
    let all = ap wishes_ahead same ∙ made.all ∙ first-wishes t in (
      refl,
      ap looked_at same ∙ made.text,
      ap (λ (ws : List Wish). pouring ws c.begin-writer.result c.args.table.now) all ∙ rw c.begin-writer.ensures refl,
    )

pub loop-wished-preserved : goal.loop-wished-preserved
loop-wished-preserved c =
    let l = c.loop-wished in
    let t = c.args.text.now in
    let x = c.in-Some.wished in
    let given = c.in-Some.ensures.steps in
    let wish = wish_of t x.wish x.place in
    let behind = wishes_ahead c.next.new.self in
    let left : wishes_ahead l.wished-iterator ≡ wish ∷ behind = given.left ∙ ap (λ (u : List ℕ). wish_of u x.wish x.place ∷ behind) l.invariant.1 in
    let answer = sym c.write_wish.ensures.answer ∙ ap as_written c.in-Ok.is in
    let laid = c.write_wish.ensures.laid ∙ ap (buffer_after l.writer.at (wish_record wish) l.table) (ap as_written c.in-Ok.is) in (
      c.write_wish.auto.buffer ∙ l.invariant.0,
      given.text ∙ l.invariant.1,
      ap (pouring behind c.in-Ok.after) laid
          ∙ sym (adds wish behind l.writer c.in-Ok.after l.table answer)
          ∙ ap (λ (ws : List Wish). pouring ws l.writer l.table) (sym left)
          ∙ l.invariant.2,
    )

pub returns-in_default : goal.returns-in_default
returns-in_default c =
    let l = c.loop-wished in
    let t = c.args.text.now in
    let x = c.in-Some.wished in
    let wish = wish_of t x.wish x.place in
    let behind = wishes_ahead c.next.new.self in
    let refused = c.in_default.ensures in
    let left : wishes_ahead l.wished-iterator ≡ wish ∷ behind = c.in-Some.ensures.steps.left ∙ ap (λ (u : List ℕ). wish_of u x.wish x.place ∷ behind) l.invariant.1 in
    let all = sym (breaks-off wish behind l.writer l.table _ _ (sym refused.answer)) ∙ ap (λ (ws : List Wish). pouring ws l.writer l.table) (sym left) ∙ l.invariant.2 in
    record { size = ap (λ (r : Poured). r.size) all; left = refused.laid ∙ ap (λ (r : Poured). r.left) all }

pub returns : goal.returns
returns c =
    let l = c.loop-wished in
    let all = ap (λ (ws : List Wish). pouring ws l.writer l.table) (sym c.in-None.ensures.steps) ∙ l.invariant.2 in
    record { size = ap (λ (r : Poured). r.size) all; left = ap (λ (r : Poured). r.left) all }
