-- A record adds its word, if any, in front of the plan of what is left behind it.
use Rattle.std.proofs.Common.{◌+◌, ℕ, List, length, arith, ap, ap₂, sym, ◌∙◌, refl, length-append}
use Rattle.std.specs.Prelude.{Option}
use Rattle.std.proofs.lemmas.List.Edits.{sets}
use Rattle.stored.specs.EntriesLeft.{entries_left}
use Rattle.stored.proofs.EntriesLeft.{bytes_taken, entries-fit}
use Rattle.columns.specs.Machinery.Lists.{moved_of, positions_of}
use Rattle.columns.specs.Machinery.Plan.{plan_from, item_word, word_alone}
use Rattle.columns.proofs.Laying.{sets-append}
use Rattle.columns.proofs.PlanSteps.{plan-more, positions-few}
use Rattle.columns.proofs.plan.lay_plan.Goals as goal

pub loop-entry-init : goal.loop-entry-init
loop-entry-init c =
    rw (c.into_iter-entry-iterator.ensures.into_iter_gives, c.entries_of-entry-items.ensures, c.fresh-list.ensures)
    (omega (arith, entries-fit c.args.table.now), refl, refl)

pub loop-entry-preserved : goal.loop-entry-preserved
loop-entry-preserved c =
    let a = c.args in
    let l = c.loop-entry in
    let e = c.in-Some.entry in
    let taken = ap bytes_taken c.in-Some.ensures.steps in
    let few = positions-few l.list e.item e.bytes.now in
    let word = c.item_word.ensures in
    let alone = word_alone (item_word a.column a.strings l.list.here l.p e.item (length e.bytes.now)) in
    let rest = plan_from a.column a.strings (moved_of a.column l.list e.item).here (l.p + positions_of l.list e.item (length e.bytes.now)) (entries_left c.next.new.self) in
    let on =
    ap (plan_from a.column a.strings l.list.here l.p) c.in-Some.ensures.steps
    ∙ plan-more a.column a.strings (entries_left c.next.new.self) l.list l.p e.item e.bytes.now in
    let longer = ap length on ∙ length-append alone rest in (
      omega (arith, l.invariant.0, c.positions-p.ensures),
      rw (c.moved-list.ensures, c.positions-p.ensures)
          (omega (arith, c.lay_word-to.ensures.next, ap (λ (w : Option ℕ). length (word_alone w)) word, l.invariant.1)),
      rw (c.moved-list.ensures, c.positions-p.ensures)
          (ap₂ (λ (words : List ℕ) (n : ℕ). sets words n rest)
          (c.lay_word-to.ensures.laid ∙ ap (λ (w : Option ℕ). sets l.words l.to (word_alone w)) word)
          (c.lay_word-to.ensures.next ∙ ap (λ (w : Option ℕ). l.to + length (word_alone w)) word)
          ∙ sets-append l.words l.to alone rest
          ∙ ap (sets l.words l.to) (sym on)
          ∙ l.invariant.2),
    )
