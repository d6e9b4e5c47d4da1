use Rattle.std.proofs.Common.{◌≡◌, ℕ, ◌+◌, length, set, refl, sym, ap, ◌∙◌, arith, List}
use Rattle.std.proofs.lemmas.List.Edits.{sets}
use Rattle.matching.specs.Machinery.Rows.{forward}
use Rattle.states.specs.Machinery.Search.{chain}
use Rattle.states.specs.Machinery.StringLeft.{bytes_left}
use Rattle.states.proofs.StringsOfRows.{own-string, chain-short, length-forward, sets_last}
use Rattle.states.proofs.strings.lay_string.Goals as goal

pub overflow_add-at : goal.overflow_add-at
overflow_add-at c =
    omega (arith, c.string_length-size.ensures, length-forward (chain c.args.i c.args.words.now c.args.i), chain-short c.args.words.now c.args.i c.args.i, c.requires.1, c.requires.0.low, c.requires.0.few)

pub loop-place-init : goal.loop-place-init
loop-place-init c =
    let a = c.args in
    rw (c.into_iter-place-iterator.ensures.into_iter_gives, c.zip-place-items.ensures.first, c.zip-place-items.ensures.second, c.rev-places.ensures.source) (
      refl,
      ap (λ (k : ℕ). a.at + k) (c.string_length-size.ensures ∙ length-forward (chain a.i a.words.now a.i)),
      (tt, own-string a.words.now a.i a.n c.requires.0),
      refl,
    )

pub bounds-values-place : goal.bounds-values-place
bounds-values-place c =
    let b = c.loop-place.place-iterator.b in
    let steps = c.in-Some.ensures.steps in
    omega (arith, steps.0.1.1, steps.0.1.2, c.loop-place.invariant.1, chain-short b.words.now b.row b.row, c.loop-place.invariant.2.1.few, c.requires.1, c.loop-place.auto.values)

pub loop-place-preserved : goal.loop-place-preserved
loop-place-preserved c =
    let l = c.loop-place in
    let a = c.args in
    let byte = c.in-Some.byte in
    let steps = c.in-Some.ensures.steps in
    let left = bytes_left c.next.new.self.b in
    let more = ap length steps.1 in
    let place : c.in-Some.place ≡ a.at + length (forward left) = omega (arith, more, steps.0.1.1, steps.0.1.2, l.invariant.1, length-forward left) in (
      steps.0.0 ∙ l.invariant.0,
      omega (arith, more, steps.0.1.1, steps.0.1.2, l.invariant.1),
      c.in-Some.ensures.goes.keeps,
      ap (λ (k : ℕ). sets (set l.values k byte) a.at (forward left)) place
          ∙ sym (sets_last l.values a.at (forward left) byte)
          ∙ ap (λ (r : List ℕ). sets l.values a.at (forward r)) (sym steps.1)
          ∙ l.invariant.3,
    )
