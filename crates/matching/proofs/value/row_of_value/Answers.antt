use Rattle.std.proofs.Common.{ℕ, ◌+◌, false, ◌∷◌, length, replicate, refl, ap, ◌∙◌, arith}
use Rattle.matching.specs.Machinery.SymbolsLeft.{symbols_left}
use Rattle.matching.specs.Machinery.Rows.{row_bit, mark_row, cell_step}
use Rattle.matching.proofs.Sweeps.{sweep-few, sweep-next}
use Rattle.matching.proofs.value.row_of_value.Goals as goal

pub loop-i-init : goal.loop-i-init
loop-i-init c =
    let a = c.args in
    let left = symbols_left a.symbols in
    rw (c.into_iter-i-iterator.ensures.into_iter_gives, c.enumerate-i-items.ensures.source, c.enumerate-i-items.ensures.count) (
      omega (arith, c.requires),
      sweep-next a.begins a.b (row_bit a.row) (1 ∷ left) 1 left (replicate 8 0) 0 false false c.mark_in.new.row a.begins
          c.has_position-before.result refl c.has_position-before.ensures refl c.mark_in.ensures
          ∙ sweep-few a.begins a.b (1 ∷ left) a.row (omega (arith, c.requires)),
    )

pub loop-i-preserved : goal.loop-i-preserved
unfolding row_bit
loop-i-preserved c =
    let l = c.loop-i in
    let a = c.args in
    let p = l.i-iterator.count + 1 in
    let now = c.in-Some in
    let split = now.ensures.steps.0 in
    let at = now.ensures.steps.1 in
    let next = now.ensures.steps.2 in
    let reached = c.cell_step-reached.result in
    rw (next, at) (
      omega (arith, ap length split, l.invariant.0),
      sweep-next a.begins a.b (row_bit a.row) (symbols_left l.i-iterator.iter) now.code (symbols_left c.next.new.self.iter) l.next p l.new l.before
          c.mark_in-in-loop-i.new.row reached (row_bit a.row p) split refl
          (c.cell_step-reached.ensures ∙ ap (λ (i : ℕ). cell_step a.begins a.b now.code l.new l.before (row_bit a.row (i + 1))) at)
          (c.mark_in-in-loop-i.ensures ∙ ap (λ (i : ℕ). mark_row l.next (i + 1) reached) at)
          ∙ l.invariant.1,
    )
