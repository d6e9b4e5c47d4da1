-- Only what stands in a list is marked.
use Rattle.std.proofs.Common.{inl, inr, sym, ap, ◌∙◌}
use Rattle.columns.proofs.LastPositions.{marked_at, word-marks}
use Rattle.columns.proofs.last_positions.word_marked.Goals as goal

pub returns-in-Content : goal.returns-in-Content
returns-in-Content c =
    let a = c.args in
    c.marked.ensures ∙ sym (word-marks a.row a.word ∙ ap (marked_at a.row) (sym c.of.ensures ∙ c.in-Content.is))

pub returns-in-Statement : goal.returns-in-Statement
returns-in-Statement c =
    let a = c.args in
    elim c.in-Statement.is [
      | inl e ↦ sym (word-marks a.row a.word ∙ ap (marked_at a.row) (sym c.of.ensures ∙ e))
      | inr (inl e) ↦ sym (word-marks a.row a.word ∙ ap (marked_at a.row) (sym c.of.ensures ∙ e))
      | inr (inr e) ↦ sym (word-marks a.row a.word ∙ ap (marked_at a.row) (sym c.of.ensures ∙ e))
    ]
