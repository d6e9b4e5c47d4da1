-- A row that differs in the one word, or in another, is not this one.
use Rattle.std.proofs.Common.{◌≡◌, List, ℕ, [], get_or, sym, ap, ◌∙◌, below_more}
use Rattle.std.proofs.lemmas.Bool.{false≢true}
use lib.Pointwise.{bytes_decides}
use Rattle.states.specs.Machinery.Rows.{row_at}
use Rattle.states.proofs.RowsInWords.{chunks-few, row-of_chunks}
use Rattle.states.proofs.rows.find_row.Goals as goal
use Rattle.states.proofs.rows.find_row.Goals.{else-other-word-via-then-other-word+else-eq, else-other-word-via-else-other-word}

pub returns-then-eq : goal.returns-then-eq
returns-then-eq c =
    let a = c.args in
    let l = c.loop-i in
    let low = chunks-few a.n l.i _ a.words.now c.requires c.as_chunks.ensures.front_len c.loop-i-test.true in
    let other = get_or c.as_chunks.result.0.now l.i [] in (
      low,
      sym (row-of_chunks a.n l.i a.words.now [] c.requires c.as_chunks.ensures.front low) ∙ (bytes_decides other a.row).0 (sym c.eq.ensures ∙ c.if-eq.true),
      l.invariant,
    )

pub loop-i-preserved : goal.loop-i-preserved
loop-i-preserved c =
    let a = c.args in
    let i = c.loop-i.i in
    let low = chunks-few a.n i _ a.words.now c.requires c.as_chunks.ensures.front_len c.loop-i-test.true in
    let other = get_or c.as_chunks.result.0.now i [] in
    below_more (λ j. row_at a.words.now j ≡ a.row → ⊥) i c.loop-i.invariant
    (λ same.
    let here : other ≡ a.row = row-of_chunks a.n i a.words.now [] c.requires c.as_chunks.ensures.front low ∙ same in
    elim c.else-other-word.branch [
      | else-other-word-via-then-other-word+else-eq w ↦ false≢true (sym w.if-eq.false ∙ w.eq.ensures ∙ (bytes_decides other a.row).1 here)
      | else-other-word-via-else-other-word w ↦ w.if-other-word.false (ap (λ (row : List ℕ). get_or row c.telling_word-word.result 0) here)
    ])
