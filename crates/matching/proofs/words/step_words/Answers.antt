use Rattle.std.proofs.Common.{◌≡◌, ℕ, ◌+◌, ◌*◌, List, set, refl, ap, ◌∙◌, arith}
use Rattle.matching.specs.Machinery.Rows.{pack_word, pack}
use Rattle.matching.specs.Machinery.Words.{words_row}
use Rattle.matching.proofs.Rows.{upto}
use Rattle.matching.proofs.MarkedRows.{none-marked, lay-more, word-laid, row-carry, new-carry}
use Rattle.matching.proofs.words.step_words.Invariants.{step_of}
use Rattle.matching.proofs.words.step_words.Goals as goal

pub loop-i-init : goal.loop-i-init
loop-i-init c =
    let a = c.args in
    (omega arith, none-marked (step_of a.taken.now a.stars.now a.row), refl, refl)

pub loop-i-preserved : goal.loop-i-preserved
loop-i-preserved c =
    let l = c.loop-i in
    let a = c.args in
    let f = step_of a.taken.now a.stars.now a.row in
    let laid : c.take_over-new.result ≡ pack_word 64 (λ k. f (64 * l.i + k)) =
    word-laid a.taken.now a.stars.now a.row l.i l.old_before l.new_before c.base_word-base.result c.take_over-new.result
    c.base_word-base.ensures c.take_over-new.ensures l.invariant.2 l.invariant.3 in (
      omega arith,
      ap (λ (m : List ℕ). set m l.i c.take_over-new.result) l.invariant.1
          ∙ ap (set (pack 8 (upto (64 * l.i) f)) l.i) laid
          ∙ lay-more 8 l.i f (omega arith),
      row-carry a.row l.i,
      new-carry f l.i c.take_over-new.result laid,
    )

pub returns : goal.returns
unfolding words_row
returns c =
    let l = c.loop-i in
    let a = c.args in
    let done : l.i ≡ a.used = omega arith in
    l.invariant.1 ∙ ap (λ (n : ℕ). pack 8 (upto (64 * n) (step_of a.taken.now a.stars.now a.row))) done
