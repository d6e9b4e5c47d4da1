use Rattle.std.proofs.Common.{◌≡◌, ℕ, ◌+◌, ◌*◌, List, set, refl, ap, ◌∙◌, arith}
use Rattle.matching.specs.Machinery.Rows.{pack_word, pack}
use Rattle.matching.specs.Machinery.Words.{ahead_row}
use Rattle.matching.proofs.Rows.{upto}
use Rattle.matching.proofs.MarkedRows.{none-marked, all-marked, lay-more, row-carry}
use Rattle.matching.proofs.AlikeBytes.{word-ahead}
use Rattle.matching.proofs.words.ahead_of.Invariants.{behind}
use Rattle.matching.proofs.words.ahead_of.Goals as goal

pub loop-i-init : goal.loop-i-init
loop-i-init c = (omega arith, none-marked (behind c.args.row), refl)

pub loop-i-preserved : goal.loop-i-preserved
loop-i-preserved c =
    let l = c.loop-i in
    let a = c.args in
    let f = behind a.row in
    let moved : c.moved_up.result ≡ pack_word 64 (λ k. f (64 * l.i + k)) =
    word-ahead a.row l.i l.before c.moved_up.result l.invariant.2 c.moved_up.ensures in (
      omega arith,
      ap (λ (m : List ℕ). set m l.i c.moved_up.result) l.invariant.1
          ∙ ap (set (pack 8 (upto (64 * l.i) f)) l.i) moved
          ∙ lay-more 8 l.i f (omega arith),
      row-carry a.row l.i,
    )

pub returns : goal.returns
unfolding ahead_row
returns c =
    let l = c.loop-i in
    let a = c.args in
    l.invariant.1 ∙ all-marked (behind a.row) (64 * l.i) (λ q h k. absurd (omega arith))
