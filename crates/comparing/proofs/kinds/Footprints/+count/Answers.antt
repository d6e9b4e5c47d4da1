use Rattle.std.proofs.Common.{◌<◌, sym, ap, ◌∙◌, arith, get_or, length}
use Rattle.comparing.specs.Machinery.Kinds.{total, prints_in}
use Rattle.comparing.proofs.kinds.GapRows.{count_most}
use Rattle.comparing.proofs.kinds.Settling.{settled-gaps}
use Rattle.comparing.proofs.kinds.KindsInWords.{fewer-kinds, gaps_behind, gaps-all, gaps-on}
use Rattle.comparing.proofs.kinds.Footprints.+count.Goals as goal
use Rattle.comparing.proofs.kinds.Footprints.+count.Goals.{then-is_settled, else-is_settled}

pub loop-print-init : goal.loop-print-init
loop-print-init t c =
    let f = c.args.self.now in
    let all =
    ap (total (gaps_behind f.sides f.words.now f.bounds c.args.column c.args.rows)) c.column_prints-print-items.ensures
    ∙ gaps-all f.sides f.words.now f.bounds c.args.column (omega arith) c.args.rows in
    omega (arith, all)

pub overflow_add-sum : goal.overflow_add-sum
overflow_add-sum t c =
    let f = c.args.self.now in
    let low : c.args.column < 8 = omega arith in
    let items = c.column_prints-print-items in
    omega (
      arith,
      settled-gaps f c.args.column c.args.rows (get_or items.result.now c.loop-print.print-index 0) c.settled-sum.result low
          (fewer-kinds f.bounded c.args.column low (omega (arith, ap length items.ensures)) c.requires.few) c.settled-sum.ensures
          (sym c.is_settled.ensures ∙ c.if-is_settled.true),
      gaps-on (gaps_behind f.sides f.words.now f.bounds c.args.column c.args.rows) items.result.now c.loop-print.print-index (omega arith),
      count_most f.sides (prints_in f.words.now f.bounds c.args.column) c.args.rows,
    )

pub count-sum-requires : goal.count-sum-requires
count-sum-requires t c =
    let f = c.args.self.now in
    let low : c.args.column < 8 = omega arith in (
      omega arith,
      (omega arith, fewer-kinds f.bounded c.args.column low (omega (arith, ap length c.column_prints-print-items.ensures)) c.requires.few),
    )

pub overflow_add-sum-else-is_settled : goal.overflow_add-sum-else-is_settled
overflow_add-sum-else-is_settled t c =
    let f = c.args.self.now in
    omega (
      arith,
      c.count-sum.ensures,
      gaps-on (gaps_behind f.sides f.words.now f.bounds c.args.column c.args.rows) c.column_prints-print-items.result.now c.loop-print.print-index (omega arith),
      count_most f.sides (prints_in f.words.now f.bounds c.args.column) c.args.rows,
    )

pub loop-print-preserved : goal.loop-print-preserved
loop-print-preserved t c =
    let f = c.args.self.now in
    let low : c.args.column < 8 = omega arith in
    let items = c.column_prints-print-items in
    let on = gaps-on (gaps_behind f.sides f.words.now f.bounds c.args.column c.args.rows) items.result.now c.loop-print.print-index (omega arith) in
    elim c.if-is_settled.branch [
      | then-is_settled w ↦
          omega (
            arith,
            w.sum-is,
            settled-gaps f c.args.column c.args.rows (get_or items.result.now c.loop-print.print-index 0) w.settled-sum.result low
                (fewer-kinds f.bounded c.args.column low (omega (arith, ap length items.ensures)) c.requires.few) w.settled-sum.ensures
                (sym c.is_settled.ensures ∙ w.if-is_settled.true),
          )
      | else-is_settled w ↦ omega (arith, w.sum-is, w.count-sum.ensures)
    ]
