use Rattle.std.proofs.Common.{◌-◌, ◌+◌, ℕ, sym, ap, ◌∙◌, arith, drop, length}
use Rattle.comparing.proofs.kinds.KindsInWords.{fewer-kinds, gaps_behind, step_in, step-all, step-here, step-on}
use Rattle.comparing.proofs.kinds.Footprints.step_to.Goals as goal

pub loop-print-init : goal.loop-print-init
loop-print-init c =
    let f = c.args.self.now in
    ap (step_in (gaps_behind f.sides f.words.now f.bounds c.args.column c.args.rows) c.args.k) c.column_prints-print-items.ensures
    ∙ step-all f.sides f.words.now f.bounds c.args.column c.requires.low c.args.rows c.args.k

pub count-here-requires : goal.count-here-requires
count-here-requires c =
    let f = c.args.self.now in
    record {
      low = omega arith;
      few = fewer-kinds f.bounded c.args.column c.requires.low (omega (arith, ap length c.column_prints-print-items.ensures)) c.requires.few;
    }

pub returns-then-left-here : goal.returns-then-left-here
returns-then-left-here c =
    let f = c.args.self.now in
    let now = c.loop-print in
    let items = c.column_prints-print-items in
    record {
      found =
          sym (step-here (gaps_behind f.sides f.words.now f.bounds c.args.column c.args.rows) items.result.now now.print-index (omega arith) now.left
          (omega (arith, c.count-here.ensures)))
          ∙ now.invariant;
      few = fewer-kinds f.bounded c.args.column c.requires.low (omega (arith, ap length items.ensures)) c.requires.few;
    }

pub loop-print-preserved : goal.loop-print-preserved
loop-print-preserved c =
    let f = c.args.self.now in
    let now = c.loop-print in
    let items = c.column_prints-print-items in
    ap (λ (n : ℕ). step_in (gaps_behind f.sides f.words.now f.bounds c.args.column c.args.rows) (now.left - n) (drop (now.print-index + 1) items.result.now))
    c.count-here.ensures
    ∙ sym (step-on (gaps_behind f.sides f.words.now f.bounds c.args.column c.args.rows) items.result.now now.print-index (omega arith) now.left
    (omega (arith, c.count-here.ensures)))
    ∙ now.invariant
