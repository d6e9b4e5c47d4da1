use Rattle.std.proofs.Common.{◌+◌, ◌<◌, sym, ap, ◌∙◌, Bool, ◌++◌, arith, ne_eqb}
use Rattle.stored.specs.Choice.{pick}
use Rattle.matching.specs.Machinery.Codes.{codes_of}
use Rattle.judging.specs.Requests.{absent, text}
use Rattle.judging.specs.Judging.{rows_of}
use Rattle.states.specs.Machinery.Rows.{prints_at, most_states, codes_at}
use Rattle.states.specs.Machinery.Search.{string_of}
use Rattle.states.proofs.Parts.{front_kept}
use Rattle.columns.specs.Values.{values_in}
use Rattle.columns.proofs.PlansLaid.{prepared-stays}
use Rattle.comparing.specs.Machinery.Product.{print_of}
use Rattle.comparing.specs.Machinery.Survey.{print_at}
use Rattle.comparing.proofs.survey.AddingPrints.{row-added}
use Rattle.comparing.proofs.survey.StatesKept.{row_stays}
use Rattle.comparing.proofs.survey.Exploring.{string-reaches}
use Rattle.comparing.proofs.survey.gather_rows.Goals as goal

pub state_print-print-requires : goal.state_print-print-requires
state_print-print-requires c =
    let l = c.loop-i in
    let a = c.args in
    let few = c.requires.0.explored.few in
    let same = front_kept l.words a.words.now (prints_at + a.start) prints_at l.invariant.3 (omega arith) in (
      prepared-stays a.tables.first.now a.tables.second.now a.column a.words.now l.words a.prints same c.requires.4,
      omega (arith, c.requires.3, l.invariant.2),
      c.requires.0.narrow,
      (
        string_of a.words.now l.i,
        (string-reaches (codes_of (values_in a.column (rows_of a.tables.first.now ++ rows_of a.tables.second.now))) a.words.now a.states _ c.requires.0.explored l.i (omega arith)).0
            ∙ sym
            (c.row_at-state.ensures
            ∙ row_stays a.words.now l.words (front_kept l.words a.words.now prints_at codes_at same (omega arith)) l.i (omega arith)),
      ),
    )

pub loop-i-preserved : goal.loop-i-preserved
loop-i-preserved c =
    let l = c.loop-i in
    let a = c.args in
    let low : l.i < a.states = omega arith in
    let few = c.requires.0.explored.few in
    let row =
    c.row_at-state.ensures
    ∙ row_stays a.words.now l.words (front_kept l.words a.words.now (prints_at + a.start) codes_at l.invariant.3 (omega arith)) l.i (omega arith) in
    let is =
    c.state_print-print.ensures (string_of a.words.now l.i)
    ((string-reaches (codes_of (values_in a.column (rows_of a.tables.first.now ++ rows_of a.tables.second.now))) a.words.now a.states _ c.requires.0.explored l.i low).0 ∙ sym row)
    ∙ ap (λ (t : Bool). print_of (rows_of a.tables.first.now) (rows_of a.tables.second.now) a.column (pick t absent (text (string_of a.words.now l.i))))
    (sym (ne_eqb l.i most_states (λ w. omega arith))) in (
      omega (arith, c.add_print-to.ensures.low),
      omega (arith, c.add_print-to.ensures.high),
      c.add_print-to.ensures.same ∙ l.invariant.2,
      front_kept c.add_print-to.new.words l.words (prints_at + l.to) (prints_at + a.start) c.add_print-to.ensures.kept (omega arith) ∙ l.invariant.3,
      λ found e.
          row-added (print_at (rows_of a.tables.first.now) (rows_of a.tables.second.now) a.column a.words.now) l.words c.add_print-to.new.words
          a.from l.to c.add_print-to.result a.row l.i c.state_print-print.result found (omega arith) is (l.invariant.4 found e) c.add_print-to.ensures,
    )
