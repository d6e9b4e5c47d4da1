use Rattle.std.proofs.Common.{◌≡◌, ◌++◌, sym, ◌∙◌, arith}
use Rattle.matching.specs.Machinery.Codes.{codes_of}
use Rattle.judging.specs.Requests.{text}
use Rattle.judging.specs.Judging.{rows_of}
use Rattle.states.specs.Machinery.Search.{string_of}
use Rattle.columns.specs.Values.{values_in}
use Rattle.comparing.specs.Machinery.Product.{print_of}
use Rattle.comparing.proofs.survey.Exploring.{string-reaches}
use Rattle.comparing.proofs.show.FirstFound.{none-next}
use Rattle.comparing.proofs.show.find_state.Goals as goal

pub state_print-requires : goal.state_print-requires
state_print-requires c =
    let a = c.args in
    let l = c.loop-i in (
      c.requires.3,
      c.requires.2,
      c.requires.0.narrow,
      (string_of a.words.now l.i, (string-reaches (codes_of (values_in a.column (rows_of a.tables.first.now ++ rows_of a.tables.second.now))) a.words.now a.states _ c.requires.0.explored l.i c.loop-i-test.true).0 ∙ sym c.row_at-row.ensures),
    )

pub returns-then-state_print-print : goal.returns-then-state_print-print
returns-then-state_print-print c =
    let a = c.args in
    let l = c.loop-i in
    let reached = (string-reaches (codes_of (values_in a.column (rows_of a.tables.first.now ++ rows_of a.tables.second.now))) a.words.now a.states _ c.requires.0.explored l.i c.loop-i-test.true).0 ∙ sym c.row_at-row.ensures in
    record {
      low = omega arith;
      high = c.loop-i-test.true;
      here = sym (c.state_print.ensures (string_of a.words.now l.i) reached) ∙ c.if-state_print-print.true;
      before = l.invariant;
    }

pub loop-i-preserved : goal.loop-i-preserved
loop-i-preserved c =
    let a = c.args in
    let l = c.loop-i in
    let reached = (string-reaches (codes_of (values_in a.column (rows_of a.tables.first.now ++ rows_of a.tables.second.now))) a.words.now a.states _ c.requires.0.explored l.i c.loop-i-test.true).0 ∙ sym c.row_at-row.ensures in
    none-next (λ j. print_of (rows_of a.tables.first.now) (rows_of a.tables.second.now) a.column (text (string_of a.words.now j)) ≡ a.print) a.from l.i l.invariant
    (λ shown. c.if-state_print-print.false (c.state_print.ensures (string_of a.words.now l.i) reached ∙ shown))
