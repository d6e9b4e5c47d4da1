-- Three ways, by the column and by whether it has a value; each leaves the footprints of the first values.
use Rattle.std.proofs.Common.{◌+◌, sym, ◌∙◌, ◌++◌, arith}
use Rattle.matching.specs.Machinery.Codes.{codes_of}
use Rattle.judging.specs.Judging.{rows_of}
use Rattle.states.specs.Machinery.Rows.{prints_at}
use Rattle.states.specs.Machinery.Search.{string_of}
use Rattle.states.proofs.Parts.{front_kept}
use Rattle.columns.specs.Values.{values_in}
use Rattle.columns.proofs.PlansLaid.{prepared, prepared-stays}
use Rattle.comparing.proofs.survey.Exploring.{string-reaches}
use Rattle.comparing.proofs.survey.TextsGathered.{gathered_none, gathered-needed, gathered-optional, states-stay}
use Rattle.comparing.proofs.survey.gather_texts.Goals as goal

pub state_print-print-requires : goal.state_print-print-requires
state_print-print-requires c =
    let a = c.args in (
      prepared a.tables.first.now a.tables.second.now a.column a.words.now a.plans c.prints_of-prints.result c.requires.4 c.prints_of-prints.ensures,
      omega (arith, c.requires.3.room),
      c.requires.0.narrow,
      (string_of a.words.now 0, (string-reaches (codes_of (values_in a.column (rows_of a.tables.first.now ++ rows_of a.tables.second.now))) a.words.now a.states _ c.requires.0.explored 0 c.requires.0.explored.some).0 ∙ sym c.row_at-state.ensures),
    )

pub returns-then-positions-eq0 : goal.returns-then-positions-eq0
returns-then-positions-eq0 c =
    let a = c.args in
    gathered_none (rows_of a.tables.first.now) (rows_of a.tables.second.now) a.column a.words.now a.states a.from c.requires.0 c.requires.3
    c.add_print.new.words c.state_print-print.result c.add_print.result (string_of a.words.now 0) (omega arith) (omega (arith, c.requires.1))
    (c.state_print-print.ensures (string_of a.words.now 0) ((string-reaches (codes_of (values_in a.column (rows_of a.tables.first.now ++ rows_of a.tables.second.now))) a.words.now a.states _ c.requires.0.explored 0 c.requires.0.explored.some).0 ∙ sym c.row_at-state.ensures)) c.add_print.ensures

pub returns-then-column-lt3 : goal.returns-then-column-lt3
returns-then-column-lt3 c =
    let a = c.args in
    gathered-needed (rows_of a.tables.first.now) (rows_of a.tables.second.now) a.column a.words.now a.states a.from c.requires.0 c.requires.3 c.gather_rows.new.words c.gather_rows.result (omega arith) (omega (arith, c.requires.1)) c.gather_rows.ensures

pub gather_rows-requires-2 : goal.gather_rows-requires-2
gather_rows-requires-2 c =
    let a = c.args in (
      states-stay (rows_of a.tables.first.now) (rows_of a.tables.second.now) a.column a.words.now a.states a.from c.requires.0 c.requires.3 c.add_print-start.new.words c.absent_print-absent.result c.add_print-start.result c.absent_print-absent.ensures c.add_print-start.ensures,
      omega arith,
      c.add_print-start.ensures.low,
      omega (arith, c.requires.0.explored.few, c.requires.3.low, c.requires.3.room, c.add_print-start.ensures.high, c.add_print-start.ensures.same),
      prepared-stays a.tables.first.now a.tables.second.now a.column a.words.now c.add_print-start.new.words c.prints_of-prints.result
          (front_kept c.add_print-start.new.words a.words.now (prints_at + a.from) prints_at c.add_print-start.ensures.kept (omega arith))
          (prepared a.tables.first.now a.tables.second.now a.column a.words.now a.plans c.prints_of-prints.result c.requires.4 c.prints_of-prints.ensures),
    )

pub returns : goal.returns
returns c =
    let a = c.args in
    gathered-optional (rows_of a.tables.first.now) (rows_of a.tables.second.now) a.column a.words.now a.states a.from c.requires.0 c.requires.3 c.add_print-start.new.words c.absent_print-absent.result c.add_print-start.result c.absent_print-absent.ensures c.add_print-start.ensures
    c.gather_rows-2.new.words c.gather_rows-2.result (omega arith) c.requires.2 c.gather_rows-2.ensures
