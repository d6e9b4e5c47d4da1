-- By any string with the state: the runs over the plans find the rows of each table that hold for the string, the second's positions behind the
-- first's, and its rows behind the first's. A state that has none of the last positions runs over the plans like one that has no position.
use Rattle.std.proofs.Common.{List, ℕ, sym, ap, ◌∙◌}
use Rattle.matching.specs.Machinery.Rows.{row_bit}
use Rattle.columns.specs.Machinery.Plan.{fresh_run, done_run, run_plan}
use Rattle.columns.proofs.PrintWords.{sides-fit, sides-print, none-met}
use Rattle.columns.proofs.prints.state_print.Goals as goal

pub joined-requires : goal.joined-requires
joined-requires c =
    let a = c.args in
    let run = λ (plan : List ℕ). done_run (run_plan (row_bit a.row) fresh_run plan) in
    sides-fit a.tables.first.now a.tables.second.now a.tables.size a.column a.words.now a.row a.prints.plans c.text_rows-own.result c.text_rows-other.result
    a.tables.both_read c.requires.0.laid c.requires.2 (c.text_rows-own.ensures ∙ ap run c.own.ensures) (c.text_rows-other.ensures ∙ ap run c.other.ensures) c.requires.3

pub returns-then-rows_meet : goal.returns-then-rows_meet
returns-then-rows_meet c =
    λ s is.
    let a = c.args in
    let run = λ (plan : List ℕ). done_run (run_plan (row_bit a.row) fresh_run plan) in
    c.joined.ensures
    ∙ sides-print a.tables.first.now a.tables.second.now a.tables.size a.column a.words.now a.row a.prints.plans c.text_rows-own.result c.text_rows-other.result
    a.tables.both_read c.requires.0.laid c.requires.2 (c.text_rows-own.ensures ∙ ap run c.own.ensures) (c.text_rows-other.ensures ∙ ap run c.other.ensures) s is

pub joined-requires-else-rows_meet : goal.joined-requires-else-rows_meet
joined-requires-else-rows_meet c =
    let a = c.args in
    let none =
    none-met a.words.now a.row a.prints c.well_formed.1.0.1.0.1 c.requires.0.found
    (sym c.rows_meet.ensures ∙ c.if-rows_meet.false) in
    sides-fit a.tables.first.now a.tables.second.now a.tables.size a.column a.words.now a.row a.prints.plans a.prints.own a.prints.other
    a.tables.both_read c.requires.0.laid c.requires.2 none.0 none.1 c.requires.3

pub returns-else-rows_meet : goal.returns-else-rows_meet
returns-else-rows_meet c =
    λ s is.
    let a = c.args in
    let none =
    none-met a.words.now a.row a.prints c.well_formed.1.0.1.0.1 c.requires.0.found
    (sym c.rows_meet.ensures ∙ c.if-rows_meet.false) in
    c.joined-else-rows_meet.ensures
    ∙ sides-print a.tables.first.now a.tables.second.now a.tables.size a.column a.words.now a.row a.prints.plans a.prints.own a.prints.other
    a.tables.both_read c.requires.0.laid c.requires.2 none.0 none.1 s is
