-- Where nothing is listed, one byte is the first value; else the string of the lowest state that shows it.
use Rattle.std.proofs.Common.{sym, ◌∙◌, subst, ℕ, true, ◌++◌, arith, Some}
use Rattle.judging.specs.Requests.{Value}
use Rattle.judging.specs.Judging.{rows_of}
use Rattle.columns.specs.Values.{values_in}
use Rattle.columns.specs.Machinery.Plan.{HasPlans}
use Rattle.columns.proofs.PlansLaid.{texts-fit}
use Rattle.columns.proofs.Widths.{sum_both}
use Rattle.comparing.specs.Machinery.ShownValues.{LaidValue}
use Rattle.comparing.proofs.show.FirstFound.{codes-few, has-string, few-found, starts-needed, any_found, string-needed}
use Rattle.comparing.proofs.survey.NoValues.{no-values}
use Rattle.comparing.proofs.survey.ColumnSurveyed.{found-states}
use Rattle.comparing.proofs.survey.StatesKept.{states-kept}
use Rattle.comparing.proofs.show.show_text.Goals as goal

pub returns-then-found-eq0 : goal.returns-then-found-eq0
returns-then-found-eq0 c =
    let a = c.args in
    λ v w.
    let none = no-values (values_in a.column (rows_of a.tables.first.now ++ rows_of a.tables.second.now)) (sym c.states_of-found.ensures.all ∙ c.if-found-eq0.true) in
    subst (λ (x : Value). LaidValue a.column a.values.now c.show_any.new.values (Some c.show_any.result) x)
    (sym (any_found (rows_of a.tables.first.now) (rows_of a.tables.second.now) a.column a.print c.requires.2 none v w)) c.show_any.ensures

pub unwrap-states-requires : goal.unwrap-states-requires
unwrap-states-requires c =
    let a = c.args in
    few-found (rows_of a.tables.first.now) (rows_of a.tables.second.now) a.column (codes-few (rows_of a.tables.first.now) (rows_of a.tables.second.now) a.column c.requires.0) c.requires.1 c.states_of-found.new.words c.states_of-found.result.states
    c.states_of-found.ensures.answer

pub lay_plans-plans-requires : goal.lay_plans-plans-requires
lay_plans-plans-requires c =
    let a = c.args in
    let found = c.states_of-found.ensures in (
      texts-fit a.tables.first.now a.tables.second.now c.args.tables.both_read.one c.args.tables.both_read.two c.args.tables.both_read.few c.args.tables.both_read.more a.column _ c.requires.0,
      omega (arith, c.requires.0, found.mine, sum_both a.column (rows_of a.tables.first.now) (rows_of a.tables.second.now)),
      omega (arith, c.requires.3, found.same),
    )

pub show_state-requires : goal.show_state-requires
show_state-requires c =
    let a = c.args in
    let found = c.states_of-found.ensures in (
      states-kept (rows_of a.tables.first.now) (rows_of a.tables.second.now) a.column c.states_of-found.new.words c.lay_plans-plans.new.words c.unwrap-states.result c.lay_plans-plans.ensures.front
          (found-states (rows_of a.tables.first.now) (rows_of a.tables.second.now) a.column a.words.now c.states_of-found.new.words c.states_of-found.result found c.requires.0 c.unwrap-states.result c.unwrap-states.ensures),
      starts-needed (rows_of a.tables.first.now ++ rows_of a.tables.second.now) a.column c.requires.2 (omega (arith, found.all, c.if-found-eq0.false)),
      omega (arith, c.requires.2),
      omega (arith, c.requires.3, found.same, c.lay_plans-plans.ensures.same),
      c.requires.4,
      has-string (rows_of a.tables.first.now) (rows_of a.tables.second.now) a.column a.print (string-needed (rows_of a.tables.first.now) (rows_of a.tables.second.now) a.column a.print c.requires.2) c.requires.5,
      subst (λ (n : ℕ). HasPlans a.tables.first.now a.tables.second.now a.column true n c.lay_plans-plans.new.words c.lay_plans-plans.result) found.mine c.lay_plans-plans.ensures.has,
    )
