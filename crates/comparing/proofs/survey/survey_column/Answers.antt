-- Column 7 goes by edges; another column by its states, if there are few of them.
use Rattle.std.proofs.Common.{ℕ, ◌<◌, sym, ◌∙◌, subst, true, arith}
use Rattle.judging.specs.Judging.{rows_of}
use Rattle.columns.specs.Machinery.Plan.{HasPlans}
use Rattle.columns.proofs.PlansLaid.{texts-fit, addresses-fit}
use Rattle.columns.proofs.Widths.{sum_both}
use Rattle.comparing.specs.Machinery.Survey.{SurveyedColumn}
use Rattle.comparing.proofs.survey.ColumnSurveyed.{found-states, found-few, found-many, gathered-behind}
use Rattle.comparing.proofs.survey.StatesKept.{states-kept}
use Rattle.comparing.proofs.survey.survey_column.Goals as goal

pub lay_plans-networks-requires : goal.lay_plans-networks-requires
lay_plans-networks-requires c =
    let a = c.args in
    (addresses-fit a.tables.first.now a.tables.second.now c.args.tables.both_read.one c.args.tables.both_read.two c.args.tables.both_read.few c.args.tables.both_read.more c.requires.0.networks, omega arith, omega (arith, c.requires.0.room))

pub returns-in_err-states : goal.returns-in_err-states
returns-in_err-states c =
    let a = c.args in
    let low : a.column < 7 = omega arith in
    subst (SurveyedColumn (rows_of a.tables.first.now) (rows_of a.tables.second.now) a.column a.words.now c.states_of-found.new.words a.from) (sym c.from_residual.ensures)
    (low, found-many (rows_of a.tables.first.now) (rows_of a.tables.second.now) a.column a.words.now c.states_of-found.new.words c.states_of-found.result c.states_of-found.ensures (c.requires.0.narrow a.column low) c.in_err-states.was, c.states_of-found.ensures.same)

pub lay_plans-plans-requires : goal.lay_plans-plans-requires
lay_plans-plans-requires c =
    let a = c.args in
    let found = c.states_of-found.ensures in
    let narrow = c.requires.0.narrow a.column (omega arith) in (
      texts-fit a.tables.first.now a.tables.second.now c.args.tables.both_read.one c.args.tables.both_read.two c.args.tables.both_read.few c.args.tables.both_read.more a.column _ narrow,
      omega (arith, narrow, found.mine, sum_both a.column (rows_of a.tables.first.now) (rows_of a.tables.second.now)),
      omega (arith, c.requires.0.room, found.same),
    )

pub gather_texts-requires : goal.gather_texts-requires
gather_texts-requires c =
    let a = c.args in
    let low : a.column < 7 = omega arith in (
      states-kept (rows_of a.tables.first.now) (rows_of a.tables.second.now) a.column c.states_of-found.new.words c.lay_plans-plans.new.words c.in_ok-states.states c.lay_plans-plans.ensures.front
          (found-states (rows_of a.tables.first.now) (rows_of a.tables.second.now) a.column a.words.now c.states_of-found.new.words c.states_of-found.result c.states_of-found.ensures (c.requires.0.narrow a.column low) c.in_ok-states.states c.in_ok-states.was),
      c.states_of-found.ensures.all,
      low,
      record { low = c.requires.2; room = omega (arith, c.requires.0.room, c.states_of-found.ensures.same, c.lay_plans-plans.ensures.same) },
      subst (λ (n : ℕ). HasPlans a.tables.first.now a.tables.second.now a.column true n c.lay_plans-plans.new.words c.lay_plans-plans.result) c.states_of-found.ensures.mine c.lay_plans-plans.ensures.has,
    )

pub returns : goal.returns
returns c =
    let a = c.args in
    let low : a.column < 7 = omega (arith, c.requires.1, c.if-column-eq-ADDRESSES.false) in (
      (λ under. found-few (rows_of a.tables.first.now) (rows_of a.tables.second.now) a.column a.words.now c.states_of-found.new.words c.states_of-found.result c.states_of-found.ensures (c.requires.0.narrow a.column low) c.in_ok-states.states c.in_ok-states.was),
      gathered-behind (rows_of a.tables.first.now) (rows_of a.tables.second.now) a.column a.words.now c.lay_plans-plans.new.words c.gather_texts.new.words a.from c.gather_texts.result (c.lay_plans-plans.ensures.kept ∙ c.states_of-found.ensures.kept) (c.lay_plans-plans.ensures.same ∙ c.states_of-found.ensures.same) c.gather_texts.ensures,
    )
