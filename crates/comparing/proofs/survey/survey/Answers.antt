use Rattle.std.proofs.Common.{ℕ, ◌≡◌, sym, ◌∙◌, subst, Option, Some, None, Result, Ok, Err, ok_or, add-one, arith, set}
use Rattle.judging.specs.Judging.{rows_of}
use Rattle.comparing.specs.Answers.{as_counting}
use Rattle.comparing.specs.Machinery.Refusing.{RefusesStates}
use Rattle.comparing.specs.Machinery.Survey.{SurveyedColumn}
use Rattle.comparing.specs.declared.answers.Refused.{Refused}
use Rattle.comparing.proofs.survey.ColumnsSurveyed.{ColumnsUpto, columns-on, columns-end, columns-over}
use Rattle.comparing.proofs.survey.survey.Goals as goal

-- what is so of where a column ends, or of its having no end, is so of these as `ok_or` says them
abbrev Ended : (Option ℕ → Type 0) → Result ℕ Refused → Type 0
Ended P (Ok to) = P (Some to)
Ended P (Err refused) = P None

ended : (P : Option ℕ → Type 0) (end : Option ℕ) (refused : Refused) → P end → Ended P (ok_or end refused)
ended P (Some to) refused so = so
ended P None refused so = so

pub loop-column-preserved : goal.loop-column-preserved
loop-column-preserved c =
    let l = c.loop-column in
    let a = c.args in
    let P = SurveyedColumn (rows_of a.tables.first.now) (rows_of a.tables.second.now) l.column l.words c.survey_column.new.words l.from in
    let found = subst (Ended P) (sym c.ok_or.ensures.value ∙ c.in_ok-to.was) (ended P c.survey_column.result c.together.result c.survey_column.ensures) in (
      c.survey_column.auto.words ∙ l.invariant.0,
      subst
          (λ (column : ℕ). ColumnsUpto (rows_of a.tables.first.now) (rows_of a.tables.second.now) c.survey_column.new.words (set l.bounds column c.next_bound-from.result) c.next_bound-from.result c.kinds_so_far-kinds.result column)
          (sym (add-one l.column))
          (columns-on (rows_of a.tables.first.now) (rows_of a.tables.second.now) l.words c.survey_column.new.words l.bounds l.from c.in_ok-to.to l.kinds l.column
          c.kinds_so_far-kinds.result c.next_bound-from.result l.invariant.1 (omega arith) found.0 found.1 c.kinds_so_far-kinds.ensures c.next_bound-from.ensures (omega (arith, c.requires.room, l.invariant.0))),
    )

pub returns-then-kinds-gt-MOST_KINDS : goal.returns-then-kinds-gt-MOST_KINDS
returns-then-kinds-gt-MOST_KINDS c =
    let l = c.loop-column in
    let a = c.args in
    let all : l.column ≡ 8 = omega arith in
    subst (λ (r : Refused). RefusesStates (rows_of a.tables.first.now) (rows_of a.tables.second.now) (as_counting (Err r))) (sym c.together-then-kinds-gt-MOST_KINDS.ensures)
    (columns-over (rows_of a.tables.first.now) (rows_of a.tables.second.now) l.words l.bounds l.from l.kinds
    (subst (λ (column : ℕ). ColumnsUpto (rows_of a.tables.first.now) (rows_of a.tables.second.now) l.words l.bounds l.from l.kinds column) all l.invariant.1)
    c.if-kinds-gt-MOST_KINDS.true)

pub returns : goal.returns
returns c =
    let l = c.loop-column in
    let a = c.args in
    let all : l.column ≡ 8 = omega arith in
    columns-end (rows_of a.tables.first.now) (rows_of a.tables.second.now) l.words l.bounds l.from l.kinds
    (subst (λ (column : ℕ). ColumnsUpto (rows_of a.tables.first.now) (rows_of a.tables.second.now) l.words l.bounds l.from l.kinds column) all l.invariant.1)
    (omega arith)
