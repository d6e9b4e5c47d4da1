-- The judge's answer (RULES 5 and 7.3): the table's refusal, then 9 by column, then the verdict.
use Rattle.std.specs.Prelude.{ℕ, List, Result, Ok, Err, ltb}
use Rattle.refusals.specs.Numbers.{number_of}
use Rattle.refusals.specs.declared.Refusal.{Refusal}
use Rattle.stored.specs.Choice.{pick}
use Rattle.stored.specs.Reading.{ReadAnswer as A, ReadAnswer, reading}
use Rattle.stored.specs.Tables.{Statement}
pub use Rattle.stored.specs.Tables.{rows_of}
use Rattle.judging.specs.Requests.{Value, first_fault, columns}
use Rattle.judging.specs.Meaning.{some_allows, some_denies}
use Rattle.judging.specs.declared.judge.Verdict.{Verdict}
use Rattle.judging.specs.declared.judge.Verdict.TheVariants as V

-- what judging finds: a verdict, or the number of the refusal and its place
pub data Judgement : Type 0 where
  Allowed : Judgement
  DeniedByRule : Judgement
  NotMentioned : Judgement
  Refused : ℕ → ℕ → Judgement

-- what the code answers
abbrev pub as_verdict : Verdict → Judgement
as_verdict V.Allowed = Allowed
as_verdict V.DeniedByRule = DeniedByRule
as_verdict V.NotMentioned = NotMentioned

abbrev pub as_judgement : Result Verdict Refusal → Judgement
as_judgement (Ok verdict) = as_verdict verdict
as_judgement (Err refusal) = Refused (number_of refusal.reason) refusal.place

-- DeniedByRule where some deny applies, Allowed where some allow does and no deny, NotMentioned where no statement applies
abbrev pub verdict : List Value → List Statement → Judgement
verdict request rows = pick (some_denies request rows) DeniedByRule (pick (some_allows request rows) Allowed NotMentioned)

-- a request judged by statements: 9 at its lowest faulty column
abbrev pub judged : List Value → List Statement → Judgement
judged request rows =
    pick (ltb (first_fault 0 request) columns) (Refused 9 (first_fault 0 request)) (verdict request rows)

abbrev pub judged_as : ReadAnswer → List Value → List Statement → Judgement
judged_as (A.Accepted n) request rows = judged request rows
judged_as (A.Refused n place) request rows = Refused n place

-- the table first, then the request
unfoldable pub judgement : List ℕ → List Value → Judgement
judgement t request = judged_as (reading t) request (rows_of t)
