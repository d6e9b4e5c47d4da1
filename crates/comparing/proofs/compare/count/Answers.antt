-- Each refusal in its turn; where none is given, the footprints in the workspace count the gaps.
use Rattle.std.proofs.Common.{◌+◌, ◌^◌, ◌-◌, ◌≤◌, ap, length, arith}
use Rattle.std.proofs.lemmas.Result.{err_from_is_err_and}
use Rattle.stored.specs.Reading.{reading}
use Rattle.judging.specs.Judging.{rows_of}
use Rattle.comparing.specs.Machinery.Kinds.{count_of, prints_in}
use Rattle.comparing.specs.Machinery.Product.{SidesOf}
use Rattle.comparing.specs.Machinery.Survey.{Listed}
use Rattle.comparing.specs.Answers.{Counting as C}
use Rattle.comparing.specs.Compared.{IsCount}
use Rattle.comparing.proofs.Refusing.{widths-refused, tables-refused}
use Rattle.comparing.proofs.compare.Answering.{answer-tables, answer-yes, within-kinds, counts-gaps}
use Rattle.comparing.proofs.compare.count.Goals as goal

pub returns-in_err-tables : goal.returns-in_err-tables
returns-in_err-tables c =
    let a = c.args in
    let p = err_from_is_err_and c.from_residual.result c.from_residual.ensures.1 in
    rw (p.1, p.2)
    (tables-refused C.Refused IsCount (rows_of a.first.now) (rows_of a.second.now) _ (reading a.first.now) (reading a.second.now) c.in_err-tables.ensures)

pub returns-in_err-bounds : goal.returns-in_err-bounds
returns-in_err-bounds c =
    let a = c.args in
    let tables = c.in_ok-tables.tables in
    let read = c.in_ok-tables.ensures in
    let p = err_from_is_err_and c.from_residual-in_err-bounds.result c.from_residual-in_err-bounds.ensures.1 in
    rw (p.1, p.2)
    (answer-tables C.Refused IsCount a.first.now a.second.now _ tables.first.now tables.second.now (ap (λ b. b.now) read.0) (ap (λ b. b.now) read.1) read.2 read.3
    (widths-refused C.Refused IsCount (rows_of tables.first.now) (rows_of tables.second.now) _ c.in_err-bounds.ensures))

pub new-footprints-requires : goal.new-footprints-requires
new-footprints-requires c =
    let tables = c.in_ok-tables.tables in
    let listed = c.in_ok-bounds.ensures.1 in
    record { bounded = listed.bounded; few = within-kinds (rows_of tables.first.now) (rows_of tables.second.now) c.survey_both.new.words c.in_ok-bounds.bounds listed }

pub returns : goal.returns
returns c =
    let a = c.args in
    let tables = c.in_ok-tables.tables in
    let read = c.in_ok-tables.ensures in
    let one = rows_of tables.first.now in
    let two = rows_of tables.second.now in
    let f = c.new-footprints.result in
    let made = c.new-footprints.ensures in
    let listed : Listed one two f.words.now f.bounds = rw (made.words, made.bounds) c.in_ok-bounds.ensures.1 in
    let told : SidesOf one two f.sides = rw made.sides c.sides_of.ensures in
    let few : length one + length two ≤ 64 = omega (arith, tables.both_read.few, tables.both_read.more) in
    answer-tables C.Refused IsCount a.first.now a.second.now _ tables.first.now tables.second.now (ap (λ b. b.now) read.0) (ap (λ b. b.now) read.1) read.2 read.3
    (answer-yes C.Refused IsCount one two _ c.in_ok-bounds.ensures.0 f.words.now f.bounds listed
    (count_of f.sides (prints_in f.words.now f.bounds 0) (2 ^ 64 - 1), counts-gaps one two f.sides told f.words.now f.bounds listed few, ap C.Gaps c.count_gaps.ensures))
