-- Each refusal in its turn; where none is given, gap k is found along its path, and its values are shown.
use Rattle.std.proofs.Common.{◌+◌, ◌≤◌, ◌++◌, sym, ap, subst, Err, length, arith}
use Rattle.std.proofs.lemmas.Result.{err_from_is_err_and}
use Rattle.stored.specs.Reading.{reading}
use Rattle.judging.specs.Judging.{rows_of}
use Rattle.comparing.specs.Machinery.Product.{SidesOf}
use Rattle.comparing.specs.Machinery.Survey.{Listed}
use Rattle.comparing.specs.Answers.{as_showing}
use Rattle.comparing.specs.Compared.{FromTables, IsAnswer, keeps}
use Rattle.comparing.specs.declared.answers.Refused.{Refused}
use Rattle.comparing.proofs.Refusing.{widths-refused, tables-refused}
use Rattle.comparing.proofs.compare.Answering.{answer-tables, answer-yes, answer-none, answer-shown, within-kinds, shows-gap}
use Rattle.comparing.proofs.compare.NotWide.{not_wide}
use Rattle.comparing.proofs.compare.find.Goals as goal

pub returns-in_err-tables : goal.returns-in_err-tables
returns-in_err-tables c =
    let a = c.args in
    let p = err_from_is_err_and c.from_residual.result c.from_residual.ensures.1 in
    rw (p.1, p.2)
    (tables-refused (keeps a.values.now) (IsAnswer a.k a.values.now) (rows_of a.first.now) (rows_of a.second.now) _ (reading a.first.now) (reading a.second.now) c.in_err-tables.ensures)

pub returns-in_err-bounds : goal.returns-in_err-bounds
returns-in_err-bounds c =
    let a = c.args in
    let tables = c.in_ok-tables.tables in
    let read = c.in_ok-tables.ensures in
    let p = err_from_is_err_and c.from_residual-in_err-bounds.result c.from_residual-in_err-bounds.ensures.1 in
    rw (p.1, p.2)
    (answer-tables (keeps a.values.now) (IsAnswer a.k a.values.now) a.first.now a.second.now _ tables.first.now tables.second.now (ap (λ b. b.now) read.0) (ap (λ b. b.now) read.1) read.2 read.3
    (widths-refused (keeps a.values.now) (IsAnswer a.k a.values.now) (rows_of tables.first.now) (rows_of tables.second.now) _ c.in_err-bounds.ensures))

pub new-footprints-requires : goal.new-footprints-requires
new-footprints-requires c =
    let tables = c.in_ok-tables.tables in
    let listed = c.in_ok-bounds.ensures.1 in
    record { bounded = listed.bounded; few = within-kinds (rows_of tables.first.now) (rows_of tables.second.now) c.survey_both.new.words c.in_ok-bounds.bounds listed }

pub returns-then-count_gaps-k : goal.returns-then-count_gaps-k
returns-then-count_gaps-k c =
    let a = c.args in
    let tables = c.in_ok-tables.tables in
    let one = rows_of tables.first.now in
    let two = rows_of tables.second.now in
    let f = c.new-footprints.result in
    let made = c.new-footprints.ensures in
    let listed : Listed one two f.words.now f.bounds = rw (made.words, made.bounds) c.in_ok-bounds.ensures.1 in
    let told : SidesOf one two f.sides = rw made.sides c.sides_of.ensures in
    let few : length one + length two ≤ 64 = omega (arith, tables.both_read.few, tables.both_read.more) in
    let read = c.in_ok-tables.ensures in
    subst
    (λ (r : Refused).
    FromTables (keeps a.values.now) (IsAnswer a.k a.values.now) (reading a.first.now) (reading a.second.now) (rows_of a.first.now) (rows_of a.second.now)
    (as_showing (Err r), a.values.now))
    (sym c.together.ensures)
    (answer-tables (keeps a.values.now) (IsAnswer a.k a.values.now) a.first.now a.second.now _ tables.first.now tables.second.now (ap (λ b. b.now) read.0) (ap (λ b. b.now) read.1) read.2 read.3
    (answer-yes (keeps a.values.now) (IsAnswer a.k a.values.now) one two _ c.in_ok-bounds.ensures.0 f.words.now f.bounds listed
    (answer-none one two f.sides told f.words.now f.bounds listed few a.k (omega (arith, c.count_gaps.ensures, c.if-count_gaps-k.true)) a.values.now)))

pub show_gap-shape-requires : goal.show_gap-shape-requires
show_gap-shape-requires c =
    let a = c.args in
    let tables = c.in_ok-tables.tables in
    let one = rows_of tables.first.now in
    let two = rows_of tables.second.now in
    let f = c.new-footprints.result in
    let made = c.new-footprints.ensures in
    let listed : Listed one two f.words.now f.bounds = rw (made.words, made.bounds) c.in_ok-bounds.ensures.1 in
    let told : SidesOf one two f.sides = rw made.sides c.sides_of.ensures in
    let few : length one + length two ≤ 64 = omega (arith, tables.both_read.few, tables.both_read.more) in
    let fits = not_wide (one ++ two) a.words.now c.in_ok-bounds.ensures.0 c.requires.0 in (
      fits.narrow,
      listed.uncrowded,
      omega (arith, c.requires.0, c.survey_both.auto.words),
      c.requires.1,
      shows-gap one two f.sides told f.words.now f.bounds listed few a.k (omega (arith, c.count_gaps.ensures, c.if-count_gaps-k.false)) c.gap_prints-prints.result c.gap_prints-prints.ensures,
      fits.networks,
    )

pub returns : goal.returns
returns c =
    let a = c.args in
    let tables = c.in_ok-tables.tables in
    let one = rows_of tables.first.now in
    let two = rows_of tables.second.now in
    let f = c.new-footprints.result in
    let made = c.new-footprints.ensures in
    let listed : Listed one two f.words.now f.bounds = rw (made.words, made.bounds) c.in_ok-bounds.ensures.1 in
    let told : SidesOf one two f.sides = rw made.sides c.sides_of.ensures in
    let few : length one + length two ≤ 64 = omega (arith, tables.both_read.few, tables.both_read.more) in
    let read = c.in_ok-tables.ensures in
    answer-tables (keeps a.values.now) (IsAnswer a.k a.values.now) a.first.now a.second.now _ tables.first.now tables.second.now (ap (λ b. b.now) read.0) (ap (λ b. b.now) read.1) read.2 read.3
    (answer-yes (keeps a.values.now) (IsAnswer a.k a.values.now) one two _ c.in_ok-bounds.ensures.0 f.words.now f.bounds listed
    (answer-shown one two f.sides told f.words.now f.bounds listed few a.k (omega (arith, c.count_gaps.ensures, c.if-count_gaps-k.false)) c.gap_prints-prints.result c.gap_prints-prints.ensures
    a.values.now c.show_gap-shape.new.values c.show_gap-shape.result c.show_gap-shape.ensures))
