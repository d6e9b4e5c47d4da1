use Rattle.std.proofs.Common.{ℕ, ◌-◌, ◌≡◌, sym, ◌∙◌, ap, ◌++◌, arith}
use Rattle.judging.specs.Judging.{rows_of}
use Rattle.comparing.specs.Columns.{is_wide}
use Rattle.comparing.specs.Compared.{lowest}
use Rattle.comparing.proofs.compare.Narrowing.{lowest-here, lowest-on}
use Rattle.comparing.proofs.compare.first_wide.Goals as goal

pub returns-then-is_wide : goal.returns-then-is_wide
returns-then-is_wide c =
    let a = c.args in
    let l = c.loop-column in
    let here =
    sym (lowest-here (is_wide (rows_of a.tables.first.now ++ rows_of a.tables.second.now)) l.column (omega arith) (sym c.is_wide.ensures ∙ c.if-is_wide.true))
    ∙ l.invariant in
    (here, omega (arith, here))

pub loop-column-preserved : goal.loop-column-preserved
loop-column-preserved c =
    let a = c.args in
    let l = c.loop-column in
    sym (lowest-on (is_wide (rows_of a.tables.first.now ++ rows_of a.tables.second.now)) l.column (omega arith) (sym c.is_wide.ensures ∙ c.if-is_wide.false))
    ∙ l.invariant

pub returns : goal.returns
returns c =
    let a = c.args in
    let l = c.loop-column in
    let all : l.column ≡ 8 = omega arith in
    let none =
    sym (ap (λ (k : ℕ). lowest (is_wide (rows_of a.tables.first.now ++ rows_of a.tables.second.now)) k (8 - k)) all) ∙ l.invariant in
    omega (arith, none)
