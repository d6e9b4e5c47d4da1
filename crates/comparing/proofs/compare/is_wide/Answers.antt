-- The sums of both tables together are those of the rows of both.
use Rattle.std.proofs.Common.{ℕ, ◌+◌, ◌∙◌, ap₂, ltb}
use Rattle.judging.specs.Judging.{rows_of}
use Rattle.comparing.proofs.compare.Narrowing.{wide-strings, wide-networks}
use Rattle.comparing.proofs.compare.is_wide.Goals as goal

pub returns-then-column-lt-ADDRESSES : goal.returns-then-column-lt-ADDRESSES
returns-then-column-lt-ADDRESSES c =
    let a = c.args in
    c.is_over.ensures
    ∙ ap₂ (λ (x y : ℕ). ltb 512 (x + y)) c.positions_in.ensures c.positions_in-then-column-lt-ADDRESSES.ensures
    ∙ wide-strings (rows_of a.tables.first.now) (rows_of a.tables.second.now) a.column c.if-column-lt-ADDRESSES.true

pub returns-else-column-lt-ADDRESSES : goal.returns-else-column-lt-ADDRESSES
returns-else-column-lt-ADDRESSES c =
    let a = c.args in
    c.is_over-else-column-lt-ADDRESSES.ensures
    ∙ ap₂ (λ (x y : ℕ). ltb 128 (x + y)) c.networks_in.ensures c.networks_in-else-column-lt-ADDRESSES.ensures
    ∙ wide-networks (rows_of a.tables.first.now) (rows_of a.tables.second.now) a.column c.if-column-lt-ADDRESSES.false
