-- The verdict by sets of rows.
use Rattle.std.specs.Prelude.{ℕ, eqb}
use Rattle.std.specs.Int.Bits.{bit_and}
use Rattle.stored.specs.Choice.{pick}
use Rattle.judging.specs.Judging.{Judgement as J, Judgement}

-- the verdict by sets of rows: all that apply allow, and there are some; none applies; else some deny applies
abbrev pub verdict_of_rows : ℕ → ℕ → Judgement
verdict_of_rows rows allow = pick (eqb (bit_and rows allow) rows) (pick (eqb rows 0) J.NotMentioned J.Allowed) J.DeniedByRule
