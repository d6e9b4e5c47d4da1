-- All steps from the rows before the one at hand were tried: that is the invariant. The loop ends when the row at hand is behind the last.
use Rattle.std.proofs.Common.{◌-◌, ◌*◌, ◌≤◌, ◌≡◌, length, drop}
use Rattle.states.specs.Machinery.Rows.{codes_at, codes_laid}
use Rattle.states.specs.Machinery.Search.{Partial, Untouched}
use Rattle.states.proofs.explore.explore.Given as goal

abbrev pub invariant-loop-row : goal.invariant-loop-row
invariant-loop-row l =
    (l.row ≤ l.n) × (length l.words ≡ length l.initial.words) × (drop codes_at l.words ≡ drop codes_at l.initial.words) × Partial (codes_laid l.positions l.initial.words) l.words l.n (l.row * 128)
    × Untouched l.initial.words l.words l.n

abbrev pub decreases-loop-row : goal.decreases-loop-row
decreases-loop-row l = 512 - l.row
