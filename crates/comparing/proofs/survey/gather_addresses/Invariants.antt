-- What was found up to the address at hand is in the workspace, and the rest of the way leads to the first values of column 7: that is the
-- invariant.
use Rattle.std.proofs.Common.{◌+◌, ◌-◌, ◌^◌, ◌≤◌, ◌≡◌, length, take}
use Rattle.judging.specs.Judging.{rows_of}
use Rattle.states.specs.Machinery.Rows.{prints_at}
use Rattle.comparing.proofs.survey.AddressesUpto.{AddressesUpto}
use Rattle.comparing.proofs.survey.gather_addresses.Given as goal

abbrev pub invariant-loop-x : goal.invariant-loop-x
invariant-loop-x l =
    (l.x ≤ 2 ^ 32) × (l.from ≤ l.to) × (length l.words ≡ length l.initial.words) × (take (prints_at + l.from) l.words ≡ take (prints_at + l.from) l.initial.words)
    × AddressesUpto (rows_of l.tables.first.now) (rows_of l.tables.second.now) l.words l.from l.to l.x

abbrev pub decreases-loop-x : goal.decreases-loop-x
decreases-loop-x l = 2 ^ 32 - l.x
