-- All bytes before the index stand in the text, so those from it on decide: that is the invariant.
use Rattle.std.proofs.Common.{◌≡◌, drop}
use Rattle.cases.specs.Text.{stand_at}
use Rattle.cases.proofs.text.begins_with.Given as goal

abbrev pub invariant-loop-at : goal.invariant-loop-at
invariant-loop-at l = stand_at l.text l.at (drop l.at l.bytes) ≡ stand_at l.text 0 l.bytes
