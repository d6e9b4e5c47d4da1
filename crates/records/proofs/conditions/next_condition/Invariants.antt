-- The invariant: the wishes from the place at hand are those from the beginning of the walk; none was passed over.
use Rattle.std.proofs.Common.{◌≡◌, ◌-◌, List, length}
use Rattle.json_text.specs.Machinery.Marks.{tokens_at}
use Rattle.records.specs.Wishes.{Wish}
use Rattle.records.specs.Machinery.Streams.{conditions_from}
use Rattle.records.specs.Machinery.Cursors.{spot_of}
use Rattle.records.proofs.conditions.next_condition.Given as goal

abbrev pub invariant-loop-token : goal.invariant-loop-token
invariant-loop-token l =
    (behind : List Wish) → conditions_from behind (tokens_at l.text l.initial.here) (spot_of l.text l.initial.spot) ≡ conditions_from behind (tokens_at l.text l.here) (spot_of l.text l.spot)

abbrev pub decreases-loop-token : goal.decreases-loop-token
decreases-loop-token l = length l.text - l.here.at
