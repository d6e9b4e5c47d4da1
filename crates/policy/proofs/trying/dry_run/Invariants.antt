-- The invariant: what the wishes left lead to from the state at hand is what all lead to from the fresh one.
use Rattle.std.proofs.Common.{◌≡◌, ◌≤◌}
use Rattle.records.specs.Machinery.WishesLeft.{looked_at, wishes_ahead}
use Rattle.policy.specs.Machinery.Runs.{dried_from, dried_of}
use Rattle.policy.proofs.trying.dry_run.Given as goal

abbrev pub invariant-loop-wished : goal.invariant-loop-wished
invariant-loop-wished l =
    (l.size ≤ 16385) × (looked_at l.wished-iterator ≡ l.text) × (dried_from l.text (wishes_ahead l.wished-iterator) l.state l.size ≡ dried_of l.text)
