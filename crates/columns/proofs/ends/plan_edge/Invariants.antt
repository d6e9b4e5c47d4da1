-- The loop's invariant: the lesser of the least end so far and that of the words left is that of all words.
use Rattle.std.proofs.Common.{◌≡◌, ◌^◌, ◌≤◌, min, drop}
use Rattle.columns.specs.Machinery.Plan.{edge_in}
use Rattle.columns.proofs.ends.plan_edge.Given as goal

abbrev pub invariant-loop-word : goal.invariant-loop-word
invariant-loop-word l = (l.least ≤ 2 ^ 32) × (min l.least (edge_in (drop l.word-index l.plan) l.x) ≡ edge_in l.plan l.x)
