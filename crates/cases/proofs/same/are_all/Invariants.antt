-- All elements before the index are this one, so those from it on decide: that is the invariant.
use Rattle.std.proofs.Common.{◌≡◌, drop}
use Rattle.cases.specs.Text.{all_equal}
use Rattle.cases.proofs.same.are_all.Given as goal

abbrev pub invariant-loop-item : goal.invariant-loop-item
invariant-loop-item g l = all_equal g.T.PartialEq.eq l.one (drop l.item-index l.items) ≡ all_equal g.T.PartialEq.eq l.one l.items
