-- From the last column down: the kinds of the columns from one on are its footprints times the kinds of the columns behind it.
use Rattle.comparing.proofs.kinds.Settling.{RightFrom, kinds_on}
use Rattle.comparing.proofs.kinds.kinds_of.Given as goal

abbrev pub invariant-loop-column : goal.invariant-loop-column
invariant-loop-column l = RightFrom (kinds_on l.bounds) l.kinds l.column
