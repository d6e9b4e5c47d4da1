-- From the last column down: the rows of the columns from one on are those of the columns behind it that its own have too.
use Rattle.comparing.specs.Machinery.Kinds.{prints_in, meet_of}
use Rattle.comparing.proofs.kinds.Settling.{RightFrom}
use Rattle.comparing.proofs.kinds.meets_of.Given as goal

abbrev pub invariant-loop-column : goal.invariant-loop-column
invariant-loop-column l = RightFrom (λ c. meet_of (prints_in l.words l.bounds c)) l.meets l.column
