-- The row so far has the positions below p that stand behind a star; there are none outside the codes.
use Rattle.std.proofs.Common.{◌≡◌}
use Rattle.matching.specs.Machinery.Rows.{pack}
use Rattle.matching.specs.Machinery.Words.{star_bit}
use Rattle.matching.proofs.Rows.{upto}
use Rattle.matching.proofs.words.stars_of.Given as goal

abbrev pub invariant-loop-p : goal.invariant-loop-p
invariant-loop-p l = l.row ≡ pack 8 (upto l.p (star_bit l.codes))
