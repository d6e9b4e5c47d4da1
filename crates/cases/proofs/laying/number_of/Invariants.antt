-- What is left of the word continues the number at hand to the whole number: that is the invariant.
use Rattle.std.proofs.Common.{◌≡◌, drop}
use Rattle.cases.specs.Laying.{number_of}
use Rattle.cases.proofs.laying.number_of.Given as goal

abbrev pub invariant-loop-byte : goal.invariant-loop-byte
invariant-loop-byte l = number_of (drop l.byte-index l.word) l.number ≡ number_of l.word 0
