-- What is left are the word's bits from one on, and the bytes of the others are named: that is the invariant.
use Rattle.states.proofs.NamedBytes.{LeftOf, NamesBut}
use Rattle.states.proofs.named.name_word.Given as goal

abbrev pub invariant-loop-k : goal.invariant-loop-k
invariant-loop-k l = LeftOf l.word l.k-iterator.left × NamesBut l.words l.from l.word l.k-iterator.left l.initial.all.words l.all.words
