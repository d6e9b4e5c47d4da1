-- A shift by one and an `or` with the topmost bit of the word before move the bits up.
use Rattle.std.proofs.Common.{arith}
use Rattle.matching.proofs.WordBits.{word_moved}
use Rattle.matching.proofs.words.moved_up.Goals as goal

pub returns : goal.returns
returns c = word_moved c.args.word c.args.before (omega arith) (omega arith)
