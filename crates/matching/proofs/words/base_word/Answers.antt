-- The operations are those of the rule, bit by bit.
use Rattle.std.proofs.Common.{arith}
use Rattle.matching.proofs.WordBits.{word-base}
use Rattle.matching.proofs.words.base_word.Goals as goal

pub returns : goal.returns
returns c =
    let a = c.args in
    word-base a.taken a.stars a.old a.before c.moved_up-moved.result (omega arith) (omega arith) (omega arith) c.moved_up-moved.ensures
