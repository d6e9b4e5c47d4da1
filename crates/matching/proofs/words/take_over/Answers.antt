-- The carry of the sum runs through the stars that take over.
use Rattle.std.proofs.Common.{refl, arith}
use Rattle.matching.proofs.WordBits.{word_over}
use Rattle.matching.proofs.words.take_over.Goals as goal

pub returns : goal.returns
returns c =
    let a = c.args in
    word_over a.base a.stars a.before c.moved_up-moved.result _ (omega arith) (omega arith)
    c.moved_up-moved.ensures refl
