-- Each of the two words is turned.
use Rattle.std.proofs.Common.{◌-◌, ◌∙◌, ap, arith, get_or, not}
use Rattle.matching.specs.Machinery.Rows.{row_bit}
use Rattle.states.proofs.BitsOfWords.{bit_not}
use Rattle.states.proofs.ByteSets.{two-words, low_bit, high_bit}
use Rattle.states.proofs.bytes.ByteSetNot.not.Goals as goal

pub returns : goal.returns
returns c =
    let row = c.args.self.words in
    two-words (18446744073709551615 - get_or row 0 0) (18446744073709551615 - get_or row 1 0) (λ x. not (row_bit row x))
    (λ k low. bit_not 64 k (get_or row 0 0) (omega arith) low ∙ ap not (low_bit row k low))
    (λ k low. bit_not 64 k (get_or row 1 0) (omega arith) low ∙ ap not (high_bit row k low))
