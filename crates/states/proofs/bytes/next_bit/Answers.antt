-- The zeros below the lowest bit of what is left of the word are counted.
use Rattle.std.proofs.Common.{ℕ, ◌+◌, ◌/◌, ◌^◌, ◌<◌, sym, ◌∙◌, subst, arith}
use lib.Count.{count_trailing_zeros}
use Rattle.matching.specs.Machinery.Rows.{word_bit}
use Rattle.states.specs.Machinery.Bytes.{Lowest}
use Rattle.states.proofs.BitsOfWords.{left-none}
use Rattle.states.proofs.ByteSets.{next-some}
use Rattle.states.proofs.bytes.next_bit.Goals as goal

pub returns-then-left-eq0 : goal.returns-then-left-eq0
returns-then-left-eq0 c = λ k from few. left-none c.args.word c.args.from (sym c.in_ok-left.ensures.1 ∙ c.if-left-eq0.true) k from

pub returns-else-left-eq0 : goal.returns-else-left-eq0
returns-else-left-eq0 c =
    let a = c.args in
    let some : 0 < a.word / 2 ^ a.from = omega (arith, c.in_ok-left.ensures.1, c.if-left-eq0.false) in
    subst (λ (left : ℕ). Lowest (word_bit a.word) a.from 64 (a.from + count_trailing_zeros 64 left)) (sym c.in_ok-left.ensures.1)
    (next-some a.word a.from (omega arith) c.in_ok-left.ensures.0 some)
