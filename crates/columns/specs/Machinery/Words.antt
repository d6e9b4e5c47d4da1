-- The words of a plan as numbers: 1 a statement begins, 2 a list of the column opens, 3 a negated one does; from 4 on what stands in a list.
use Rattle.std.specs.Prelude.{ℕ, ◌+◌, ◌-◌, eqb, ltb}
use Rattle.stored.specs.Choice.{pick}
use Rattle.columns.specs.declared.words.Word.{Word}
use Rattle.columns.specs.declared.words.Word.TheVariants as W

abbrev pub number_of : Word → ℕ
number_of W.Statement = 1
number_of W.List = 2
number_of W.NegatedList = 3
number_of (W.Content n) = 4 + n

abbrev pub word_of : ℕ → Word
word_of n = pick (ltb n 4) (pick (eqb n 1) W.Statement (pick (eqb n 3) W.NegatedList W.List)) (W.Content (n - 4))
