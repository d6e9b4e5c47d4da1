-- The row so far has the positions behind those of the words before i, and the word before brings the bit in front of it.
use Rattle.std.proofs.Common.{◌≡◌, ℕ, ◌*◌, ◌≤◌, Bool, false, List}
use Rattle.matching.specs.Machinery.Rows.{word_bit, row_bit, pack}
use Rattle.matching.specs.Machinery.Words.{moved_up}
use Rattle.matching.proofs.Rows.{upto}
use Rattle.matching.proofs.words.ahead_of.Given as goal

abbrev pub behind : List ℕ → ℕ → Bool
behind row = moved_up (row_bit row) false

abbrev pub invariant-loop-i : goal.invariant-loop-i
invariant-loop-i l =
    (l.i ≤ 8) × (l.ahead ≡ pack 8 (upto (64 * l.i) (behind l.fn.row))) × (word_bit l.before 63 ≡ behind l.fn.row (64 * l.i))
