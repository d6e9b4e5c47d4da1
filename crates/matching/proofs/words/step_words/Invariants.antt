-- The row so far is the step below word i, and the words before it bring the bits in front of it.
use Rattle.std.proofs.Common.{◌≡◌, ℕ, ◌*◌, ◌≤◌, Bool, false, List}
use Rattle.matching.specs.Machinery.Rows.{word_bit, row_bit, pack}
use Rattle.matching.specs.Machinery.Words.{set_step, moved_up}
use Rattle.matching.proofs.Rows.{upto}
use Rattle.matching.proofs.words.step_words.Given as goal

abbrev pub step_of : List ℕ → List ℕ → List ℕ → ℕ → Bool
step_of taken stars row = set_step (row_bit taken) (row_bit stars) (row_bit row)

abbrev pub invariant-loop-i : goal.invariant-loop-i
invariant-loop-i l =
    (l.i ≤ l.used)
    × (l.next ≡ pack 8 (upto (64 * l.i) (step_of l.taken l.stars l.row)))
    × (word_bit l.old_before 63 ≡ moved_up (row_bit l.row) false (64 * l.i))
    × (word_bit l.new_before 63 ≡ moved_up (step_of l.taken l.stars l.row) false (64 * l.i))
