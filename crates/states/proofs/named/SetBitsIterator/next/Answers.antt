-- The lowest bit of what is left goes, and it alone.
use Rattle.std.proofs.Common.{ℕ, ◌+◌, ◌-◌, ◌≡◌, arith, bit_and, count_ones}
use Rattle.std.proofs.lemmas.Nat.{and_le_r}
use Rattle.matching.specs.Machinery.Rows.{word_bit}
use Rattle.states.specs.Machinery.Bytes.{Lowest, Without}
use Rattle.states.proofs.BitsOfWords.{has-bit, lowest-goes, one-fewer}
use Rattle.states.proofs.named.SetBitsIterator.next.Goals as goal

goes : (n k : ℕ) → Lowest (word_bit n) 0 64 k → Without n k (bit_and n (n - 1))
goes n k found j few = lowest-goes n k (λ i low. found.between i (omega arith) low) found.here j

fewer : (n k : ℕ) → Lowest (word_bit n) 0 64 k → count_ones (bit_and n (n - 1)) + 1 ≡ count_ones n
fewer n k found = one-fewer n k (λ i low. found.between i (omega arith) low) found.here

pub returns-clause-steps : goal.returns-clause-steps
returns-clause-steps c =
    let n = c.args.self.now.left in
    let k = c.in_ok-k.k in
    let found = c.in_ok-k.ensures in
    (found, (goes n k found, omega (arith, and_le_r n (n - 1), has-bit n k found.here), fewer n k found))

pub returns-clause-goes : goal.returns-clause-goes
returns-clause-goes c = omega (arith, fewer c.args.self.now.left c.in_ok-k.k c.in_ok-k.ensures)
