-- The bit of the byte is set in its word; a number over 127 is no byte.
use Rattle.std.proofs.Common.{◌≡◌, ℕ, ◌*◌, ◌%◌, ◌^◌, ◌∷◌, [], sym, ap, ◌∙◌, subst, arith, get_or, eqb, one-mul, mod-eq_of_lt}
use lib.Bits.{bit_or}
use lib.Pow.{pow-lt}
use Rattle.states.specs.Machinery.Bytes.{Adds}
use Rattle.states.proofs.ByteSets.{adds-low, adds-high}
use Rattle.states.proofs.bytes.ByteSet.with.Goals as goal

-- the word of a bit
fits : (k : ℕ) → 1 * 2 ^ (k % 64) % 2 ^ 64 ≡ 2 ^ (k % 64)
fits k = ap (λ (n : ℕ). n % 2 ^ 64) (one-mul (2 ^ (k % 64))) ∙ mod-eq_of_lt (pow-lt {i = k % 64} {j = 64} (omega arith))

pub returns-then-b-lt64 : goal.returns-then-b-lt64
returns-then-b-lt64 c =
    let row = c.args.self.words in
    let b = c.args.b in
    subst (λ (n : ℕ). Adds row (λ x. eqb x b) (bit_or (get_or row 0 0) n ∷ get_or row 1 0 ∷ [])) (sym (fits b)) (adds-low row b (omega arith))

pub returns-then-b-lt128 : goal.returns-then-b-lt128
returns-then-b-lt128 c =
    let row = c.args.self.words in
    let b = c.args.b in
    subst (λ (n : ℕ). Adds row (λ x. eqb x b) (get_or row 0 0 ∷ bit_or (get_or row 1 0) n ∷ [])) (sym (fits b)) (adds-high row b (omega arith) (omega arith))
