-- The store is the definition: the bit that is set fits a word.
use Rattle.std.proofs.Common.{◌≡◌, ℕ, ◌*◌, ◌/◌, ◌%◌, ◌^◌, get_or, set, sym, ap, ◌∙◌, mod-eq_of_lt, one-mul, arith}
use Rattle.std.specs.Int.Bits.{bit_or}
use Rattle.std.proofs.Math.Pow.{pow-lt}
use Rattle.matching.specs.Machinery.Rows.{mark_row}
use Rattle.matching.proofs.state.mark_in.Goals as goal

pub returns-then-reached : goal.returns-then-reached
unfolding mark_row
returns-then-reached c =
    let a = c.args in
    let fits : 1 * 2 ^ (a.p % 64) % 2 ^ 64 ≡ 2 ^ (a.p % 64) = ap (λ (n : ℕ). n % 2 ^ 64) (one-mul (2 ^ (a.p % 64))) ∙ mod-eq_of_lt (pow-lt {i = a.p % 64} {j = 64} (omega arith)) in
    ap (λ (n : ℕ). set a.row.now (a.p / 64) (bit_or (get_or a.row.now (a.p / 64) 0) n)) fits
    ∙ ap (mark_row a.row.now a.p) (sym c.if-reached.true)

pub returns-else-reached : goal.returns-else-reached
unfolding mark_row
returns-else-reached c = ap (mark_row c.args.row.now c.args.p) (sym c.if-reached.false)
