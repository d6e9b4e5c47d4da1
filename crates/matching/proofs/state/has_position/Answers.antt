-- Below 512 this is the definition; above, the row has no word, and an absent word has no bit.
use Rattle.std.proofs.Common.{ℕ, ◌/◌, ◌%◌, ◌^◌, ◌≤◌, eqb, length, sym, refl, ap, ◌∙◌, arith, le-ltb}
use Rattle.std.proofs.Math.Nat.{zero-div}
use Rattle.std.proofs.Math.ListN.{get_or-eq_default}
use Rattle.matching.specs.Machinery.Rows.{row_bit, word_bit}
use Rattle.matching.proofs.state.has_position.Goals as goal

pub returns-then-p-lt-POSITIONS : goal.returns-then-p-lt-POSITIONS
unfolding row_bit
returns-then-p-lt-POSITIONS c = refl

pub returns-else-p-lt-POSITIONS : goal.returns-else-p-lt-POSITIONS
unfolding row_bit
returns-else-p-lt-POSITIONS c =
    let a = c.args in
    let past : length a.row ≤ a.p / 64 = omega (arith, c.well_formed.0.1.0.1, c.if-p-lt-POSITIONS.false) in
    le-ltb a.p 512 c.if-p-lt-POSITIONS.false
    ∙ sym (ap (λ (n : ℕ). word_bit n (a.p % 64)) (get_or-eq_default a.row 0 past) ∙ ap (λ (n : ℕ). eqb (n % 2) 1) (zero-div (2 ^ (a.p % 64))))
