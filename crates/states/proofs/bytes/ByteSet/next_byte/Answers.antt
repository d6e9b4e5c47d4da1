-- By the first word from the byte on, then by the second.
use Rattle.std.proofs.Common.{ℕ, ◌∙◌, sym, subst, arith, get_or, None}
use Rattle.matching.specs.Machinery.Rows.{word_bit}
use Rattle.states.specs.Machinery.Bytes.{Lowest, NextBit, NextByte}
use Rattle.states.proofs.ByteSets.{next_low, next_high, next-last, next-none}
use Rattle.states.proofs.bytes.ByteSet.next_byte.Goals as goal

pub returns-in-Some : goal.returns-in-Some
returns-in-Some c =
    let row = c.args.self.words in
    next_low row c.args.from c.in-Some.bit (subst (λ (from : ℕ). Lowest (word_bit (get_or row 0 0)) from 64 c.in-Some.bit) c.from.ensures c.in-Some.ensures)

pub returns-in_err-bit : goal.returns-in_err-bit
returns-in_err-bit c =
    let row = c.args.self.words in
    let none = subst (λ (from : ℕ). NextBit (get_or row 0 0) from None) c.from.ensures c.in_default.ensures in
    subst (NextByte row c.args.from) (sym c.from_residual.ensures)
    (next-none row c.args.from none (subst (λ (from : ℕ). NextBit (get_or row 1 0) from None) (c.from-2.ensures ∙ c.saturating_sub.ensures) c.in_err-bit.ensures))

pub returns-then-b-le-LAST_BYTE : goal.returns-then-b-le-LAST_BYTE
returns-then-b-le-LAST_BYTE c =
    let row = c.args.self.words in
    let none = subst (λ (from : ℕ). NextBit (get_or row 0 0) from None) c.from.ensures c.in_default.ensures in
    next_high row c.args.from none c.in_ok-bit.bit
    (subst (λ (from : ℕ). Lowest (word_bit (get_or row 1 0)) from 64 c.in_ok-bit.bit) (c.from-2.ensures ∙ c.saturating_sub.ensures) c.in_ok-bit.ensures)
    (omega arith)

pub returns-else-b-le-LAST_BYTE : goal.returns-else-b-le-LAST_BYTE
returns-else-b-le-LAST_BYTE c =
    let row = c.args.self.words in
    let none = subst (λ (from : ℕ). NextBit (get_or row 0 0) from None) c.from.ensures c.in_default.ensures in
    next-last row c.args.from none c.in_ok-bit.bit
    (subst (λ (from : ℕ). Lowest (word_bit (get_or row 1 0)) from 64 c.in_ok-bit.bit) (c.from-2.ensures ∙ c.saturating_sub.ensures) c.in_ok-bit.ensures)
    (omega arith)
