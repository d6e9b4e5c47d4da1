-- The bytes filled are those that have room.
use Rattle.std.proofs.Common.{◌≡◌, ℕ, ◌∙◌, length, replicate, sym, ap, arith, rules, take, drop, length-drop, length-take-le}
use Rattle.std.proofs.Math.Nat.{add-sub_cancel_left}
use Rattle.std.proofs.Math.Seq.{drop-drop}
use Rattle.cases.specs.Laying.{Laid}
use Rattle.cases.proofs.OneByOne.{filled}
use Rattle.cases.proofs.laying.lay_byte.Goals as goal

pub returns-then-from-end-clause-next : goal.returns-then-from-end-clause-next
returns-then-from-end-clause-next c =
    let few = rw c.saturating_sub.ensures at c.min.ensures in
    sym (ap (λ (x : Laid). x.to) (filled c.args.times c.args.byte c.args.room.now c.args.from c.min.result few))

pub returns-then-from-end-clause-laid : goal.returns-then-from-end-clause-laid
returns-then-from-end-clause-laid c =
    let a = c.args in
    let n = c.min.result in
    let few = rw c.saturating_sub.ensures at c.min.ensures in
    let long : length (take n (drop a.from a.room.now)) ≡ n = length-take-le n (drop a.from a.room.now) (omega (arith, length-drop a.from a.room.now)) in
    let same : c.fill.new.self ≡ replicate n a.byte
    = c.fill.ensures.after (λ y e. search rules) ∙ ap (λ (k : ℕ). replicate k a.byte) (rw (add-sub_cancel_left) long) in
    rw (add-sub_cancel_left, same, drop-drop n a.from a.room.now)
    (sym (ap (λ (x : Laid). x.room) (filled a.times a.byte a.room.now a.from n few)))
