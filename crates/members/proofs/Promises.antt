-- What is promised of a document's faults, in statements that can be read without their proofs. What the reader answers is in `policy`'s
-- promises.
use Rattle.std.proofs.Common.{ℕ, ◌≡◌, refl, sym, ◌∙◌, ap, List, arith}
use Rattle.members.specs.Faults.{MemberFault, Decides}
use Rattle.members.specs.Answers.{Checked}
use Rattle.members.specs.Answers.{Checked as C}

-- The faults decide one answer.
pub one-decision : (size : ℕ) (fs : List MemberFault) (a b : Checked) → Decides size fs a → Decides size fs b → a ≡ b
one-decision size fs C.Sound C.Sound p q = refl
one-decision size fs C.Sound (C.Refused k n) p q = absurd (cc (p, q.both))
one-decision size fs (C.Refused k n) C.Sound p q = absurd (cc (p.both, q))
one-decision size fs (C.Refused k n) (C.Refused l m) p q =
    let same : p.fault ≡ q.fault = cc in
    let numbers : k ≡ l = sym p.its_number ∙ ap (λ (f : MemberFault). f.number) same ∙ q.its_number in
    let places : n ≡ m = omega (arith, ap (λ (f : MemberFault). f.left) same) in
    rw (numbers, places)
