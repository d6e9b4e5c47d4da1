use Rattle.std.proofs.Common.{ℕ, ◌+◌, List, ap, ◌∙◌, sym, subst, ltb, arith, le-ltb}
use Rattle.states.specs.Machinery.Taken.{Marks, marked_at}
use Rattle.states.proofs.MarkedBytes.{marks-none, marks-next}
use Rattle.states.proofs.taken.mark_all.Goals as goal

pub loop-b-init : goal.loop-b-init
loop-b-init c =
    let a = c.args in
    marks-none a.words.now a.p (λ x. ltb x 0x21) (λ x byte. le-ltb x 0x21 byte.0)

pub loop-b-preserved : goal.loop-b-preserved
loop-b-preserved c =
    let a = c.args in
    let l = c.loop-b in
    subst (λ (w : List ℕ). Marks a.words.now w a.p (λ x. ltb x (l.b + 1))) (sym (c.mark_at.ensures ∙ ap (λ (x : ℕ). marked_at l.words (607 + x) a.p) c.from.ensures))
    (marks-next a.words.now l.words a.p l.b c.requires.0 (omega (arith, l.auto.words, c.requires.1)) (omega arith, omega arith) l.invariant)
