use Rattle.std.proofs.Common.{ℕ, ◌+◌, List, refl, ap, sym, ◌∙◌, subst, arith}
use Rattle.states.specs.declared.bytes.ByteSet.{ByteSet}
use Rattle.states.specs.declared.bytes.Bytes.{Bytes}
use Rattle.states.specs.Machinery.Taken.{Marks, marked_at}
use Rattle.states.proofs.MarkedBytes.{below_in, marks_begin, marks_skip, marks_more}
use Rattle.states.proofs.taken.mark_code.Goals as goal

pub loop-b-init : goal.loop-b-init
loop-b-init c =
    let a = c.args in
    let first = ap (λ (s : Bytes). s.from) c.into_iter-b-iterator.ensures.into_iter_gives ∙ c.bytes-b-items.ensures.from in
    record {
      set = refl;
      low = omega arith;
      marks = marks_begin a.words.now a.p c.into_iter-b-iterator.result.set.words c.into_iter-b-iterator.result.from (omega arith);
    }

pub loop-b-preserved : goal.loop-b-preserved
loop-b-preserved c =
    let a = c.args in
    let l = c.loop-b in
    let set = l.b-iterator.set.words in
    let b = c.in-Some.b in
    let next = c.in-Some.ensures.steps in
    let up = next.0.low in
    let high = next.0.high in
    let skipped = marks_skip a.words.now l.words a.p set l.b-iterator.from l.invariant.marks b up next.0.between in
    let marked = marks_more a.words.now l.words a.p set b skipped high (omega (arith, l.invariant.low)) c.requires.0 (omega (arith, c.requires.1, l.auto.words)) next.0.here in
    record {
      set = next.1 ∙ l.invariant.set;
      low = omega (arith, next.2, l.invariant.low);
      marks =
          subst (λ (from : ℕ). Marks a.words.now c.mark_at.new.words a.p (below_in c.next.new.self.set.words from)) (sym next.2)
          (subst (λ (s : ByteSet). Marks a.words.now c.mark_at.new.words a.p (below_in s.words (b + 1))) (sym next.1)
          (subst (λ (w : List ℕ). Marks a.words.now w a.p (below_in set (b + 1))) (sym (c.mark_at.ensures ∙ ap (λ (x : ℕ). marked_at l.words (607 + x) a.p) c.from.ensures)) marked));
    }
