use Rattle.std.proofs.Common.{◌-◌, ◌∙◌, sym, ap, arith}
use Rattle.cases.specs.Laying.{Laid, text_laid}
use Rattle.cases.proofs.OneByOne.{no-signs, blank, sign-first}
use Rattle.cases.proofs.laying.lay_text.Goals as goal

pub loop-rest-preserved : goal.loop-rest-preserved
loop-rest-preserved c =
    let l = c.loop-rest in
    let rest = l.rest.now in
    let fuel = l.invariant.2 in
    let size = c.behind_sign.ensures in
    let laid = c.lay_sign-to.ensures in (
      omega (arith, laid.on, l.invariant.0),
      c.lay_sign-to.auto.room ∙ l.invariant.1,
      fuel - 1,
      omega (arith, size.lower_bound, l.invariant.3, c.split_at.ensures.back_len),
      rw c.split_at.ensures.back
          (sign-first fuel rest l.room l.to c.behind_sign.result _ _ (omega (arith, l.invariant.3, c.in-len1-up.len_at_least)) (omega arith)
          (sym c.is_blank.ensures ∙ c.if-is_blank.false) size.value
          (rw (← c.split_at.ensures.front) laid.next) (rw (← c.split_at.ensures.front) laid.laid)
          ∙ l.invariant.4),
    )

pub returns-in_default-clause-next : goal.returns-in_default-clause-next
unfolding text_laid
returns-in_default-clause-next c =
    let l = c.loop-rest in
    ap (λ (x : Laid). x.to) (sym (no-signs l.invariant.2 l.rest.now 0 l.room l.to (omega arith)) ∙ l.invariant.4)

pub returns-in_default-clause-laid : goal.returns-in_default-clause-laid
unfolding text_laid
returns-in_default-clause-laid c =
    let l = c.loop-rest in
    ap (λ (x : Laid). x.room) (sym (no-signs l.invariant.2 l.rest.now 0 l.room l.to (omega arith)) ∙ l.invariant.4)

pub returns-then-is_blank-clause-next : goal.returns-then-is_blank-clause-next
unfolding text_laid
returns-then-is_blank-clause-next c =
    let l = c.loop-rest in
    let here = sym c.is_blank.ensures ∙ c.if-is_blank.true in
    ap (λ (x : Laid). x.to) (sym (blank l.invariant.2 l.rest.now 0 l.room l.to (omega arith) here) ∙ l.invariant.4)

pub returns-then-is_blank-clause-laid : goal.returns-then-is_blank-clause-laid
unfolding text_laid
returns-then-is_blank-clause-laid c =
    let l = c.loop-rest in
    let here = sym c.is_blank.ensures ∙ c.if-is_blank.true in
    ap (λ (x : Laid). x.room) (sym (blank l.invariant.2 l.rest.now 0 l.room l.to (omega arith) here) ∙ l.invariant.4)
