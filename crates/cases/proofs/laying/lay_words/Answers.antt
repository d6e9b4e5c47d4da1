use Rattle.std.proofs.Common.{◌-◌, ◌<◌, ◌≤◌, length, ◌∙◌, sym, ap, arith}
use Rattle.std.proofs.lemmas.Grind.{common_steps}
use Rattle.cases.specs.Laying.{Laid, words_laid}
use Rattle.cases.proofs.OneByOne.{no_words, word_first}
use Rattle.cases.proofs.laying.lay_words.Goals as goal

pub loop-rest-preserved : goal.loop-rest-preserved
loop-rest-preserved c =
    let l = c.loop-rest in
    let rest = l.rest.now in
    let fuel = l.invariant.1 in
    let size = c.behind_next.ensures in
    let laid = c.lay_word-size.ensures in
    let more : 0 < length rest = omega arith in (
      c.lay_word-size.auto.room ∙ l.invariant.0,
      fuel - 1,
      omega (arith, size.lower_bound, l.invariant.2, c.split_at.ensures.back_len),
      rw c.split_at.ensures.back
          (word_first fuel rest l.room l.size c.behind_next.result _ _ (omega (arith, l.invariant.2, more)) more size.value
          (rw (← c.split_at.ensures.front) laid.next) (rw (← c.split_at.ensures.front) laid.laid)
          ∙ l.invariant.3),
    )

pub returns-clause-next : goal.returns-clause-next
unfolding words_laid
returns-clause-next c =
    let l = c.loop-rest in
    let none : length l.rest.now ≤ 0 = grind (arith, common_steps, c.is_empty.ensures, c.loop-rest-test.false) in
    ap (λ (x : Laid). x.to) (sym (no_words l.invariant.1 l.rest.now 0 l.room l.size none) ∙ l.invariant.3)

pub returns-clause-laid : goal.returns-clause-laid
unfolding words_laid
returns-clause-laid c =
    let l = c.loop-rest in
    let none : length l.rest.now ≤ 0 = grind (arith, common_steps, c.is_empty.ensures, c.loop-rest-test.false) in
    ap (λ (x : Laid). x.room) (sym (no_words l.invariant.1 l.rest.now 0 l.room l.size none) ∙ l.invariant.3)
