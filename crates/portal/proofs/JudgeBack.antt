-- What the number that `stamenhum_judge` returns says: the judgement is read back from it.
use Prim.Native.Nat.{ℕ}
use mathlib.Core.Path.{◌≡◌, refl, sym, ◌∙◌, ap, ap₂}
use mathlib.Core.List.{List}
use mathlib.Core.Logic.{◌↔◌}
use native.Mathlib.Omega.{arith}
use Rattle.judging.specs.Requests.{Value}
use Rattle.judging.specs.Judging.{judgement, Judgement, Judgement as J}
use Rattle.portal.specs.Codes.{judgement_code}
use Rattle.portal.specs.Saying.{JudgeSays}
use Rattle.portal.proofs.Fitting.{JudgementFits, judgement-fits, gives_back}

module _ (table : List ℕ) (request : List Value) (r : ℕ) (returned : r ≡ judgement_code (judgement table request)) where
  -- the number says the judgement
  pub judge-read-back : JudgeSays table request r
  judge-read-back = by (judgement table request) refl (judgement-fits table request) returned
    where
      by : (answer : Judgement) → judgement table request ≡ answer → JudgementFits answer → r ≡ judgement_code answer → JudgeSays table request r
      by J.NotMentioned e fits code = JudgeSays.not_mentioned code e
      by J.Allowed e fits code = JudgeSays.allowed code e
      by J.DeniedByRule e fits code = JudgeSays.denied code e
      by (J.Refused number place) e fits code =
          let back = gives_back number 0 place r fits code in
          JudgeSays.refused back.high (e ∙ ap₂ J.Refused (sym back.number_same) (sym back.place_same)) back.some back.table_same

  -- 1 exactly for Allowed
  pub judge-allowed : (r ≡ 1) ↔ (judgement table request ≡ J.Allowed)
  judge-allowed = (by judge-read-back, λ e. returned ∙ ap judgement_code e)
    where
      by : JudgeSays table request r → r ≡ 1 → judgement table request ≡ J.Allowed
      by (JudgeSays.not_mentioned code e) one = absurd (omega arith)
      by (JudgeSays.allowed code e) one = e
      by (JudgeSays.denied code e) one = absurd (omega arith)
      by (JudgeSays.refused high e some none) one = absurd (omega arith)

  -- 2 exactly for DeniedByRule
  pub judge-denied : (r ≡ 2) ↔ (judgement table request ≡ J.DeniedByRule)
  judge-denied = (by judge-read-back, λ e. returned ∙ ap judgement_code e)
    where
      by : JudgeSays table request r → r ≡ 2 → judgement table request ≡ J.DeniedByRule
      by (JudgeSays.not_mentioned code e) two = absurd (omega arith)
      by (JudgeSays.allowed code e) two = absurd (omega arith)
      by (JudgeSays.denied code e) two = e
      by (JudgeSays.refused high e some none) two = absurd (omega arith)

  -- 0 exactly for NotMentioned
  pub judge-not-mentioned : (r ≡ 0) ↔ (judgement table request ≡ J.NotMentioned)
  judge-not-mentioned = (by judge-read-back, λ e. returned ∙ ap judgement_code e)
    where
      by : JudgeSays table request r → r ≡ 0 → judgement table request ≡ J.NotMentioned
      by (JudgeSays.not_mentioned code e) nil = e
      by (JudgeSays.allowed code e) nil = absurd (omega arith)
      by (JudgeSays.denied code e) nil = absurd (omega arith)
      by (JudgeSays.refused high e some none) nil = absurd (omega arith)
