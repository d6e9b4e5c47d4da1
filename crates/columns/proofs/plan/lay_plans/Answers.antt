-- The second table's plan goes behind the first's, and there is room for both.
use Rattle.std.proofs.Common.{ℕ, sym, ap, ◌∙◌, subst, List}
use lib.Seq.{sets}
use Rattle.stored.specs.Entries.{entries_of}
use Rattle.columns.specs.Machinery.Plan.{plan_of, LaysPlans}
use Rattle.columns.proofs.PlansLaid.{plans-laid}
use Rattle.columns.proofs.plan.lay_plans.Goals as goal

pub returns : goal.returns
returns c =
    let a = c.args in
    let is = c.lay_plan-end.ensures.laid ∙ ap (λ (l : List ℕ). sets l c.lay_plan-middle.result (plan_of a.column a.strings a.from (entries_of a.second.now))) c.lay_plan-middle.ensures.laid in
    subst
    (λ (l : List ℕ). LaysPlans a.first.now a.second.now a.column a.strings a.from a.words.now l (record { middle = c.lay_plan-middle.result; end = c.lay_plan-end.result }))
    (sym is)
    (plans-laid a.first.now a.second.now a.column a.strings a.from c.requires.0 a.words.now c.lay_plan-middle.result c.lay_plan-end.result c.requires.2 c.lay_plan-middle.ensures.next c.lay_plan-end.ensures.next)
