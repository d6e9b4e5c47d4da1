-- The lesser of the next edges of both tables, each read off its plan.
use Rattle.std.proofs.Common.{ℕ, List, min, sym, ap, ap₂, ◌∙◌}
use Rattle.stored.specs.Entries.{entries_of}
use Rattle.judging.specs.Judging.{rows_of}
use Rattle.columns.specs.Values.{networks_in}
use Rattle.columns.specs.Machinery.Plan.{edge_in}
use Rattle.columns.specs.Machinery.Edges.{next_edge}
use Rattle.columns.proofs.Edges.{edge-append}
use Rattle.columns.proofs.PlanNetworks.{plan-edge}
use Rattle.columns.proofs.Widths.{networks-append}
use Rattle.columns.proofs.ends.next_edge.Goals as goal

pub returns : goal.returns
returns c =
    let a = c.args in
    let edge = λ (plan : List ℕ). edge_in plan a.x in
    c.min.ensures
    ∙ ap₂ min
    (c.plan_edge.ensures ∙ ap edge (c.own.ensures ∙ c.requires.2.own) ∙ plan-edge a.x 0 (entries_of a.first.now) c.requires.0)
    (c.plan_edge-2.ensures ∙ ap edge (c.other.ensures ∙ c.requires.2.other) ∙ plan-edge a.x 0 (entries_of a.second.now) c.requires.1)
    ∙ sym (edge-append (networks_in (rows_of a.first.now)) (networks_in (rows_of a.second.now)) a.x)
    ∙ ap (λ (ns : List (ℕ × ℕ)). next_edge ns a.x) (sym (networks-append (rows_of a.first.now) (rows_of a.second.now)))
