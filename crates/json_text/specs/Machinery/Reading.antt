-- The machine on a whole text: the first byte that it does not take, or the end where a text may not end.
use Rattle.std.specs.Prelude.{Option, Some, None}
use Rattle.std.specs.Prelude.{ℕ, ◌+◌, List, [], ◌∷◌}
use Rattle.json_text.specs.Choice.{pick}
use Rattle.json_text.specs.Machinery.Machine.{start_state, step_of, is_ended}
use Rattle.json_text.specs.declared.machine.State.{State}

abbrev pub onward : (State → Option ℕ) → ℕ → Option State → Option ℕ
onward go at (Some s) = go s
onward go at None = Some at

abbrev pub fault_from : List ℕ → ℕ → State → Option ℕ
fault_from [] at s = pick (is_ended s) None (Some at)
fault_from (b ∷ bs) at s = onward (fault_from bs (at + 1)) at (step_of s b)

unfoldable pub fault_of : List ℕ → Option ℕ
fault_of t = fault_from t 0 start_state
