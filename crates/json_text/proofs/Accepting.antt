-- Which texts the machine takes from a phase and a stack on.
use Rattle.std.proofs.Common.{Option, Some, None, ℕ, Bool, false, List, [], ◌∷◌, eqb}
use Rattle.json_text.specs.declared.machine.State.{State}
use Rattle.json_text.specs.Choice.{pick}
use Rattle.json_text.specs.Machinery.Machine.{step_in, at_rest}
use Rattle.json_text.specs.declared.machine.Phase.{Phase}

abbrev pub runs : (Phase → ℕ → Bool) → Option State → Bool
runs go (Some s) = go s.phase s.stack
runs go None = false

abbrev pub accepts : List ℕ → Phase → ℕ → Bool
accepts [] p w = pick (at_rest p) (eqb w 1) false
accepts (b ∷ bs) p w = runs (accepts bs) (step_in p w b)
