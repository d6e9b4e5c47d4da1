-- The reader's loop: a byte that is taken, a byte that fails, and the end of the text.
use Rattle.std.proofs.Common.{Some, None, ℕ, ◌+◌, ◌≤◌, ◌<◌, ◌≡◌, List, length, get_or, drop, drop_of_length-le}
use Rattle.json_text.specs.Choice.{pick}
use Rattle.json_text.specs.Machinery.Machine.{step_of, is_ended}
use Rattle.json_text.specs.Machinery.Reading.{fault_from}
use Rattle.json_text.specs.declared.machine.State.{State}
use Rattle.std.proofs.lemmas.List.{drop_more}

pub taken : (t : List ℕ) (at : ℕ) (s next : State) → at < length t → step_of s (get_or t at 0) ≡ Some next
    → fault_from (drop at t) at s ≡ fault_from (drop (at + 1) t) (at + 1) next
taken t at s next h e = rw (drop_more t at 0 h, e)

pub fails : (t : List ℕ) (at : ℕ) (s : State) → at < length t → step_of s (get_or t at 0) ≡ None → fault_from (drop at t) at s ≡ Some at
fails t at s h e = rw (drop_more t at 0 h, e)

pub ends : (t : List ℕ) (at : ℕ) (s : State) → length t ≤ at → fault_from (drop at t) at s ≡ pick (is_ended s) None (Some at)
ends t at s h = rw (drop_of_length-le t h)
