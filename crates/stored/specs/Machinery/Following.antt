-- Entries that the state machine takes one after the other, from a state to the end of a table.
use Rattle.std.specs.Prelude.{◌≡◌, true, List, [], ◌∷◌}
use Rattle.stored.specs.Machine.{Turn as T, Turn, fresh_state, is_ended, admit_item}
use Rattle.stored.specs.declared.machine.State.{State}
use Rattle.stored.specs.Entries.{Entry, bytes_of, item_of}

-- the state machine on entries
abbrev pub admit : State → Entry → Turn
admit s e = admit_item s (item_of e) (bytes_of e)

-- the state machine takes these entries one after the other, from a state to the end of a table
abbrev pub Follows : State → List Entry → Type 0
Follows s [] = is_ended s.phase ≡ true
Follows s (e ∷ es) = (next : State) × (admit s e ≡ T.Next next) × Follows next es

-- entries in order and complete, from the start to the end of a table; the bound of 16,384 bytes is the reader's and the writer's, and
-- is not said here
abbrev pub Accepted : List Entry → Type 0
Accepted es = Follows fresh_state es
