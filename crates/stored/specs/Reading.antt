-- Reading a table: 1 over 16,384 bytes, then the first faulty record, or the number of statements (RULES 7.1).
use Rattle.std.specs.Prelude.{ℕ, zero, suc, ◌+◌, List, eqb, ltb, length, get_or, take, drop, Result, Ok, Err}
use Rattle.stored.specs.Choice.{pick}
use Rattle.stored.specs.Records.{Record as R, Record, kind_of, record_at}
use Rattle.stored.specs.Machine.{Turn as T, Turn, fresh_state, is_ended, due_of, turn_of}
use Rattle.stored.specs.declared.machine.State.{State}
use Rattle.refusals.specs.declared.Reason.{Reason}
use Rattle.refusals.specs.declared.Refusal.{Refusal}
use Rattle.refusals.specs.Numbers.{number_of}

-- what reading a table finds: the number of statements, or the number of the refusal and its place
pub data ReadAnswer : Type 0 where
  Accepted : ℕ → ReadAnswer
  Refused : ℕ → ℕ → ReadAnswer

-- what one record leads to: the next state and the next place, or the number of the refusal
pub data Step : Type 0 where
  Goes : State → ℕ → Step
  Stops : ℕ → Step

-- what the code answers for a table and for a record
abbrev pub as_read : Result ℕ Refusal → ReadAnswer
as_read (Ok n) = Accepted n
as_read (Err refusal) = Refused (number_of refusal.reason) refusal.place

abbrev pub as_step : Result (State × ℕ) Reason → Step
as_step (Ok next) = Goes next.0 next.1
as_step (Err reason) = Stops (number_of reason)

-- the bytes end here: 2 at the length, unless the table is at its end
abbrev pub finish_of : State → ℕ → ReadAnswer
finish_of s at = pick (is_ended s.phase) (Accepted s.rows) (Refused 2 at)

abbrev pub after_turn : ℕ → Turn → Step
after_turn next (T.Next s) = Goes s next
after_turn next (T.Refused n) = Stops n

-- a record whose kind is in turn: cut 2, an unknown code 3, then what the whole record decides
abbrev pub taken_record : State → List ℕ → Record → Step
taken_record s t (R.Is i start size) = after_turn (start + size) (turn_of s i (take size (drop start t)))
taken_record s t R.Cut = Stops 2
taken_record s t R.Strange = Stops 3

abbrev pub taken_of : State → List ℕ → ℕ → Step
taken_of s t at = taken_record s t (record_at t at)

-- the record at a place: what its kind alone decides comes first
unfoldable pub step_at : State → List ℕ → ℕ → Step
step_at s t at =
    pick (eqb (due_of s (kind_of (get_or t at 0))) 0) (taken_of s t at) (Stops (due_of s (kind_of (get_or t at 0))))

abbrev pub after_step : (State → ℕ → ReadAnswer) → ℕ → Step → ReadAnswer
after_step go at (Goes s next) = go s next
after_step go at (Stops n) = Refused n at

-- every record from a place on, at most as many as the first number says
abbrev pub read_from : ℕ → List ℕ → State → ℕ → ReadAnswer
read_from zero t s at = finish_of s at
read_from (suc fuel) t s at = pick (ltb at (length t)) (after_step (read_from fuel t) at (step_at s t at)) (finish_of s at)

-- every record takes a byte at least, so that the table's length is enough
unfoldable pub reading : List ℕ → ReadAnswer
reading t = pick (ltb 16384 (length t)) (Refused 1 16384) (read_from (length t) t fresh_state 0)
