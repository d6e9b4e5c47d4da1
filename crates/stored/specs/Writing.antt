-- Writing a table: an item is refused as the reader would refuse its record at that point, then 1, then 14; an accepted item adds
-- its record behind the last and changes no other byte (RULES 3, 7.2).
use Rattle.std.specs.Prelude.{ℕ, ◌+◌, ◌/◌, ◌%◌, List, [], ◌∷◌, ltb, length, Result, Ok, Err}
use Rattle.std.proofs.lemmas.List.Edits.{sets}
use Rattle.stored.specs.Choice.{pick}
use Rattle.stored.specs.Items.{effect_code, column_code, key_code}
use Rattle.stored.specs.Operators.{code_of}
use Rattle.stored.specs.Machine.{Turn as T, Turn, fresh_state, admit_item}
use Rattle.stored.specs.declared.items.Item.{Item}
use Rattle.stored.specs.declared.items.Item.TheVariants as I
use Rattle.stored.specs.declared.writer.Writer.{Writer}
use Rattle.stored.specs.declared.machine.State.{State}
use Rattle.refusals.specs.declared.Reason.{Reason}
use Rattle.refusals.specs.declared.Refusal.{Refusal}
use Rattle.refusals.specs.Numbers.{number_of}

-- what a writer answers for an item: the next writer, or the number of the refusal and its place
pub data WriteAnswer : Type 0 where
  Added : Writer → WriteAnswer
  Refused : ℕ → ℕ → WriteAnswer

-- what a writer would answer without a buffer: the next state and the length of the record, or the number of the refusal
pub data Would : Type 0 where
  Takes : State → ℕ → Would
  Refused : ℕ → Would

-- what the code answers for an item, with a buffer and without
abbrev pub as_written : Result Writer Refusal → WriteAnswer
as_written (Ok w) = Added w
as_written (Err refusal) = WriteAnswer.Refused (number_of refusal.reason) refusal.place

abbrev pub as_would : Result (State × ℕ) Reason → Would
as_would (Ok next) = Takes next.0 next.1
as_would (Err reason) = Would.Refused (number_of reason)

-- a writer that has written nothing
abbrev pub fresh_writer : Writer
fresh_writer = record { state = fresh_state; at = 0 }

-- the bytes of an item's record; a value's own bytes stand beside its item
abbrev pub record_of : Item → List ℕ → List ℕ
record_of (I.Start n) bs = 0x01 ∷ n ∷ []
record_of (I.Statement e) bs = 0x02 ∷ effect_code e ∷ []
record_of (I.Column c) bs = 0x03 ∷ column_code c ∷ []
record_of (I.Condition o k) bs = 0x04 ∷ code_of o ∷ key_code k ∷ []
record_of (I.Network a n) bs = 0x06 ∷ (a / 0x1000000 % 0x100) ∷ (a / 0x10000 % 0x100) ∷ (a / 0x100 % 0x100) ∷ (a % 0x100) ∷ n ∷ []
record_of I.Value bs = (length bs + 0x3F) ∷ bs
record_of I.End bs = 0x05 ∷ []

-- 1 where the record would pass 16,384 bytes, then 14 where the buffer is too short, else the next writer
abbrev pub placing : ℕ → Turn → ℕ → ℕ → WriteAnswer
placing at (T.Refused n) size room = WriteAnswer.Refused n at
placing at (T.Next s) size room =
    pick (ltb 16384 (at + size)) (WriteAnswer.Refused 1 16384)
    (pick (ltb room (at + size)) (WriteAnswer.Refused 14 0) (Added (record { state = s; at = at + size })))

-- the answer for an item, its value's bytes, and a buffer of so many bytes
unfoldable pub writing : Writer → Item → List ℕ → ℕ → WriteAnswer
writing w i bs room = placing w.at (admit_item w.state i bs) (length (record_of i bs)) room

-- what the buffer holds after an answer
abbrev pub buffer_after : ℕ → List ℕ → List ℕ → WriteAnswer → List ℕ
buffer_after at bytes buffer (Added w) = sets buffer at bytes
buffer_after at bytes buffer (WriteAnswer.Refused n place) = buffer

-- what an item would lead to, and how many bytes its record would take, without a buffer
abbrev pub would_take : Turn → ℕ → Would
would_take (T.Next s) size = Takes s size
would_take (T.Refused n) size = Would.Refused n

unfoldable pub would_write : State → Item → List ℕ → Would
would_write s i bs = would_take (admit_item s i bs) (length (record_of i bs))
