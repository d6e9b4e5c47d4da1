-- One wish and the item that stands for it: through the state machine, and through the writer.
use Rattle.std.specs.Prelude.{ℕ, ◌≤◌, ◌||◌, ◌≡◌, List, [], eqb, leb, ltb, length, take, Result, Ok, Err}
use Rattle.json_text.specs.Choice.{pick}
use Rattle.refusals.specs.declared.Reason.{Reason}
use Rattle.refusals.specs.Numbers.{number_of}
use Rattle.stored.specs.Machine.{Turn as T, admit_item}
use Rattle.stored.specs.Writing.{Would, WriteAnswer, record_of, placing, would_take}
use Rattle.stored.specs.Entries.{item_of, bytes_of}
use Rattle.stored.specs.declared.items.Item.{Item}
use Rattle.stored.specs.declared.machine.State.{State}
use Rattle.stored.specs.declared.writer.Writer.{Writer}
use Rattle.records.specs.Wishes.{Wish}
use Rattle.records.specs.Wishes.Wish.{made, strange, empty, unread}
use Rattle.records.specs.Records.{wish_turn}

abbrev pub at_most_255 : ℕ → ℕ
at_most_255 n = pick (ltb n 255) n 255

abbrev pub unread_number : ℕ → ℕ → ℕ
unread_number values size = pick (eqb size 0 || (ltb 128 size || leb 64 values)) 6 8

-- the record of a wish; no bytes where none is made
abbrev pub wish_record : Wish → List ℕ
wish_record (made n e) = record_of (item_of e) (bytes_of e)
wish_record (strange n) = []
wish_record (empty n) = []
wish_record (unread n bs) = []

-- an item and the bytes beside it stand for a wish: the machine turns as for the wish, and the record that it takes is the wish's
pub record Stands (s : State) (x : Wish) (i : Item) (bs : List ℕ) : Type 0 where
  pub turns : admit_item s i bs ≡ wish_turn s x
  pub writes : (next : State) → wish_turn s x ≡ T.Next next → record_of i bs ≡ wish_record x

-- what is answered for a wish: the item that stands for it, and how many of the bytes beside it are its value's; or why it is refused
abbrev pub Asks : State → Wish → List ℕ → Result (Item × ℕ) Reason → Type 0
Asks s x bytes (Ok asked) = (asked.1 ≤ length bytes) × Stands s x asked.0 (take asked.1 bytes)
Asks s x bytes (Err reason) = wish_turn s x ≡ T.Refused (number_of reason)

abbrev pub wish_would : State → Wish → Would
wish_would s x = would_take (wish_turn s x) (length (wish_record x))

abbrev pub wish_writing : Writer → Wish → ℕ → WriteAnswer
wish_writing w x room = placing w.at (wish_turn w.state x) (length (wish_record x)) room
