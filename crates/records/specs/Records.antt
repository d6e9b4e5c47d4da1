-- The wishes of a document through stored's state machine, one after the other: the first that is refused, with its place.
use Rattle.std.specs.Prelude.{ℕ, ◌+◌, ◌||◌, List, [], ◌∷◌, eqb, leb, ltb, length}
use Rattle.json_text.specs.Choice.{pick}
use Rattle.stored.specs.Entries.{item_of, bytes_of}
use Rattle.stored.specs.Writing.{record_of}
use Rattle.stored.specs.Machine.{fresh_state, admit_item}
use Rattle.stored.specs.declared.machine.State.{State}
use Rattle.stored.specs.Machine.{Turn, Turn as T}
use Rattle.json_text.specs.Trees.{Tree}
use Rattle.json_text.specs.Trees.Shape.{one}
use Rattle.members.specs.Members.{Verdict}
use Rattle.members.specs.Members.Verdict.{fine, refused}
use Rattle.records.specs.Wishes.{Wish, wishes}
use Rattle.records.specs.Wishes.Wish.{made, strange, empty, unread}

-- a text that is no network: 6 for its length or as the 65th, else 8
abbrev pub unread_fault : State → List ℕ → ℕ
unread_fault s bs = pick (eqb (length bs) 0 || (ltb 128 (length bs) || leb 64 s.values)) 6 8

abbrev pub wish_turn : State → Wish → Turn
wish_turn s (made n e) = admit_item s (item_of e) (bytes_of e)
wish_turn s (strange n) = T.Refused 3
wish_turn s (empty n) = T.Refused 5
wish_turn s (unread n bs) = T.Refused (unread_fault s bs)

abbrev pub wish_place : Wish → ℕ
wish_place (made n e) = n
wish_place (strange n) = n
wish_place (empty n) = n
wish_place (unread n bs) = n

abbrev pub after_wish : (State → Verdict) → ℕ → Turn → Verdict
after_wish go n (T.Next s) = go s
after_wish go n (T.Refused k) = refused k n

abbrev pub running : List Wish → State → Verdict
running [] s = fine
running (w ∷ ws) s = after_wish (running ws) (wish_place w) (wish_turn s w)

-- the bytes that the records take
abbrev pub wish_size : Wish → ℕ
wish_size (made n e) = length (record_of (item_of e) (bytes_of e))
wish_size (strange n) = 0
wish_size (empty n) = 0
wish_size (unread n bs) = 0

abbrev pub size_of : List Wish → ℕ
size_of [] = 0
size_of (w ∷ ws) = wish_size w + size_of ws

-- 3 to 8
abbrev pub records_of : Tree one → Verdict
records_of v = running (wishes v) fresh_state
