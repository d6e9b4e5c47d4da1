-- The writing of wishes, one after the other, and what it leaves where none is refused.
use Rattle.std.proofs.Common.{ℕ, ◌+◌, Bool, true, false, ◌≡◌, refl, sym, ◌∙◌, ap, List, [], ◌∷◌, ltb, length, length-append}
use lib.Seq.{sets}
use Rattle.json_text.specs.Choice.{pick}
use Rattle.stored.specs.Writing.{record_of, writing, buffer_after}
use Rattle.stored.specs.Entries.{item_of, bytes_of, encode, Writes}
use Rattle.stored.specs.declared.machine.State.{State}
use Rattle.stored.specs.Machine.{Turn as T, Turn}
use Rattle.stored.specs.declared.writer.Writer.{Writer}
use Rattle.stored.specs.Writing.{WriteAnswer as W, WriteAnswer}
use Rattle.stored.proofs.Choosing.{never}
use Rattle.members.specs.Members.Verdict.{fine}
use Rattle.records.specs.Wishes.{Wish, entries}
use Rattle.records.specs.Wishes.Wish.{made, strange, empty, unread}
use Rattle.records.specs.Records.{wish_turn, wish_place, after_wish, running, size_of}
use Rattle.policy.specs.Machinery.Asking.{wish_record, wish_writing}
use Rattle.policy.specs.Machinery.Runs.{pouring}

-- a wish that is written, one that is refused, and the end
pub adds : (x : Wish) (ws : List Wish) (w next : Writer) (buffer : List ℕ) → wish_writing w x (length buffer) ≡ W.Added next
    → pouring (x ∷ ws) w buffer ≡ pouring ws next (buffer_after w.at (wish_record x) buffer (W.Added next))
adds x ws w next buffer h = rw h

pub breaks-off : (x : Wish) (ws : List Wish) (w : Writer) (buffer : List ℕ) (k p : ℕ) → wish_writing w x (length buffer) ≡ W.Refused k p
    → pouring (x ∷ ws) w buffer ≡ record { size = w.at; left = buffer }
breaks-off x ws w buffer k p h = rw h

-- what a first wish that is taken leads to
first_taken : (x : Wish) (ws : List Wish) (s : State) → running (x ∷ ws) s ≡ fine → (next : State) × (wish_turn s x ≡ T.Next next) × (running ws next ≡ fine)
first_taken x ws s h = by (wish_turn s x) refl h
  where
    by : (u : Turn) → wish_turn s x ≡ u → after_wish (running ws) (wish_place x) u ≡ fine → (next : State) × (wish_turn s x ≡ T.Next next) × (running ws next ≡ fine)
    by (T.Next next) e f = (next, e, f)
    by (T.Refused k) e f = never (cc)

-- the size of the records is the length of what they are
pub size-encode : (ws : List Wish) (s : State) → running ws s ≡ fine → size_of ws ≡ length (encode (entries ws))
size-encode [] s h = refl
size-encode (strange n ∷ ws) s h = never (cc)
size-encode (empty n ∷ ws) s h = never (cc)
size-encode (unread n bs ∷ ws) s h = never (cc)
size-encode (made n e ∷ ws) s h =
    let f = first_taken (made n e) ws s h in
    rw (length-append (record_of (item_of e) (bytes_of e)) (encode (entries ws)), size-encode ws f.0 f.2)

-- the state of a writer that was answered
abbrev state_of : State → WriteAnswer → State
state_of s (W.Added w) = w.state
state_of s (W.Refused k p) = s

-- entries that a writer takes are poured as it leaves them
pub pours : (ws : List Wish) (w last : Writer) (buffer left : List ℕ) → running ws w.state ≡ fine → Writes w buffer (entries ws) last left
    → pouring ws w buffer ≡ record { size = last.at; left = left }
unfolding writing
pours [] w last buffer left h x = rw (x.0, x.1)
pours (strange n ∷ ws) w last buffer left h x = never (cc)
pours (empty n ∷ ws) w last buffer left h x = never (cc)
pours (unread n bs ∷ ws) w last buffer left h x = never (cc)
pours (made n e ∷ ws) w last buffer left h x =
    let f = first_taken (made n e) ws w.state h in
    adds (made n e) ws w x.0 buffer (added x.1)
    ∙ pours ws x.0 last (sets buffer w.at (record_of (item_of e) (bytes_of e))) left (moved f.0 f.1 x.0 x.1 f.2) x.2
  where
    size : ℕ
    size = length (record_of (item_of e) (bytes_of e))

    added : {next : Writer} → writing w (item_of e) (bytes_of e) (length buffer) ≡ W.Added next → wish_writing w (made n e) (length buffer) ≡ W.Added next
    added y = y

    moved : (s : State) → wish_turn w.state (made n e) ≡ T.Next s → (next : Writer) → writing w (item_of e) (bytes_of e) (length buffer) ≡ W.Added next
        → running ws s ≡ fine → running ws next.state ≡ fine
    moved s a next b c = by (ltb 16384 (w.at + size)) (ltb (length buffer) (w.at + size)) (rw a at (added b))
      where
        by : (x y : Bool)
            → pick x (W.Refused 1 16384) (pick y (W.Refused 14 0) (W.Added (record { state = s; at = w.at + size }))) ≡ W.Added next
            → running ws next.state ≡ fine
        by true y g = never (cc)
        by false true g = never (cc)
        by false false g = let same : s ≡ next.state = ap (λ (r : WriteAnswer). state_of s r) g in rw (sym same) c
