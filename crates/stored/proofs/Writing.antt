-- What the writer needs: a record laid down in a part of the buffer is set at its place, and an item that the state machine takes has a
-- record.
use Rattle.std.proofs.Common.{◌≡◌, refl, sym, ◌∙◌, List, [], ◌∷◌, append-nil, append_assoc, ℕ, ◌+◌, ◌≤◌, length, set, take, drop, drop_of_length-le, Bool, true, false, ◌||◌, arith, ltb, leb, eqb, ltb-false, drop-drop}
use Rattle.std.proofs.lemmas.List.Edits.{sets, sets-eq}
use Rattle.stored.specs.Choice.{pick}
use Rattle.stored.specs.Machine.{Turn as T, due_of, kind_of_item, admit_item}
use Rattle.stored.specs.Machinery.Placing.{HasKind}
use Rattle.stored.specs.declared.items.Item.{Item}
use Rattle.stored.specs.declared.items.Item.TheVariants as I
use Rattle.stored.specs.declared.machine.State.{State}
use borrow.Rule.Slice.PartMut.{put_mid}

-- a part of the buffer that holds these bytes now, with what is before and behind it, is the buffer with them set at the part's place
pub laid : (buffer : List ℕ) (at : ℕ) (bytes : List ℕ) → at + length bytes ≤ length buffer
    → put_mid at (length bytes) buffer bytes ≡ sets buffer at bytes
laid buffer at bytes room = rw (drop-drop (length bytes) at buffer) (sym (sets-eq bytes buffer at room ∙ append_assoc (take at buffer) bytes (drop (at + length bytes) buffer)))

-- a kind byte set first, and bytes behind it up to the end
pub behind_kind : (room bytes : List ℕ) (kind size : ℕ) → length room ≡ length bytes + 1 → size ≡ length bytes
    → put_mid 1 size (set room 0 kind) bytes ≡ kind ∷ bytes
behind_kind [] bytes kind size long same = absurd (omega arith)
behind_kind (x ∷ room) bytes kind size long same = rw (drop_of_length-le room {i = size} (omega arith), append-nil)

either_true : (b : Bool) → (b || true) ≡ true
either_true true = refl
either_true false = refl

refused : (n : ℕ) (next : State) → T.Refused n ≡ T.Next next → ⊥
refused n next e = let z : ◌≡◌ {A = ℕ} 0 1 = cc in omega arith

refused-each : (a b : Bool) (k m n : ℕ) (next : State)
    → pick a (pick b (T.Refused k) (T.Refused m)) (T.Refused n) ≡ T.Next next → ⊥
refused-each true true k m n next e = refused k next e
refused-each true false k m n next e = refused m next e
refused-each false b k m n next e = refused n next e

-- a value over 128 bytes is refused, whatever else is wrong
value-kind : (s : State) (bytes : List ℕ) (next : State) → admit_item s I.Value bytes ≡ T.Next next → length bytes ≤ 128
unfolding admit_item
value-kind s bytes next e = by-test (ltb 128 (length bytes)) refl
  where
    by-test : (over : Bool) → ltb 128 (length bytes) ≡ over → length bytes ≤ 128
    by-test false h = ltb-false 128 (length bytes) h
    by-test true h =
        let due = due_of s (kind_of_item I.Value (length bytes)) in
        absurd (refused-each (eqb due 0) (leb 64 s.values) 6 6 due next (rw (h, either_true) at e))

pub has-kind : (s : State) (i : Item) (bytes : List ℕ) (next : State) → admit_item s i bytes ≡ T.Next next → HasKind i (length bytes)
has-kind s (I.Start n) bytes next e = tt
has-kind s (I.Statement effect) bytes next e = tt
has-kind s (I.Column column) bytes next e = tt
has-kind s (I.Condition operator key) bytes next e = tt
has-kind s (I.Network address prefix) bytes next e = tt
has-kind s I.Value bytes next e = value-kind s bytes next e
has-kind s I.End bytes next e = tt
