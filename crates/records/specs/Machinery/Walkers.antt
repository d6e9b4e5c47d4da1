-- Walks over the tokens of a document: to the value of a member.
use Rattle.std.specs.Prelude.{ℕ, suc, ◌+◌, ◌-◌, Option, Some, None, List, [], ◌∷◌, eqb}
use Rattle.std.specs.declared.ops.ControlFlow.{ControlFlow}
use Rattle.std.specs.declared.ops.ControlFlow.TheVariants.{Continue, Break}
use Rattle.json_text.specs.Choice.{pick}
use Rattle.json_text.specs.Machinery.Tokens.{Token}
use Rattle.json_text.specs.Machinery.Marks.{tokens_at}
use Rattle.json_text.specs.declared.events.Event.{Event}
use Rattle.json_text.specs.declared.events.Event.TheVariants as E
use Rattle.members.specs.Machinery.Levels.{place_of, said}
use Rattle.members.specs.Machinery.Levels.{kind_of as event_of}
use Rattle.records.specs.declared.walking.Member.{Member}

-- the place of the value that comes next
abbrev pub next_place : List Token → ℕ
next_place [] = 0
next_place (x ∷ ts) = place_of x

-- what one token does: the depth then, the end of the object, or the kind of the name sought
pub data Moved : Type 0 where
  On : ℕ → Moved
  Gone : Moved
  Here : ℕ → Moved

-- as code says it
abbrev pub moved_of : {N : Type 0} → (N → ℕ) → Option (ControlFlow N ℕ) → Moved
moved_of index None = Gone
moved_of index (Some (Continue d)) = On d
moved_of index (Some (Break name)) = Here (suc (index name))

-- a member's kind, and the tokens behind its name
pub data Sought : Type 0 where
  none : Sought
  found : ℕ → List Token → Sought

abbrev pub after_move : (ℕ → Sought) → List Token → Moved → Sought
after_move go ts (On d) = go d
after_move go ts Gone = none
after_move go ts (Here k) = found k ts

-- the members of an object: which kind a name is, and as which each counts
module _ (kind_of : List ℕ → ℕ) (slot_of : ℕ → ℕ) where
  abbrev pub seek_turn : ℕ → ℕ → Event → List ℕ → Moved
  seek_turn slot d E.Name x = pick (eqb d 0) (pick (eqb (slot_of (kind_of x)) slot) (Here (kind_of x)) (On d)) (On d)
  seek_turn slot d E.Text x = On d
  seek_turn slot d E.Other x = On d
  seek_turn slot d E.OpenList x = On (d + 1)
  seek_turn slot d E.CloseList x = pick (eqb d 0) Gone (On (d - 1))
  seek_turn slot d E.OpenObject x = On (d + 1)
  seek_turn slot d E.CloseObject x = pick (eqb d 0) Gone (On (d - 1))

  -- the first member with a mark, among those whose tokens these are, so many brackets inside the object
  abbrev pub seek : ℕ → List Token → ℕ → Sought
  seek slot [] d = none
  seek slot (x ∷ ts) d = after_move (seek slot ts) ts (seek_turn slot d (event_of x) (said x))

-- what a place in a text says
abbrev pub told : {N : Type 0} → (N → ℕ) → List ℕ → Option (Member N) → Sought
told index t None = none
told index t (Some m) = found (suc (index m.name)) (tokens_at t m.value)
