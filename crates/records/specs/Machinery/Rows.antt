-- The statements of a document, from its tokens as they come: the next one.
use Rattle.std.specs.Prelude.{ℕ, suc, ◌+◌, ◌-◌, ◌≤◌, ◌<◌, Bool, true, false, Option, Some, None, List, [], ◌∷◌, eqb}
use Rattle.std.specs.declared.ops.ControlFlow.{ControlFlow}
use Rattle.std.specs.declared.ops.ControlFlow.TheVariants.{Continue, Break}
use Rattle.json_text.specs.Choice.{pick}
use Rattle.json_text.specs.Machinery.Tokens.{Token}
use Rattle.json_text.specs.Machinery.Marks.{tokens_at}
use Rattle.json_text.specs.declared.events.Event.{Event}
use Rattle.json_text.specs.declared.events.Event.TheVariants as E
use Rattle.members.specs.Machinery.Levels.{kind_of}
use Rattle.records.specs.Machinery.Streams as Streams
use Rattle.records.specs.declared.rows.Among.{Among}
use Rattle.records.specs.declared.rows.Among.TheVariants as A
use Rattle.records.specs.declared.rows.Row.{Row}

-- in the words of the stream of wishes
abbrev pub among_of : Among → Streams.Among
among_of A.Begin = Streams.Among.begin
among_of A.Between = Streams.Among.inside 0
among_of (A.Within d) = Streams.Among.inside (suc d)

-- at most so many brackets inside
abbrev pub AtMost : ℕ → Among → Type 0
AtMost n A.Begin = Unit {0}
AtMost n A.Between = Unit {0}
AtMost n (A.Within d) = d ≤ n

abbrev pub deeper : Among → Among
deeper A.Begin = A.Between
deeper A.Between = A.Within 0
deeper (A.Within d) = A.Within (d + 1)

abbrev pub higher : Among → Option (ControlFlow Bool Among)
higher A.Begin = None
higher A.Between = None
higher (A.Within d) = Some (pick (eqb d 0) (Continue A.Between) (Continue (A.Within (d - 1))))

abbrev pub object : Among → ControlFlow Bool Among
object A.Begin = Break false
object A.Between = Break true
object (A.Within d) = Continue (A.Within (d + 1))

abbrev pub among_turn : Among → Event → Option (ControlFlow Bool Among)
among_turn a E.Name = Some (Continue a)
among_turn a E.Text = Some (Continue a)
among_turn a E.Other = Some (Continue a)
among_turn a E.OpenList = Some (Continue (deeper a))
among_turn a E.CloseList = higher a
among_turn a E.OpenObject = Some (object a)
among_turn a E.CloseObject = higher a

-- the tokens behind a statement's brace, and whether it stands in a list
pub data Sighted : Type 0 where
  none : Sighted
  seen : List Token → Bool → Sighted

abbrev pub after_sight : (Among → Sighted) → List Token → Option (ControlFlow Bool Among) → Sighted
after_sight go ts (Some (Continue a)) = go a
after_sight go ts (Some (Break listed)) = seen ts listed
after_sight go ts None = none

abbrev pub row_in : List Token → Among → Sighted
row_in [] a = none
row_in (x ∷ ts) a = after_sight (row_in ts) ts (among_turn a (kind_of x))

-- what a place in a text says
abbrev pub sighted : List ℕ → Option Row → Sighted
sighted t (Some row) = seen (tokens_at t row.members) row.listed
sighted t None = none

-- a statement begins behind the place asked for
abbrev pub RowAhead : ℕ → ℕ → Option Row → Type 0
RowAhead from size (Some row) = (from < row.members.at) × (row.members.at ≤ size)
RowAhead from size None = Unit {0}
