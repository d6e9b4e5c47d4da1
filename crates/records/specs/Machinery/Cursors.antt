-- The wishes of a document that a cursor has still to give.
use Rattle.std.specs.Prelude.{ℕ, ◌+◌, ◌-◌, ◌≤◌, false, Option, Some, None, List, [], ◌∷◌, length, drop}
use Rattle.json_text.specs.Choice.{pick, same_bytes}
use Rattle.json_text.specs.Machinery.Pieces.{content_of}
use Rattle.json_text.specs.Machinery.Tokens.{Token}
use Rattle.json_text.specs.Machinery.Marks.{start_mark, tokens_at}
use Rattle.json_text.specs.declared.tokens.Mark.{Mark}
use Rattle.json_text.specs.declared.events.Event.{Event}
use Rattle.json_text.specs.declared.events.Event.TheVariants as E
use Rattle.stored.specs.Entries.Entry.{start, statement, column, condition, end}
use Rattle.stored.specs.declared.items.Effect.TheVariants as Ef
use Rattle.stored.specs.declared.items.Sort.{Sort}
use Rattle.stored.specs.declared.items.Sort.TheVariants as So
use Rattle.members.specs.Members.{row_kind, operator_kind, key_kind, row_slot}
use Rattle.records.specs.Documents.{allow_text, deny_text, operator_at, key_at, column_at}
use Rattle.records.specs.Wishes.{Wish, string_wish}
use Rattle.records.specs.Wishes.Wish.{made, strange, empty}
use Rattle.records.specs.Machinery.Walkers.{next_place, seek}
use Rattle.records.specs.Machinery.Streams as Streams
use Rattle.records.specs.Machinery.Streams.{values_from, conditions_from, element_from, condition_from, rows_from, document_from}
use Rattle.records.specs.declared.wishes.Wish as Code
use Rattle.records.specs.declared.wishes.Wish.TheVariants as W
use Rattle.records.specs.declared.effects.Placed.{Placed}
use Rattle.records.specs.declared.values.Hold.{Hold}
use Rattle.records.specs.declared.values.Hold.TheVariants as H
use Rattle.records.specs.declared.values.Heard.{Heard}
use Rattle.records.specs.declared.values.Heard.TheVariants as Hd
use Rattle.records.specs.declared.values.Strings.{Strings}
use Rattle.records.specs.declared.values.Strings.TheVariants as St
use Rattle.records.specs.declared.conditions.Spot.{Spot}
use Rattle.records.specs.declared.conditions.Spot.TheVariants as Sp
use Rattle.records.specs.declared.conditions.Turned.{Turned}
use Rattle.records.specs.declared.conditions.Turned.TheVariants as Tu
use Rattle.records.specs.declared.conditions.Said.{Said}
use Rattle.records.specs.declared.rows.Row.{Row}
use Rattle.members.specs.declared.names.RowName.{RowName}
use Rattle.members.specs.declared.names.RowName.TheVariants as R
use Rattle.records.specs.declared.stages.Part.{Part}
use Rattle.records.specs.declared.stages.Part.TheVariants as P
use Rattle.records.specs.declared.stages.Stage.{Stage}
use Rattle.records.specs.declared.stages.Stage.TheVariants as G
use Rattle.records.specs.declared.stages.Cursor.{Cursor}
use Rattle.records.specs.declared.stages.Wished.{Wished}

-- a wish with its place in the text; a string's bytes stand behind its quote
abbrev pub wish_of : List ℕ → Code.Wish → ℕ → Wish
wish_of t (W.Start count) p = made (length t - p) (start count)
wish_of t (W.Statement effect) p = made (length t - p) (statement effect)
wish_of t W.Strange p = strange (length t - p)
wish_of t (W.Column c) p = made (length t - p) (column c)
wish_of t (W.Condition o k) p = made (length t - p) (condition o k)
wish_of t W.Empty p = empty (length t - p)
wish_of t W.Value p = string_wish So.Text (length t - p) (content_of (drop (p + 1) t))
wish_of t W.Network p = string_wish So.Address (length t - p) (content_of (drop (p + 1) t))
wish_of t W.End p = made (length t - p) end

-- a string, by what its list is made of
abbrev pub string_kind : Sort → Code.Wish
string_kind So.Text = W.Value
string_kind So.Address = W.Network

-- the effect
abbrev pub effect_said : List ℕ → Code.Wish
effect_said bs = pick (same_bytes bs allow_text) (W.Statement Ef.Allow) (pick (same_bytes bs deny_text) (W.Statement Ef.Deny) W.Strange)

abbrev pub effect_by : Event → List ℕ → Code.Wish
effect_by E.Name bs = W.Strange
effect_by E.Text bs = effect_said bs
effect_by E.Other bs = W.Strange
effect_by E.OpenList bs = W.Strange
effect_by E.CloseList bs = W.Strange
effect_by E.OpenObject bs = W.Strange
effect_by E.CloseObject bs = W.Strange

abbrev pub placed_wish : List ℕ → Placed → Wish
placed_wish t x = wish_of t x.wish x.place

-- the strings of an element
abbrev pub hold_of : List ℕ → Hold → Streams.Hold
hold_of t H.Outside = Streams.Hold.outside
hold_of t (H.Fresh p) = Streams.Hold.fresh (length t - p)
hold_of t H.Filled = Streams.Hold.filled

abbrev pub heard_string : Hold → Heard
heard_string H.Outside = Hd.Alone
heard_string (H.Fresh p) = Hd.Listed
heard_string H.Filled = Hd.Listed

abbrev pub heard_end : Hold → Option Heard
heard_end H.Outside = None
heard_end (H.Fresh p) = Some (Hd.Empty p)
heard_end H.Filled = None

abbrev pub hold_turn : Hold → Event → ℕ → Option Heard
hold_turn h E.Name at = Some (Hd.On h)
hold_turn h E.Text at = Some (heard_string h)
hold_turn h E.Other at = None
hold_turn h E.OpenList at = Some (Hd.On (H.Fresh at))
hold_turn h E.CloseList at = heard_end h
hold_turn h E.OpenObject at = Some (Hd.On h)
hold_turn h E.CloseObject at = None

abbrev pub strings_left : List ℕ → List Wish → Option Strings → List Wish
strings_left t behind (Some (St.Listed p m)) = wish_of t W.Value p ∷ values_from So.Text behind (tokens_at t m) Streams.Hold.filled
strings_left t behind (Some (St.Alone p)) = wish_of t W.Value p ∷ behind
strings_left t behind (Some (St.Empty p)) = wish_of t W.Empty p ∷ behind
strings_left t behind None = behind

-- the conditions
abbrev pub spot_of : List ℕ → Spot → Streams.Spot
spot_of t Sp.Before = Streams.Spot.before
spot_of t Sp.Operators = Streams.Spot.operators
spot_of t (Sp.Operator o) = Streams.Spot.operator o
spot_of t (Sp.Keys o) = Streams.Spot.keys o
spot_of t (Sp.Key o k) = Streams.Spot.key o k
spot_of t (Sp.Value o) = Streams.Spot.value o
spot_of t (Sp.EmptyList o p) = Streams.Spot.empty_list o (length t - p)
spot_of t (Sp.FilledList o) = Streams.Spot.filled_list o

abbrev pub name_turn : Spot → List ℕ → Option Turned
name_turn Sp.Before x = None
name_turn Sp.Operators x = Some (Tu.On (Sp.Operator (operator_at (operator_kind x))))
name_turn (Sp.Operator o) x = None
name_turn (Sp.Keys o) x = Some (Tu.On (Sp.Key o (key_at (key_kind x))))
name_turn (Sp.Key o k) x = None
name_turn (Sp.Value o) x = None
name_turn (Sp.EmptyList o p) x = None
name_turn (Sp.FilledList o) x = None

abbrev pub text_turn : Spot → Option Turned
text_turn Sp.Before = None
text_turn Sp.Operators = None
text_turn (Sp.Operator o) = None
text_turn (Sp.Keys o) = None
text_turn (Sp.Key o k) = Some (Tu.Waits o k)
text_turn (Sp.Value o) = Some (Tu.Text o (Sp.Keys o))
text_turn (Sp.EmptyList o p) = Some (Tu.Text o (Sp.FilledList o))
text_turn (Sp.FilledList o) = Some (Tu.Text o (Sp.FilledList o))

abbrev pub list_turn : Spot → ℕ → Option Turned
list_turn Sp.Before at = None
list_turn Sp.Operators at = None
list_turn (Sp.Operator o) at = None
list_turn (Sp.Keys o) at = None
list_turn (Sp.Key o k) at = Some (Tu.Waits o k)
list_turn (Sp.Value o) at = Some (Tu.On (Sp.EmptyList o at))
list_turn (Sp.EmptyList o p) at = None
list_turn (Sp.FilledList o) at = None

abbrev pub list_end_turn : Spot → Option Turned
list_end_turn Sp.Before = None
list_end_turn Sp.Operators = None
list_end_turn (Sp.Operator o) = None
list_end_turn (Sp.Keys o) = None
list_end_turn (Sp.Key o k) = None
list_end_turn (Sp.Value o) = None
list_end_turn (Sp.EmptyList o p) = Some (Tu.Empty p (Sp.Keys o))
list_end_turn (Sp.FilledList o) = Some (Tu.On (Sp.Keys o))

abbrev pub object_turn : Spot → Option Turned
object_turn Sp.Before = Some (Tu.On Sp.Operators)
object_turn Sp.Operators = None
object_turn (Sp.Operator o) = Some (Tu.On (Sp.Keys o))
object_turn (Sp.Keys o) = None
object_turn (Sp.Key o k) = None
object_turn (Sp.Value o) = None
object_turn (Sp.EmptyList o p) = None
object_turn (Sp.FilledList o) = None

abbrev pub object_end_turn : Spot → Option Turned
object_end_turn Sp.Before = None
object_end_turn Sp.Operators = None
object_end_turn (Sp.Operator o) = None
object_end_turn (Sp.Keys o) = Some (Tu.On Sp.Operators)
object_end_turn (Sp.Key o k) = None
object_end_turn (Sp.Value o) = None
object_end_turn (Sp.EmptyList o p) = None
object_end_turn (Sp.FilledList o) = None

abbrev pub spot_turn : Spot → Event → ℕ → List ℕ → Option Turned
spot_turn p E.Name at x = name_turn p x
spot_turn p E.Text at x = text_turn p
spot_turn p E.Other at x = None
spot_turn p E.OpenList at x = list_turn p at
spot_turn p E.CloseList at x = list_end_turn p
spot_turn p E.OpenObject at x = object_turn p
spot_turn p E.CloseObject at x = object_end_turn p

abbrev pub said_left : List ℕ → List Wish → Option Said → List Wish
said_left t behind (Some x) = wish_of t x.wish x.place ∷ conditions_from behind (tokens_at t x.here) (spot_of t x.spot)
said_left t behind None = behind

-- the end of a table
abbrev pub last : List Wish
last = made 0 end ∷ []

-- what comes behind a statement
abbrev pub behind_row : List ℕ → Row → List Wish
behind_row t row = pick row.listed (rows_from last (tokens_at t row.members) (Streams.Among.inside 1)) last

-- an element whose value has these tokens
abbrev pub column_from : ℕ → List Token → List Wish → List Wish
column_from kind ts r = made (next_place ts) (column (column_at kind)) ∷ values_from So.Text r ts Streams.Hold.outside

-- what comes from a part of a statement on
abbrev pub conditions_left : List ℕ → Row → List Wish
conditions_left t row = condition_from (seek row_kind row_slot 6 (tokens_at t row.members) 0) (behind_row t row)

abbrev pub resource_left : List ℕ → Row → List Wish
resource_left t row = element_from (seek row_kind row_slot 5 (tokens_at t row.members) 0) (conditions_left t row)

abbrev pub action_left : List ℕ → Row → List Wish
action_left t row = element_from (seek row_kind row_slot 4 (tokens_at t row.members) 0) (resource_left t row)

abbrev pub principal_left : List ℕ → Row → List Wish
principal_left t row = element_from (seek row_kind row_slot 3 (tokens_at t row.members) 0) (action_left t row)

abbrev pub part_left : List ℕ → Row → Part → List Wish
part_left t row P.Principal = principal_left t row
part_left t row P.Action = action_left t row
part_left t row P.Resource = resource_left t row
part_left t row P.Conditions = conditions_left t row

-- the element that a part is, with the part behind it
abbrev pub element_of : Part → Option (RowName × Part)
element_of P.Principal = Some (R.Principal, P.Action)
element_of P.Action = Some (R.Action, P.Resource)
element_of P.Resource = Some (R.Resource, P.Conditions)
element_of P.Conditions = None

-- what comes from a stage on
abbrev pub stage_left : List ℕ → Mark → Row → Stage → List Wish
stage_left t here row G.Begin = document_from (tokens_at t here)
stage_left t here row G.Rows = rows_from last (tokens_at t here) Streams.Among.begin
stage_left t here row (G.Parts p) = part_left t row p
stage_left t here row (G.Values p h) = values_from So.Text (part_left t row p) (tokens_at t here) (hold_of t h)
stage_left t here row (G.Conditions s) = conditions_from (behind_row t row) (tokens_at t here) (spot_of t s)
stage_left t here row G.End = last
stage_left t here row G.Over = []

-- the wishes from a cursor on
abbrev pub wishes_left : List ℕ → Cursor → List Wish
wishes_left t c = stage_left t c.here c.row c.stage

-- a wish, and those behind it
abbrev pub wished_left : List ℕ → Wished → List Wish
wished_left t x = wish_of t x.wish x.place ∷ wishes_left t x.cursor

abbrev pub next_wishes : List ℕ → Option Wished → List Wish
next_wishes t (Some x) = wished_left t x
next_wishes t None = []

abbrev pub first_cursor : Cursor
first_cursor = record { stage = G.Begin; here = start_mark; row = record { members = start_mark; listed = false } }

-- a wish's place is in the text or at its end
abbrev pub Inside : ℕ → Option Wished → Type 0
Inside size (Some x) = x.place ≤ size
Inside size None = Unit {0}
