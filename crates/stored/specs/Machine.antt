-- The one state machine, for the reader and the writer, split as the order of RULES 7.1 is: what the kind alone decides (4 after the
-- end, 3, 5, 4), and what the whole record decides (4 for a column, 6, 7, 8).
use Rattle.std.specs.Prelude.{ℕ, ◌+◌, ◌-◌, Bool, true, false, not, ◌&&◌, ◌||◌, List, eqb, leb, ltb, length, Result, Ok, Err}
use Rattle.stored.specs.Choice.{pick}
use Rattle.stored.specs.Items.{column_place, key_sort}
use Rattle.stored.specs.Operators.{row_of}
use Rattle.stored.specs.Values.{in_range, has_variable, has_wildcard, is_star_alone}
use Rattle.stored.specs.Networks.{network_sound}
use Rattle.stored.specs.declared.items.Column.{Column}
use Rattle.stored.specs.declared.items.Column.TheVariants as C
use Rattle.stored.specs.declared.items.Operator.{Operator}
use Rattle.stored.specs.declared.items.Key.{Key}
use Rattle.stored.specs.declared.items.Sort.{Sort}
use Rattle.stored.specs.declared.items.Sort.TheVariants as S
use Rattle.stored.specs.declared.items.Item.{Item}
use Rattle.stored.specs.declared.items.Item.TheVariants as I
use Rattle.stored.specs.declared.records.Kind.{Kind}
use Rattle.stored.specs.declared.records.Kind.TheVariants as K
use Rattle.stored.specs.declared.machine.Phase.{Phase}
use Rattle.stored.specs.declared.machine.Phase.TheVariants as P
use Rattle.stored.specs.declared.machine.State.{State}
use Rattle.refusals.specs.declared.Reason.{Reason}
use Rattle.refusals.specs.Numbers.{number_of}

-- what a record leads to: the next state, or the number of the refusal
pub data Turn : Type 0 where
  Next : State → Turn
  Refused : ℕ → Turn

-- what the code answers for a record, as a turn
abbrev pub as_turn : Result State Reason → Turn
as_turn (Ok s) = Next s
as_turn (Err reason) = Refused (number_of reason)

-- what the code finds wrong, as the number of the refusal, or 0
abbrev pub as_fault : Result (Unit {0}) Reason → ℕ
as_fault (Ok u) = 0
as_fault (Err reason) = number_of reason

abbrev pub fresh_state : State
fresh_state = record { phase = P.Fresh; rows = 0; left = 0; values = 0; conditions = 0; waiting = false; sort = S.Text }

abbrev pub is_unknown : Kind → Bool
is_unknown K.Start = false
is_unknown K.Statement = false
is_unknown K.Column = false
is_unknown K.Condition = false
is_unknown K.End = false
is_unknown K.Network = false
is_unknown (K.Value n) = false
is_unknown K.Unknown = true

-- a value or a network
abbrev pub is_content : Kind → Bool
is_content K.Start = false
is_content K.Statement = false
is_content K.Column = false
is_content K.Condition = false
is_content K.End = false
is_content K.Network = true
is_content (K.Value n) = true
is_content K.Unknown = false

abbrev pub is_ended : Phase → Bool
is_ended P.Fresh = false
is_ended P.Counted = false
is_ended P.Opened = false
is_ended P.Principals = false
is_ended P.Actions = false
is_ended P.Resources = false
is_ended P.Conditions = false
is_ended P.Ended = true

abbrev pub is_principals : Phase → Bool
is_principals P.Fresh = false
is_principals P.Counted = false
is_principals P.Opened = false
is_principals P.Principals = true
is_principals P.Actions = false
is_principals P.Resources = false
is_principals P.Conditions = false
is_principals P.Ended = false

abbrev pub is_text : Sort → Bool
is_text S.Text = true
is_text S.Address = false

abbrev pub same_sort : Sort → Sort → Bool
same_sort S.Text S.Text = true
same_sort S.Text S.Address = false
same_sort S.Address S.Text = false
same_sort S.Address S.Address = true

-- between statements: another one while some are left, the end when none is
abbrev pub next_row : ℕ → Kind → Bool
next_row left K.Start = false
next_row left K.Statement = ltb 0 left
next_row left K.Column = false
next_row left K.Condition = false
next_row left K.End = eqb left 0
next_row left K.Network = false
next_row left (K.Value n) = false
next_row left K.Unknown = false

-- the kinds for which the record order and the announced count leave a place
abbrev pub only_start : Kind → Bool
only_start K.Start = true
only_start K.Statement = false
only_start K.Column = false
only_start K.Condition = false
only_start K.End = false
only_start K.Network = false
only_start (K.Value n) = false
only_start K.Unknown = false

abbrev pub only_column : Kind → Bool
only_column K.Start = false
only_column K.Statement = false
only_column K.Column = true
only_column K.Condition = false
only_column K.End = false
only_column K.Network = false
only_column (K.Value n) = false
only_column K.Unknown = false

abbrev pub only_condition : Kind → Bool
only_condition K.Start = false
only_condition K.Statement = false
only_condition K.Column = false
only_condition K.Condition = true
only_condition K.End = false
only_condition K.Network = false
only_condition (K.Value n) = false
only_condition K.Unknown = false

abbrev pub takes_kind : Phase → ℕ → Kind → Bool
takes_kind P.Fresh left k = only_start k
takes_kind P.Counted left k = next_row left k
takes_kind P.Opened left k = only_column k
takes_kind P.Principals left k = is_content k || only_column k
takes_kind P.Actions left k = is_content k || only_column k
takes_kind P.Resources left k = is_content k || (only_condition k || next_row left k)
takes_kind P.Conditions left k = is_content k || (only_condition k || next_row left k)
takes_kind P.Ended left k = false

-- the list at hand is still empty, and the record is neither a value nor a network
abbrev pub leaves_empty : Bool → Kind → Bool
leaves_empty waiting k = waiting && not (is_content k)

-- the refusal that the kind alone decides, or 0
abbrev pub due_of : State → Kind → ℕ
due_of s k =
    pick (is_ended s.phase) 4
    (pick (is_unknown k) 3
    (pick (leaves_empty s.waiting k) 5
    (pick (takes_kind s.phase s.left k) 0 4)))

-- the list that a column opens
abbrev pub column_phase : Column → Phase
column_phase C.Principal = P.Principals
column_phase C.Action = P.Actions
column_phase C.Resource = P.Resources
column_phase C.NotPrincipal = P.Principals
column_phase C.NotAction = P.Actions
column_phase C.NotResource = P.Resources

-- the column that comes next in a statement; 3: none
abbrev pub place_due : Phase → ℕ
place_due P.Fresh = 3
place_due P.Counted = 3
place_due P.Opened = 0
place_due P.Principals = 1
place_due P.Actions = 2
place_due P.Resources = 3
place_due P.Conditions = 3
place_due P.Ended = 3

-- the number of statements was read
abbrev pub counted_state : ℕ → State
counted_state n = record { phase = P.Counted; rows = n; left = n; values = 0; conditions = 0; waiting = false; sort = S.Text }

-- a statement begins
abbrev pub opened_state : State → State
opened_state s = record { phase = P.Opened; rows = s.rows; left = s.left - 1; values = 0; conditions = 0; waiting = false; sort = S.Text }

-- a list opens
abbrev pub listed_state : State → Phase → ℕ → Sort → State
listed_state s p n sort =
    record { phase = p; rows = s.rows; left = s.left; values = s.values; conditions = n; waiting = true; sort = sort }

-- the list at hand has one element more
abbrev pub filled_state : State → ℕ → State
filled_state s n =
    record
    { phase = s.phase; rows = s.rows; left = s.left; values = n; conditions = s.conditions; waiting = false; sort = s.sort }

-- the table is at its end
abbrev pub ended_state : State → State
ended_state s =
    record {
      phase = P.Ended;
      rows = s.rows;
      left = s.left;
      values = s.values;
      conditions = s.conditions;
      waiting = s.waiting;
      sort = s.sort;
    }

-- a principal is `*` alone, or has neither `*` nor `?`; other values may
abbrev pub sound_in : Phase → List ℕ → Bool
sound_in p bs = not (is_principals p) || (is_star_alone bs || not (has_wildcard bs))

-- what is wrong with a value by itself in a list: 6 for its length, 7 for a byte, 8; or 0
abbrev pub value_fault : Phase → Sort → List ℕ → ℕ
value_fault p sort bs =
    pick (eqb (length bs) 0 || ltb 128 (length bs)) 6
    (pick (in_range bs)
    (pick (is_text sort && (not (has_variable bs) && sound_in p bs)) 0 8)
    7)

-- over 32 statements announced: 6
abbrev pub start_turn : ℕ → Turn
start_turn n = pick (ltb 32 n) (Refused 6) (Next (counted_state n))

-- a column out of turn or repeated: 4
abbrev pub column_turn : State → Column → Turn
column_turn s c =
    pick (eqb (place_due s.phase) (column_place c)) (Next (listed_state s (column_phase c) s.conditions S.Text)) (Refused 4)

-- a fifth condition: 6; operator and key of different sorts: 8
abbrev pub condition_turn : State → Operator → Key → Turn
condition_turn s o k =
    pick (leb 4 s.conditions) (Refused 6)
    (pick (same_sort (row_of o).sort (key_sort k)) (Next (listed_state s P.Conditions (s.conditions + 1) (row_of o).sort)) (Refused 8))

-- a 65th value or network: 6; a list of values, a length over 32 or low bits set: 8
abbrev pub network_turn : State → ℕ → ℕ → Turn
network_turn s a n =
    pick (leb 64 s.values) (Refused 6)
    (pick (not (is_text s.sort) && network_sound a n) (Next (filled_state s (s.values + 1))) (Refused 8))

-- a 65th value or network: 6; then what is wrong with the value by itself
abbrev pub value_turn : State → List ℕ → Turn
value_turn s bs =
    pick (leb 64 s.values) (Refused 6)
    (pick (eqb (value_fault s.phase s.sort bs) 0) (Next (filled_state s (s.values + 1))) (Refused (value_fault s.phase s.sort bs)))

-- what a whole record decides, once its kind is in turn
abbrev pub turn_of : State → Item → List ℕ → Turn
turn_of s (I.Start n) bs = start_turn n
turn_of s (I.Statement e) bs = Next (opened_state s)
turn_of s (I.Column c) bs = column_turn s c
turn_of s (I.Condition o k) bs = condition_turn s o k
turn_of s (I.Network a n) bs = network_turn s a n
turn_of s I.Value bs = value_turn s bs
turn_of s I.End bs = Next (ended_state s)

-- the kind of an item's record
abbrev pub kind_of_item : Item → ℕ → Kind
kind_of_item (I.Start n) size = K.Start
kind_of_item (I.Statement e) size = K.Statement
kind_of_item (I.Column c) size = K.Column
kind_of_item (I.Condition o k) size = K.Condition
kind_of_item (I.Network a n) size = K.Network
kind_of_item I.Value size = K.Value size
kind_of_item I.End size = K.End

-- the state machine: the next state, or the refusal
unfoldable pub admit_item : State → Item → List ℕ → Turn
admit_item s i bs =
    pick (eqb (due_of s (kind_of_item i (length bs))) 0) (turn_of s i bs) (Refused (due_of s (kind_of_item i (length bs))))
