-- The first 21 or 22 of a document, by one pass over its tokens: what a token leads to, level by level.
use Rattle.std.specs.Prelude.{ℕ, ◌-◌, Bool, true, false, List, [], ◌∷◌, length, eqb, leb}
use Rattle.json_text.specs.Choice.{pick, same_bytes}
use Rattle.json_text.specs.Machinery.Tokens.{Token, tokens_of}
use Rattle.json_text.specs.Texts.{ascii}
use Rattle.json_text.specs.declared.events.Event.{Event}
use Rattle.json_text.specs.declared.events.Event.TheVariants as E
use Rattle.json_text.specs.Machinery.Tokens.Token.{name, text, other, open-list, close-list, open-object, close-object}
use Rattle.members.specs.Members.{Verdict, version_text, top_kind, row_kind, aws_kind, operator_kind, key_kind, row_slot}
use Rattle.members.specs.Machinery.Verdicts.{add, is_bad, aws_whole, row_whole, top_whole}
use Rattle.members.specs.Members.Verdict.{fine, refused}
use Rattle.members.specs.Answers.{Checked}
use Rattle.members.specs.Answers.{Checked as C}
use Rattle.members.specs.Machinery.States.{Level, State, Turn}
use Rattle.members.specs.Machinery.States.{Level as L}
use Rattle.members.specs.Machinery.States.{Turn as T}

-- where a token stands
abbrev pub place_of : Token → ℕ
place_of (name n bs) = n
place_of (text n bs) = n
place_of (other n) = n
place_of (open-list n) = n
place_of (close-list n) = n
place_of (open-object n) = n
place_of (close-object n) = n

-- a level, the member of a document or statement that is due, and what was met at each level
abbrev pub at : Level → ℕ → ℕ → ℕ → ℕ → ℕ → ℕ → Bool → State
at l due top row principals operators keys listed =
    record { level = l; due = due; top = top; row = row; principals = principals; operators = operators; keys = keys; listed = listed }

-- what a token is, without its place and bytes, and the bytes
abbrev pub kind_of : Token → Event
kind_of (name n bs) = E.Name
kind_of (text n bs) = E.Text
kind_of (other n) = E.Other
kind_of (open-list n) = E.OpenList
kind_of (close-list n) = E.CloseList
kind_of (open-object n) = E.OpenObject
kind_of (close-object n) = E.CloseObject

abbrev pub said : Token → List ℕ
said (name n bs) = bs
said (text n bs) = bs
said (other n) = []
said (open-list n) = []
said (close-list n) = []
said (open-object n) = []
said (close-object n) = []

abbrev pub go : Level → ℕ → ℕ → ℕ → ℕ → ℕ → ℕ → Bool → Turn
go l due top row principals operators keys listed = T.Next (at l due top row principals operators keys listed)

abbrev pub outside : State → Event → List ℕ → Turn
outside s E.Name bs = T.Next s
outside s E.Text bs = T.Refused 22
outside s E.Other bs = T.Refused 22
outside s E.OpenList bs = T.Refused 22
outside s E.CloseList bs = T.Next s
outside s E.OpenObject bs = go L.Top 0 0 0 0 0 0 false
outside s E.CloseObject bs = T.Next s

abbrev pub in_top : State → Event → List ℕ → Turn
in_top s E.Name bs =
    pick (is_bad (top_kind bs) (top_kind bs) s.top) (T.Refused 21) (go L.Top (top_kind bs) (add s.top (top_kind bs)) 0 0 0 0 false)
in_top s E.Text bs = pick (eqb s.due 1) (pick (same_bytes bs version_text) (go L.Top 0 s.top 0 0 0 0 false) (T.Refused 22)) (T.Refused 22)
in_top s E.Other bs = T.Refused 22
in_top s E.OpenList bs = pick (eqb s.due 1) (T.Refused 22) (go L.Rows 0 s.top 0 0 0 0 false)
in_top s E.CloseList bs = T.Next s
in_top s E.OpenObject bs = pick (eqb s.due 1) (T.Refused 22) (go L.Row 0 s.top 0 0 0 0 false)
in_top s E.CloseObject bs = pick (top_whole s.top) (go L.Outside 0 0 0 0 0 0 false) (T.Refused 22)

abbrev pub in_rows : State → Event → List ℕ → Turn
in_rows s E.Name bs = T.Next s
in_rows s E.Text bs = T.Refused 22
in_rows s E.Other bs = T.Refused 22
in_rows s E.OpenList bs = T.Refused 22
in_rows s E.CloseList bs = go L.Top 0 s.top 0 0 0 0 false
in_rows s E.OpenObject bs = go L.Row 0 s.top 0 0 0 0 true
in_rows s E.CloseObject bs = T.Next s

-- behind a statement
abbrev pub behind_row : Bool → Level
behind_row true = L.Rows
behind_row false = L.Top

abbrev pub in_row : State → Event → List ℕ → Turn
in_row s E.Name bs =
    pick (is_bad (row_kind bs) (row_slot (row_kind bs)) s.row) (T.Refused 21)
    (go L.Row (row_kind bs) s.top (add s.row (row_slot (row_kind bs))) 0 0 0 s.listed)
in_row s E.Text bs =
    pick (leb s.due 2) (go L.Row 0 s.top s.row 0 0 0 s.listed)
    (pick (leb s.due 4) (pick (same_bytes bs (ascii "*")) (go L.Row 0 s.top s.row 0 0 0 s.listed) (T.Refused 22))
    (pick (leb s.due 8) (go L.Row 0 s.top s.row 0 0 0 s.listed) (T.Refused 22)))
in_row s E.Other bs = T.Refused 22
in_row s E.OpenList bs =
    pick (leb s.due 2) (T.Refused 22)
    (pick (leb s.due 4) (T.Refused 22)
    (pick (leb s.due 8) (go L.RowStrings 0 s.top s.row 0 0 0 s.listed) (T.Refused 22)))
in_row s E.CloseList bs = T.Next s
in_row s E.OpenObject bs =
    pick (leb s.due 2) (T.Refused 22)
    (pick (leb s.due 4) (go L.Principals 0 s.top s.row 0 0 0 s.listed)
    (pick (leb s.due 8) (T.Refused 22) (go L.Operators 0 s.top s.row 0 0 0 s.listed)))
in_row s E.CloseObject bs = pick (row_whole s.row) (go (behind_row s.listed) 0 s.top 0 0 0 0 false) (T.Refused 22)

-- a list of strings
abbrev pub in_strings : Level → State → Event → List ℕ → Turn
in_strings back s E.Name bs = T.Next s
in_strings back s E.Text bs = T.Next s
in_strings back s E.Other bs = T.Refused 22
in_strings back s E.OpenList bs = T.Refused 22
in_strings back s E.CloseList bs = go back 0 s.top s.row s.principals s.operators s.keys s.listed
in_strings back s E.OpenObject bs = T.Refused 22
in_strings back s E.CloseObject bs = T.Next s

abbrev pub in_principals : State → Event → List ℕ → Turn
in_principals s E.Name bs =
    pick (is_bad (aws_kind bs) (aws_kind bs) s.principals) (T.Refused 21)
    (go L.Principals 0 s.top s.row (add s.principals (aws_kind bs)) 0 0 s.listed)
in_principals s E.Text bs = go L.Principals 0 s.top s.row s.principals 0 0 s.listed
in_principals s E.Other bs = T.Refused 22
in_principals s E.OpenList bs = go L.PrincipalStrings 0 s.top s.row s.principals 0 0 s.listed
in_principals s E.CloseList bs = T.Next s
in_principals s E.OpenObject bs = T.Refused 22
in_principals s E.CloseObject bs = pick (aws_whole s.principals) (go L.Row 0 s.top s.row 0 0 0 s.listed) (T.Refused 22)

abbrev pub in_operators : State → Event → List ℕ → Turn
in_operators s E.Name bs =
    pick (is_bad (operator_kind bs) (operator_kind bs) s.operators) (T.Refused 21)
    (go L.Operators 0 s.top s.row 0 (add s.operators (operator_kind bs)) 0 s.listed)
in_operators s E.Text bs = T.Refused 22
in_operators s E.Other bs = T.Refused 22
in_operators s E.OpenList bs = T.Refused 22
in_operators s E.CloseList bs = T.Next s
in_operators s E.OpenObject bs = go L.Keys 0 s.top s.row 0 s.operators 0 s.listed
in_operators s E.CloseObject bs = go L.Row 0 s.top s.row 0 0 0 s.listed

abbrev pub in_keys : State → Event → List ℕ → Turn
in_keys s E.Name bs =
    pick (is_bad (key_kind bs) (key_kind bs) s.keys) (T.Refused 21)
    (go L.Keys 0 s.top s.row 0 s.operators (add s.keys (key_kind bs)) s.listed)
in_keys s E.Text bs = go L.Keys 0 s.top s.row 0 s.operators s.keys s.listed
in_keys s E.Other bs = T.Refused 22
in_keys s E.OpenList bs = go L.KeyStrings 0 s.top s.row 0 s.operators s.keys s.listed
in_keys s E.CloseList bs = T.Next s
in_keys s E.OpenObject bs = T.Refused 22
in_keys s E.CloseObject bs = go L.Operators 0 s.top s.row 0 s.operators 0 s.listed

abbrev pub turn_in : Level → State → Event → List ℕ → Turn
turn_in L.Outside s e x = outside s e x
turn_in L.Top s e x = in_top s e x
turn_in L.Rows s e x = in_rows s e x
turn_in L.Row s e x = in_row s e x
turn_in L.RowStrings s e x = in_strings L.Row s e x
turn_in L.Principals s e x = in_principals s e x
turn_in L.PrincipalStrings s e x = in_strings L.Principals s e x
turn_in L.Operators s e x = in_operators s e x
turn_in L.Keys s e x = in_keys s e x
turn_in L.KeyStrings s e x = in_strings L.Keys s e x

abbrev pub after_turn : (State → Verdict) → ℕ → Turn → Verdict
after_turn on n (T.Next s) = on s
after_turn on n (T.Refused k) = refused k n

abbrev pub judge : List Token → State → Verdict
judge [] s = fine
judge (x ∷ xs) s = after_turn (judge xs) (place_of x) (turn_in s.level s (kind_of x) (said x))

abbrev pub start_members : State
start_members = at L.Outside 0 0 0 0 0 0 false

-- a place from the text's begin on
abbrev pub placed : ℕ → Verdict → Checked
placed size fine = C.Sound
placed size (refused k left) = C.Refused k (size - left)

-- the first 21 or 22 of a text that has no 20
unfoldable pub members_of : List ℕ → Checked
members_of t = placed (length t) (judge (tokens_of t) start_members)
