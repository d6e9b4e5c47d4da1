-- What a document says: its statements as data. Only of a document without a 20, 21 or 22 is this the meaning; of others it is something.
use Rattle.std.specs.Prelude.{ℕ, List, [], ◌∷◌, eqb}
use Rattle.json_text.specs.Texts.{ascii}
use Rattle.json_text.specs.Trees.{Tree}
use Rattle.json_text.specs.Trees.Shape.{one, several, named}
use Rattle.json_text.specs.Trees.Tree.{text, other, list, object, end_list, element, end_object, member}
use Rattle.stored.specs.Choice.{pick}
use Rattle.stored.specs.Operators.{row_of}
use Rattle.stored.specs.Tables.{Listed, Element, Condition, Statement}
use Rattle.stored.specs.declared.items.Effect.{Effect}
use Rattle.stored.specs.declared.items.Effect.TheVariants as E
use Rattle.stored.specs.declared.items.Column.{Column}
use Rattle.stored.specs.declared.items.Column.TheVariants as C
use Rattle.stored.specs.declared.items.Operator.{Operator}
use Rattle.stored.specs.declared.items.Operator.TheVariants as O
use Rattle.stored.specs.declared.items.Key.{Key}
use Rattle.stored.specs.declared.items.Key.TheVariants as K
use Rattle.stored.specs.declared.items.Sort.{Sort}
use Rattle.stored.specs.declared.items.Sort.TheVariants as S
use Rattle.records.specs.Networks as N
use Rattle.records.specs.Networks.{network_of}
use Rattle.json_text.specs.Choice.{same_bytes}
use Rattle.members.specs.Members.{top_kind, row_kind, row_slot, aws_kind, operator_kind, key_kind}

-- the value of the first member of a kind; a value that is nothing where there is none
abbrev pub under : (List ℕ → ℕ) → ℕ → Tree named → Tree one
under kind_of k (end_object n) = other n
under kind_of k (member n x v ms) = pick (eqb (kind_of x) k) v (under kind_of k ms)

-- the first member with a mark, of which there is one in a sound statement
pub data Found : Type 0 where
  none : Found
  found : ℕ → Tree one → Found

abbrev pub marked : ℕ → Tree named → Found
marked slot (end_object n) = none
marked slot (member n x v ms) = pick (eqb (row_slot (row_kind x)) slot) (found (row_kind x) v) (marked slot ms)

-- the Statement of a document
abbrev pub stated : Tree named → Found
stated (end_object n) = none
stated (member n x v ms) = pick (eqb (top_kind x) 2) (found (top_kind x) v) (stated ms)

-- its value; a value that is nothing where there is none
abbrev pub held : Found → Tree one
held none = other 0
held (found k v) = v

abbrev pub bytes : Tree one → List ℕ
bytes (text n bs) = bs
bytes (other n) = []
bytes (list n es) = []
bytes (object n ms) = []

abbrev pub each : Tree several → List (List ℕ)
each (end_list n) = []
each (element (text n bs) es) = bs ∷ each es
each (element (other n) es) = each es
each (element (list n xs) es) = each es
each (element (object n ms) es) = each es

-- a string or a list of strings
abbrev pub strings : Tree one → List (List ℕ)
strings (text n bs) = bs ∷ []
strings (other n) = []
strings (list n es) = each es
strings (object n ms) = []

abbrev pub members_of : Tree one → Tree named
members_of (text n bs) = end_object n
members_of (other n) = end_object n
members_of (list n es) = end_object n
members_of (object n ms) = ms

-- what holds the strings of a principal: itself, or the value of AWS
abbrev pub holder : Tree one → Tree one
holder (text n bs) = text n bs
holder (other n) = other n
holder (list n es) = list n es
holder (object n ms) = under aws_kind 1 ms

unfoldable pub allow_text : List ℕ
allow_text = ascii "Allow"

unfoldable pub deny_text : List ℕ
deny_text = ascii "Deny"

-- Allow, or any other
abbrev pub effect_of : List ℕ → Effect
effect_of bs = pick (same_bytes bs allow_text) E.Allow E.Deny

-- the operators and keys, by their places in the lists of names
abbrev pub operator_at : ℕ → Operator
operator_at k =
    pick (eqb k 1) O.StringEquals
    (pick (eqb k 2) O.StringNotEquals
    (pick (eqb k 3) O.StringLike
    (pick (eqb k 4) O.StringNotLike
    (pick (eqb k 5) O.IpAddress
    (pick (eqb k 6) O.NotIpAddress
    (pick (eqb k 7) O.StringEqualsIfExists
    (pick (eqb k 8) O.StringNotEqualsIfExists
    (pick (eqb k 9) O.StringLikeIfExists
    (pick (eqb k 10) O.StringNotLikeIfExists
    (pick (eqb k 11) O.IpAddressIfExists O.NotIpAddressIfExists))))))))))

abbrev pub key_at : ℕ → Key
key_at k =
    pick (eqb k 1) K.SourceVpc
    (pick (eqb k 2) K.Prefix (pick (eqb k 3) K.SourceVpce (pick (eqb k 4) K.Referer K.SourceIp)))

-- Principal, NotPrincipal, Action, NotAction, Resource, and the last
abbrev pub column_at : ℕ → Column
column_at k =
    pick (eqb k 3) C.Principal
    (pick (eqb k 4) C.NotPrincipal
    (pick (eqb k 5) C.Action
    (pick (eqb k 6) C.NotAction
    (pick (eqb k 7) C.Resource C.NotResource))))

-- a text that is no network stays one
abbrev pub range : List ℕ → N.Read → Listed
range bs (N.Read.network a n) = Listed.range a n
range bs N.Read.none = Listed.text bs

abbrev pub listed_by : Sort → List ℕ → Listed
listed_by S.Text bs = Listed.text bs
listed_by S.Address bs = range bs (network_of bs)

abbrev pub listed : Sort → List (List ℕ) → List Listed
listed s [] = []
listed s (bs ∷ xs) = listed_by s bs ∷ listed s xs

-- one element, in front of others: the form that the statement has
abbrev pub element_in : (Tree one → Tree one) → Found → List Element → List Element
element_in read none xs = xs
element_in read (found k v) xs = record { name = column_at k; values = listed S.Text (strings (read v)) } ∷ xs

abbrev pub same : Tree one → Tree one
same v = v

-- the conditions under one operator, then others
abbrev pub conditions_under : Operator → Tree named → List Condition → List Condition
conditions_under o (end_object n) cs = cs
conditions_under o (member n x v ms) cs =
    record { operator = o; key = key_at (key_kind x); values = listed (row_of o).sort (strings v) } ∷ conditions_under o ms cs

abbrev pub conditions_of : Tree named → List Condition
conditions_of (end_object n) = []
conditions_of (member n x v ms) = conditions_under (operator_at (operator_kind x)) (members_of v) (conditions_of ms)

abbrev pub statement_of : Tree named → Statement
statement_of ms =
    record {
      effect = effect_of (bytes (held (marked 2 ms)));
      elements = element_in holder (marked 3 ms) (element_in same (marked 4 ms) (element_in same (marked 5 ms) []));
      conditions = conditions_of (members_of (held (marked 6 ms)));
    }

abbrev pub each_statement : Tree several → List Statement
each_statement (end_list n) = []
each_statement (Tree.element v es) = statement_of (members_of v) ∷ each_statement es

-- one object, or a list of them
abbrev pub statements_under : Tree one → List Statement
statements_under (text n bs) = []
statements_under (other n) = []
statements_under (list n es) = each_statement es
statements_under (object n ms) = statement_of ms ∷ []

-- the statements of a document
abbrev pub statements_of : Tree one → List Statement
statements_of v = statements_under (held (stated (members_of v)))
