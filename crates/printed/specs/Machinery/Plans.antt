-- Statements as a JSON value: lists always as lists, principals under AWS, conditions by operator.
use Rattle.std.specs.Prelude.{ℕ, ◌-◌, false, List, [], ◌∷◌, eqb}
use Rattle.json_text.specs.Choice.{pick}
use Rattle.json_text.specs.Trees.Shape.{one, several, named}
use Rattle.members.specs.Members.{top_names, row_names, operator_names, key_names, version_text}
use Rattle.records.specs.Documents.{allow_text, deny_text}
use Rattle.stored.specs.Items.{column_place}
use Rattle.stored.specs.Tables.{Listed, Element, Statement}
use Rattle.stored.specs.declared.items.Effect.{Effect}
use Rattle.stored.specs.declared.items.Effect.TheVariants as E
use Rattle.stored.specs.declared.items.Column.{Column}
use Rattle.stored.specs.declared.items.Column.TheVariants as C
use Rattle.stored.specs.declared.items.Operator.{Operator}
use Rattle.stored.specs.declared.items.Key.{Key}
use Rattle.printed.specs.Machinery.Values.{Value, print}
use Rattle.printed.specs.Machinery.Values.Value.{text, list, object, end_list, element, end_object, member}
use Rattle.printed.specs.Machinery.NetworkTexts.{network_text}
use Rattle.printed.specs.Machinery.Groups.{operator_number, key_number, Keyed, Group, groups_of}

-- the name at a place of a list, from 1
abbrev pub name_at : ℕ → List (List ℕ) → List ℕ
name_at k [] = []
name_at k (x ∷ xs) = pick (eqb k 1) x (name_at (k - 1) xs)

unfoldable pub version_name : List ℕ
version_name = name_at 1 top_names

unfoldable pub statement_name : List ℕ
statement_name = name_at 2 top_names

unfoldable pub effect_name : List ℕ
effect_name = name_at 2 row_names

unfoldable pub condition_name : List ℕ
condition_name = name_at 9 row_names

-- AWS
unfoldable pub aws_name : List ℕ
aws_name = 0x41 ∷ 0x57 ∷ 0x53 ∷ []

abbrev pub column_number : Column → ℕ
column_number C.Principal = 3
column_number C.NotPrincipal = 4
column_number C.Action = 5
column_number C.NotAction = 6
column_number C.Resource = 7
column_number C.NotResource = 8

unfoldable pub column_name : Column → List ℕ
column_name c = name_at (column_number c) row_names

unfoldable pub operator_name : Operator → List ℕ
operator_name o = name_at (operator_number o) operator_names

unfoldable pub key_name : Key → List ℕ
key_name k = name_at (key_number k) key_names

abbrev pub effect_text : Effect → List ℕ
effect_text E.Allow = allow_text
effect_text E.Deny = deny_text

abbrev pub listed_text : Listed → List ℕ
listed_text (Listed.text bs) = bs
listed_text (Listed.range a n) = network_text a n

abbrev pub listed_values : List Listed → Value several
listed_values [] = end_list
listed_values (x ∷ l) = element (text (listed_text x)) (listed_values l)

-- the list of a column's values; that of principals stands under AWS
abbrev pub column_value : ℕ → List Listed → Value one
column_value c l = pick (eqb c 0) (object (member aws_name (list (listed_values l)) end_object)) (list (listed_values l))

abbrev pub element_members : List Element → Value named → Value named
element_members [] ms = ms
element_members (e ∷ es) ms = member (column_name e.name) (column_value (column_place e.name) e.values) (element_members es ms)

abbrev pub key_members : List Keyed → Value named
key_members [] = end_object
key_members (k ∷ ks) = member (key_name k.key) (list (listed_values k.values)) (key_members ks)

abbrev pub group_members : List Group → Value named
group_members [] = end_object
group_members (g ∷ gs) = member (operator_name g.operator) (object (key_members g.keys)) (group_members gs)

abbrev pub statement_members : Effect → List Element → List Group → Value named
statement_members e es gs =
    member effect_name (text (effect_text e)) (element_members es (member condition_name (object (group_members gs)) end_object))

abbrev pub statement_values : List Statement → Value several
statement_values [] = end_list
statement_values (s ∷ rows) = element (object (statement_members s.effect s.elements (groups_of s.conditions))) (statement_values rows)

-- the document
unfoldable pub document_value : List Statement → Value one
document_value rows = object (member version_name (text version_text) (member statement_name (list (statement_values rows)) end_object))

unfoldable pub printed : List Statement → List ℕ
printed rows = print false (document_value rows) []
