-- The records that a document would make, in the order of the table, each with the place of the value that it comes from.
use Rattle.std.specs.Prelude.{ℕ, List, [], ◌∷◌, length}
use Rattle.json_text.specs.Trees.{Tree}
use Rattle.json_text.specs.Trees.Shape.{one, several, named}
use Rattle.json_text.specs.Trees.Tree.{text, other, list, object, end_list, element, end_object, member}
use Rattle.json_text.specs.Choice.{pick, same_bytes}
use Rattle.stored.specs.Operators.{row_of}
use Rattle.stored.specs.Entries.{Entry}
use Rattle.stored.specs.Entries.Entry.{start, statement, column, condition, network, value, end}
use Rattle.stored.specs.declared.items.Effect.TheVariants as E
use Rattle.stored.specs.declared.items.Operator.{Operator}
use Rattle.stored.specs.declared.items.Sort.{Sort}
use Rattle.stored.specs.declared.items.Sort.TheVariants as S
use Rattle.members.specs.Members.{place, operator_kind, key_kind}
use Rattle.records.specs.Networks.{network_of}
use Rattle.records.specs.Networks as N
use Rattle.records.specs.Documents.{Found, held, stated, marked, members_of, holder, same, allow_text, deny_text, bytes, operator_at, key_at, column_at, statements_of}

pub data Wish : Type 0 where
  -- an entry
  made : ℕ → Entry → Wish
  -- another Effect: 3
  strange : ℕ → Wish
  -- an empty list: 5
  empty : ℕ → Wish
  -- a text that is no network
  unread : ℕ → List ℕ → Wish

abbrev pub network_wish : ℕ → List ℕ → N.Read → Wish
network_wish n bs (N.Read.network a k) = made n (network a k)
network_wish n bs N.Read.none = unread n bs

abbrev pub string_wish : Sort → ℕ → List ℕ → Wish
string_wish S.Text n bs = made n (value bs)
string_wish S.Address n bs = network_wish n bs (network_of bs)

abbrev pub each_wish : Sort → Tree several → List Wish → List Wish
each_wish s (end_list n) r = r
each_wish s (element (text n bs) es) r = string_wish s n bs ∷ each_wish s es r
each_wish s (element (other n) es) r = each_wish s es r
each_wish s (element (list n xs) es) r = each_wish s es r
each_wish s (element (object n ms) es) r = each_wish s es r

abbrev pub list_wishes : Sort → ℕ → Tree several → List Wish → List Wish
list_wishes s n (end_list m) r = empty n ∷ r
list_wishes s n (element v es) r = each_wish s (element v es) r

-- a string or a list of strings
abbrev pub value_wishes : Sort → Tree one → List Wish → List Wish
value_wishes s (text n bs) r = string_wish s n bs ∷ r
value_wishes s (other n) r = r
value_wishes s (list n es) r = list_wishes s n es r
value_wishes s (object n ms) r = r

abbrev pub effect_wish : ℕ → List ℕ → Wish
effect_wish n bs =
    pick (same_bytes bs allow_text) (made n (statement E.Allow)) (pick (same_bytes bs deny_text) (made n (statement E.Deny)) (strange n))

abbrev pub element_wishes : (Tree one → Tree one) → Found → List Wish → List Wish
element_wishes read Found.none r = r
element_wishes read (Found.found k v) r = made (place v) (column (column_at k)) ∷ value_wishes S.Text (read v) r

abbrev pub key_wishes : Operator → Tree named → List Wish → List Wish
key_wishes o (end_object n) r = r
key_wishes o (member n x v ms) r = made (place v) (condition o (key_at (key_kind x))) ∷ value_wishes (row_of o).sort v (key_wishes o ms r)

abbrev pub operator_wishes : Tree named → List Wish → List Wish
operator_wishes (end_object n) r = r
operator_wishes (member n x v ms) r = key_wishes (operator_at (operator_kind x)) (members_of v) (operator_wishes ms r)

abbrev pub statement_wishes : Tree named → List Wish → List Wish
statement_wishes ms r =
    effect_wish (place (held (marked 2 ms))) (bytes (held (marked 2 ms)))
    ∷ element_wishes holder (marked 3 ms)
    (element_wishes same (marked 4 ms)
    (element_wishes same (marked 5 ms)
    (operator_wishes (members_of (held (marked 6 ms))) r)))

abbrev pub row_wishes : Tree several → List Wish → List Wish
row_wishes (end_list n) r = r
row_wishes (element v es) r = statement_wishes (members_of v) (row_wishes es r)

abbrev pub rows_wishes : Tree one → List Wish → List Wish
rows_wishes (text n bs) r = r
rows_wishes (other n) r = r
rows_wishes (list n es) r = row_wishes es r
rows_wishes (object n ms) r = statement_wishes ms r

-- the document's
abbrev pub wishes : Tree one → List Wish
wishes v =
    made (place (held (stated (members_of v)))) (start (length (statements_of v)))
    ∷ rows_wishes (held (stated (members_of v))) (made 0 end ∷ [])

-- the entries wished for; a fault counts as the entry that stands nearest, since it is refused in any case
abbrev pub entry_of : Wish → List Entry → List Entry
entry_of (made n e) es = e ∷ es
entry_of (strange n) es = statement E.Deny ∷ es
entry_of (empty n) es = es
entry_of (unread n bs) es = value bs ∷ es

abbrev pub entries : List Wish → List Entry
entries [] = []
entries (w ∷ ws) = entry_of w (entries ws)
