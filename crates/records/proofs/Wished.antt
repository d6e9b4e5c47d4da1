-- The entries that a document wishes for are those of its statements.
use Rattle.std.proofs.Common.{ℕ, Bool, true, false, ◌≡◌, refl, ◌∙◌, ap, List, [], ◌∷◌, length}
use Rattle.json_text.specs.Choice.{pick}
use Rattle.json_text.specs.Choice.{same_bytes}
use Rattle.json_text.specs.Trees.{Tree}
use Rattle.json_text.specs.Trees.Shape.{one, several, named}
use Rattle.json_text.specs.Trees.Tree.{text, other, list, object, end_list, element, end_object, member}
use Rattle.stored.specs.Operators.{row_of}
use Rattle.stored.specs.Entries.{Entry}
use Rattle.stored.specs.Entries.Entry.{start, statement, column, condition, network, value, end}
use Rattle.stored.specs.Tables.{Listed, Element, Condition, Statement}
use Rattle.stored.specs.Form.{listed_for, elements_for, conditions_for, statements_for, entries_for}
use Rattle.stored.specs.declared.items.Effect.TheVariants as E
use Rattle.stored.specs.declared.items.Operator.{Operator}
use Rattle.stored.specs.declared.items.Sort.{Sort}
use Rattle.stored.specs.declared.items.Sort.TheVariants as S
use Rattle.members.specs.Members.{place, operator_kind, key_kind}
use Rattle.records.specs.Networks.{network_of}
use Rattle.records.specs.Networks as N
use Rattle.records.specs.Documents.{Found, held, stated, marked, members_of, holder, same, allow_text, deny_text, bytes, operator_at, key_at, column_at, each, strings, effect_of, range, listed_by, listed, element_in, conditions_under, conditions_of, statement_of, each_statement, statements_under, statements_of}
use Rattle.records.specs.Wishes.{Wish, network_wish, string_wish, each_wish, list_wishes, value_wishes, effect_wish, element_wishes, key_wishes, operator_wishes, statement_wishes, row_wishes, rows_wishes, wishes, entry_of, entries}

string-wished : (s : Sort) (n : ℕ) (bs : List ℕ) (xs : List Listed) (r : List Wish) (es : List Entry) → entries r ≡ listed_for xs es
    → entries (string_wish s n bs ∷ r) ≡ listed_for (listed_by s bs ∷ xs) es
string-wished S.Text n bs xs r es h = ap (λ (ys : List Entry). value bs ∷ ys) h
string-wished S.Address n bs xs r es h = by (network_of bs)
  where
    by : (x : N.Read) → entry_of (network_wish n bs x) (entries r) ≡ listed_for (range bs x ∷ xs) es
    by (N.Read.network a k) = ap (λ (ys : List Entry). network a k ∷ ys) h
    by N.Read.none = ap (λ (ys : List Entry). value bs ∷ ys) h

each-wished : (s : Sort) (vs : Tree several) (r : List Wish) → entries (each_wish s vs r) ≡ listed_for (listed s (each vs)) (entries r)
each-wished s (end_list n) r = refl
each-wished s (element (text n bs) vs) r = string-wished s n bs (listed s (each vs)) (each_wish s vs r) (entries r) (each-wished s vs r)
each-wished s (element (other n) vs) r = each-wished s vs r
each-wished s (element (list n xs) vs) r = each-wished s vs r
each-wished s (element (object n ms) vs) r = each-wished s vs r

list-wished : (s : Sort) (n : ℕ) (vs : Tree several) (r : List Wish) → entries (list_wishes s n vs r) ≡ listed_for (listed s (each vs)) (entries r)
list-wished s n (end_list m) r = refl
list-wished s n (element v vs) r = each-wished s (element v vs) r

value-wished : (s : Sort) (v : Tree one) (r : List Wish) → entries (value_wishes s v r) ≡ listed_for (listed s (strings v)) (entries r)
value-wished s (text n bs) r = string-wished s n bs [] r (entries r) refl
value-wished s (other n) r = refl
value-wished s (list n vs) r = list-wished s n vs r
value-wished s (object n ms) r = refl

effect-wished : (n : ℕ) (bs : List ℕ) (es : List Entry) → entry_of (effect_wish n bs) es ≡ statement (effect_of bs) ∷ es
effect-wished n bs es = by (same_bytes bs allow_text) (same_bytes bs deny_text)
  where
    by : (x y : Bool) → entry_of (pick x (Wish.made n (statement E.Allow)) (pick y (Wish.made n (statement E.Deny)) (Wish.strange n))) es ≡ statement (pick x E.Allow E.Deny) ∷ es
    by true y = refl
    by false true = refl
    by false false = refl

element-wished : (read : Tree one → Tree one) (x : Found) (r : List Wish) (xs : List Element) (es : List Entry) → entries r ≡ elements_for xs es
    → entries (element_wishes read x r) ≡ elements_for (element_in read x xs) es
element-wished read Found.none r xs es h = h
element-wished read (Found.found k v) r xs es h =
    ap (λ (ys : List Entry). column (column_at k) ∷ ys) (value-wished S.Text (read v) r ∙ ap (listed_for (listed S.Text (strings (read v)))) h)

key-wished : (o : Operator) (ms : Tree named) (r : List Wish) (cs : List Condition) (es : List Entry) → entries r ≡ conditions_for cs es
    → entries (key_wishes o ms r) ≡ conditions_for (conditions_under o ms cs) es
key-wished o (end_object n) r cs es h = h
key-wished o (member n x v ms) r cs es h =
    ap (λ (ys : List Entry). condition o (key_at (key_kind x)) ∷ ys)
    (value-wished (row_of o).sort v (key_wishes o ms r) ∙ ap (listed_for (listed (row_of o).sort (strings v))) (key-wished o ms r cs es h))

operator-wished : (ms : Tree named) (r : List Wish) → entries (operator_wishes ms r) ≡ conditions_for (conditions_of ms) (entries r)
operator-wished (end_object n) r = refl
operator-wished (member n x v ms) r =
    key-wished (operator_at (operator_kind x)) (members_of v) (operator_wishes ms r) (conditions_of ms) (entries r) (operator-wished ms r)

statement-wished : (ms : Tree named) (r : List Wish) (rows : List Statement) → entries r ≡ statements_for rows
    → entries (statement_wishes ms r) ≡ statements_for (statement_of ms ∷ rows)
statement-wished ms r rows h =
    let cs = conditions_of (members_of (held (marked 6 ms))) in
    let tail = conditions_for cs (statements_for rows) in
    let behind = operator_wishes (members_of (held (marked 6 ms))) r in
    let e0 = operator-wished (members_of (held (marked 6 ms))) r ∙ ap (conditions_for cs) h in
    let e1 = element-wished same (marked 5 ms) behind [] tail e0 in
    let e2 = element-wished same (marked 4 ms) (element_wishes same (marked 5 ms) behind) (element_in same (marked 5 ms) []) tail e1 in
    let e3 = element-wished holder (marked 3 ms) (element_wishes same (marked 4 ms) (element_wishes same (marked 5 ms) behind)) (element_in same (marked 4 ms) (element_in same (marked 5 ms) [])) tail e2 in
    effect-wished (place (held (marked 2 ms))) (bytes (held (marked 2 ms))) _
    ∙ ap (λ (ys : List Entry). statement (effect_of (bytes (held (marked 2 ms)))) ∷ ys) e3

rows-wished : (vs : Tree several) (r : List Wish) → entries r ≡ end ∷ [] → entries (row_wishes vs r) ≡ statements_for (each_statement vs)
rows-wished (end_list n) r h = h
rows-wished (element v vs) r h = statement-wished (members_of v) (row_wishes vs r) (each_statement vs) (rows-wished vs r h)

under-wished : (v : Tree one) (r : List Wish) → entries r ≡ end ∷ [] → entries (rows_wishes v r) ≡ statements_for (statements_under v)
under-wished (text n bs) r h = h
under-wished (other n) r h = h
under-wished (list n vs) r h = rows-wished vs r h
under-wished (object n ms) r h = statement-wished ms r [] h

-- the entries of a document's wishes are those that its statements stand for
pub wished : (v : Tree one) → entries (wishes v) ≡ entries_for (statements_of v)
wished v =
    ap (λ (ys : List Entry). start (length (statements_of v)) ∷ ys) (under-wished (held (stated (members_of v))) (Wish.made 0 end ∷ []) refl)
