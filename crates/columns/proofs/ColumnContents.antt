-- What a walk over the entries of a table finds in a column is what stands there in the table's statements: a list is open from its own
-- record to the next that opens or closes one. Elements speak of columns 0 to 2 and conditions of 3 to 7, so the order is the same.
use Rattle.std.proofs.Common.{ℕ, ◌+◌, ◌≤◌, ◌<◌, ◌≡◌, refl, sym, ap, ap₂, ◌∙◌, Bool, true, false, List, [], ◌∷◌, ◌++◌, append_assoc, arith, eqb, ltb, length, ltb-true, ltb-false, ne_eqb}
use Rattle.stored.specs.Choice.{pick}
use Rattle.stored.specs.Items.{column_place, key_code}
use Rattle.stored.specs.Entries.{Entry, item_of, bytes_of}
use Rattle.stored.specs.Machinery.Following.{Follows, Accepted}
use Rattle.stored.specs.Machine.{fresh_state, only_start, next_row, takes_kind, kind_of_item}
use Rattle.stored.specs.Tables.{Listed, Element, Condition, Statement, gather, table_of}
use Rattle.stored.specs.declared.items.Column.{Column}
use Rattle.stored.specs.declared.items.Column.TheVariants as C
use Rattle.stored.specs.declared.items.Key.{Key}
use Rattle.stored.specs.declared.records.Kind.{Kind}
use Rattle.stored.specs.declared.records.Kind.TheVariants as K
use Rattle.stored.specs.declared.machine.Phase.{Phase}
use Rattle.stored.specs.declared.machine.Phase.TheVariants as P
use Rattle.stored.specs.declared.machine.State.{State}
use Rattle.stored.proofs.Turns.{Turned, admitted, in-turn, turned}
use Rattle.matching.specs.declared.reading.Reading.{Reading}
use Rattle.judging.specs.Meaning.{element_reading, operator_reading, condition_column}
use Rattle.columns.specs.Values.{read_as, element_values, condition_values, values_in, networks_of, condition_networks, networks_in}
use Rattle.columns.specs.Machinery.Contents.{listed_as, element_contents, condition_contents, contents_in, texts, networks, contents_from}

-- an element speaks of column 0, 1 or 2
pub place-low : (name : Column) → column_place name < 3
place-low C.Principal = omega arith
place-low C.Action = omega arith
place-low C.Resource = omega arith
place-low C.NotPrincipal = omega arith
place-low C.NotAction = omega arith
place-low C.NotResource = omega arith

-- anything follows from a test having both outcomes
never : {A : Type 0} → false ≡ true → A
never e = let z : ◌≡◌ {A = ℕ} 0 1 = cc in absurd (omega arith)

no-elements : (column : ℕ) → 3 ≤ column → (es : List Element) → element_contents column es ≡ []
no-elements column high [] = refl
no-elements column high (e ∷ es) =
    let low = place-low e.name in
    rw (ne_eqb (column_place e.name) column (λ same. omega arith)) (no-elements column high es)

pick-none : {A : Type 0} (b : Bool) → ◌≡◌ {A = List A} (pick b [] []) []
pick-none true = refl
pick-none false = refl

-- elements in front of the list of a condition
past-elements : (column : ℕ) (k : Key) (es : List Element) (l m rows : List (Reading × Listed))
    → pick (eqb (3 + key_code k) column) l [] ++ ((element_contents column es ++ m) ++ rows)
    ≡ (element_contents column es ++ (pick (eqb (3 + key_code k) column) l [] ++ m)) ++ rows
past-elements column k es l m rows = by (ltb column 3) refl
  where
    by : (t : Bool) → ltb column 3 ≡ t → pick (eqb (3 + key_code k) column) l [] ++ ((element_contents column es ++ m) ++ rows)
        ≡ (element_contents column es ++ (pick (eqb (3 + key_code k) column) l [] ++ m)) ++ rows
    by true e =
        let low = ltb-true column 3 e in
        rw (ne_eqb (3 + key_code k) column (λ same. omega arith))
    by false e =
        rw (no-elements column (ltb-false column 3 e) es) (sym (append_assoc (pick (eqb (3 + key_code k) column) l []) m rows))

walked : (column : ℕ) (here : Bool) (reading : Reading) (es : List Entry)
    → contents_from column here reading es
    ≡ pick here (listed_as reading (gather es).values) []
    ++ ((element_contents column (gather es).elements ++ condition_contents column (gather es).conditions) ++ contents_in column (gather es).rows)
walked column here reading [] = rw (pick-none {A = Reading × Listed} here)
walked column here reading (Entry.start n ∷ es) = walked column here reading es
walked column here reading (Entry.statement e ∷ es) = rw (pick-none {A = Reading × Listed} here) (walked column false reading es)
walked column here reading (Entry.column c ∷ es) =
    rw (pick-none {A = Reading × Listed} here) (walked column (eqb (column_place c) column) (element_reading c) es ∙ simp append_assoc)
walked column here reading (Entry.condition o k ∷ es) =
    rw (pick-none {A = Reading × Listed} here)
    (walked column (eqb (3 + key_code k) column) (operator_reading o) es
    ∙ past-elements column k (gather es).elements (listed_as (operator_reading o) (gather es).values) (condition_contents column (gather es).conditions) (contents_in column (gather es).rows))
walked column true reading (Entry.network a n ∷ es) = ap ((reading, Listed.range a n) ∷◌) (walked column true reading es)
walked column false reading (Entry.network a n ∷ es) = walked column false reading es
walked column true reading (Entry.value bs ∷ es) = ap ((reading, Listed.text bs) ∷◌) (walked column true reading es)
walked column false reading (Entry.value bs ∷ es) = walked column false reading es
walked column here reading (Entry.end ∷ es) = walked column here reading es

-- where no statement is at hand: before the first, and behind the end
abbrev is_outside : Phase → Bool
is_outside P.Fresh = true
is_outside P.Counted = true
is_outside P.Opened = false
is_outside P.Principals = false
is_outside P.Actions = false
is_outside P.Resources = false
is_outside P.Conditions = false
is_outside P.Ended = true

-- outside a statement no list may open and no value may come
not-outside : (p : Phase) (left : ℕ) (k : Kind) → only_start k ≡ false → next_row left k ≡ false → takes_kind p left k ≡ true → is_outside p ≡ true → ⊥
not-outside P.Fresh left k s r e o = never (sym s ∙ e)
not-outside P.Counted left k s r e o = never (sym r ∙ e)
not-outside P.Opened left k s r e o = never o
not-outside P.Principals left k s r e o = never o
not-outside P.Actions left k s r e o = never o
not-outside P.Resources left k s r e o = never o
not-outside P.Conditions left k s r e o = never o
not-outside P.Ended left k s r e o = never e

-- every list of a table is in a statement
none-loose : (es : List Entry) (s : State) → Follows s es → is_outside s.phase ≡ true → ((gather es).elements ≡ []) × ((gather es).conditions ≡ [])
none-loose [] s f o = (refl, refl)
none-loose (e ∷ es) s (u, step, f) o =
    let a = admitted s (item_of e) (bytes_of e) u step in
    by e (in-turn s (kind_of_item (item_of e) (length (bytes_of e))) a.0) (turned s e u a.1) (none-loose es u f)
  where
    by : (e : Entry) → takes_kind s.phase s.left (kind_of_item (item_of e) (length (bytes_of e))) ≡ true → Turned s e u
        → (is_outside u.phase ≡ true → ((gather es).elements ≡ []) × ((gather es).conditions ≡ []))
        → ((gather (e ∷ es)).elements ≡ []) × ((gather (e ∷ es)).conditions ≡ [])
    by (Entry.start n) takes next rest = rest (ap (λ (x : State). is_outside x.phase) next.1)
    by (Entry.statement x) takes next rest = (refl, refl)
    by (Entry.column c) takes next rest = absurd (not-outside s.phase s.left K.Column refl refl takes o)
    by (Entry.condition x k) takes next rest = absurd (not-outside s.phase s.left K.Condition refl refl takes o)
    by (Entry.network x n) takes next rest = absurd (not-outside s.phase s.left K.Network refl refl takes o)
    by (Entry.value bs) takes next rest = absurd (not-outside s.phase s.left (K.Value (length bs)) refl refl takes o)
    by Entry.end takes next rest = rest (ap (λ (x : State). is_outside x.phase) next)

-- a walk over the entries of a table finds what stands in its statements
pub walk-contents : (column : ℕ) (reading : Reading) (es : List Entry) → Accepted es → contents_from column false reading es ≡ contents_in column (table_of es)
walk-contents column reading es a =
    let none = none-loose es fresh_state a refl in
    walked column false reading es ∙ rw (none.0, none.1)

-- strings and networks among contents

texts-append : (xs ys : List (Reading × Listed)) → texts (xs ++ ys) ≡ texts xs ++ texts ys
texts-append [] ys = refl
texts-append ((reading, Listed.text v) ∷ xs) ys = ap ((reading, v) ∷◌) (texts-append xs ys)
texts-append ((reading, Listed.range n length) ∷ xs) ys = texts-append xs ys

networks-append : (xs ys : List (Reading × Listed)) → networks (xs ++ ys) ≡ networks xs ++ networks ys
networks-append [] ys = refl
networks-append ((reading, Listed.text v) ∷ xs) ys = networks-append xs ys
networks-append ((reading, Listed.range n length) ∷ xs) ys = ap ((n, length) ∷◌) (networks-append xs ys)

texts-listed : (reading : Reading) (l : List Listed) → texts (listed_as reading l) ≡ read_as reading l
texts-listed reading [] = refl
texts-listed reading (Listed.text v ∷ l) = ap ((reading, v) ∷◌) (texts-listed reading l)
texts-listed reading (Listed.range n length ∷ l) = texts-listed reading l

networks-listed : (reading : Reading) (l : List Listed) → networks (listed_as reading l) ≡ networks_of l
networks-listed reading [] = refl
networks-listed reading (Listed.text v ∷ l) = networks-listed reading l
networks-listed reading (Listed.range n length ∷ l) = ap ((n, length) ∷◌) (networks-listed reading l)

texts-chosen : (b : Bool) (reading : Reading) (l : List Listed) → texts (pick b (listed_as reading l) []) ≡ pick b (read_as reading l) []
texts-chosen true reading l = texts-listed reading l
texts-chosen false reading l = refl

networks-chosen : (b : Bool) (reading : Reading) (l : List Listed) → networks (pick b (listed_as reading l) []) ≡ pick b (networks_of l) []
networks-chosen true reading l = networks-listed reading l
networks-chosen false reading l = refl

element-texts : (column : ℕ) (es : List Element) → texts (element_contents column es) ≡ element_values column es
element-texts column [] = refl
element-texts column (e ∷ es) =
    texts-append (pick (eqb (column_place e.name) column) (listed_as (element_reading e.name) e.values) []) (element_contents column es)
    ∙ ap₂ ◌++◌ (texts-chosen (eqb (column_place e.name) column) (element_reading e.name) e.values) (element-texts column es)

condition-texts : (column : ℕ) (ds : List Condition) → texts (condition_contents column ds) ≡ condition_values column ds
condition-texts column [] = refl
condition-texts column (d ∷ ds) =
    texts-append (pick (eqb (condition_column d) column) (listed_as (operator_reading d.operator) d.values) []) (condition_contents column ds)
    ∙ ap₂ ◌++◌ (texts-chosen (eqb (condition_column d) column) (operator_reading d.operator) d.values) (condition-texts column ds)

condition-networks : (ds : List Condition) → networks (condition_contents 7 ds) ≡ condition_networks ds
condition-networks [] = refl
condition-networks (d ∷ ds) =
    networks-append (pick (eqb (condition_column d) 7) (listed_as (operator_reading d.operator) d.values) []) (condition_contents 7 ds)
    ∙ ap₂ ◌++◌ (networks-chosen (eqb (condition_column d) 7) (operator_reading d.operator) d.values) (condition-networks ds)

-- the strings of a column are its values
pub texts-in : (column : ℕ) (rows : List Statement) → texts (contents_in column rows) ≡ values_in column rows
texts-in column [] = refl
texts-in column (s ∷ rows) =
    texts-append (element_contents column s.elements ++ condition_contents column s.conditions) (contents_in column rows)
    ∙ ap₂ ◌++◌
    (texts-append (element_contents column s.elements) (condition_contents column s.conditions)
    ∙ ap₂ ◌++◌ (element-texts column s.elements) (condition-texts column s.conditions))
    (texts-in column rows)

-- the networks of column 7, of which no element speaks
pub networks-in : (rows : List Statement) → networks (contents_in 7 rows) ≡ networks_in rows
networks-in [] = refl
networks-in (s ∷ rows) =
    networks-append (element_contents 7 s.elements ++ condition_contents 7 s.conditions) (contents_in 7 rows)
    ∙ ap₂ ◌++◌
    (ap (λ (l : List (Reading × Listed)). networks (l ++ condition_contents 7 s.conditions)) (no-elements 7 (omega arith) s.elements)
    ∙ condition-networks s.conditions)
    (networks-in rows)
