-- The statements of a table that reads are well formed: from every state on, what is still to come of the statement at hand and what was
-- taken of it together keep the order of the elements, the bounds 4 and 64, and no list without a value.
use Rattle.std.proofs.Common.{ℕ, ◌+◌, ◌≤◌, ◌<◌, ◌≡◌, refl, sym, ◌∙◌, ap, subst, Bool, true, false, ◌&&◌, List, [], ◌∷◌, ⊎_elim, arith, length}
use Rattle.stored.specs.Choice.{In}
use Rattle.stored.specs.Items.{column_place}
use Rattle.stored.specs.Operators.{row_of}
use Rattle.stored.specs.Machine.{Turn as T, is_ended, is_content, only_column, takes_kind, leaves_empty, column_phase, place_due, counted_state, opened_state, listed_state, filled_state, ended_state, kind_of_item}
use Rattle.stored.specs.Reading.{ReadAnswer as A, reading}
use Rattle.stored.specs.Entries.{Entry, item_of, bytes_of, entries_of}
use Rattle.stored.specs.Machinery.Following.{admit}
use Rattle.stored.specs.Entries.Entry.{start, statement, column, condition, network, value, end}
use Rattle.stored.specs.Tables.{Listed, Element, Condition, Statement, Part, gather, table_of, rows_of}
use Rattle.stored.specs.Form.{places_of, elements_list, conditions_list, WellFormed}
use Rattle.stored.specs.Tables.Listed.{text, range}
use Rattle.stored.specs.declared.items.Column.{Column}
use Rattle.stored.specs.declared.items.Column.TheVariants as C
use Rattle.stored.specs.declared.items.Sort.TheVariants as O
use Rattle.stored.specs.declared.records.Kind.{Kind}
use Rattle.stored.specs.declared.records.Kind.TheVariants as K
use Rattle.stored.specs.declared.machine.Phase.{Phase}
use Rattle.stored.specs.declared.machine.Phase.TheVariants as P
use Rattle.stored.specs.declared.machine.State.{State}
use Rattle.stored.proofs.Turns.{admitted, fills, Within, within}
use Rattle.stored.proofs.Accepting.{Leads, is_fresh, start_first, column-fresh, column-ended, took, starts, read-leads}

-- the columns still to come in the statement at hand
abbrev columns_due : Phase → List ℕ
columns_due P.Fresh = []
columns_due P.Counted = []
columns_due P.Opened = 0 ∷ 1 ∷ 2 ∷ []
columns_due P.Principals = 1 ∷ 2 ∷ []
columns_due P.Actions = 2 ∷ []
columns_due P.Resources = []
columns_due P.Conditions = []
columns_due P.Ended = []

-- a column that comes in turn is the first of those still to come
column-due : (p : Phase) (left : ℕ) (c : Column) → takes_kind p left K.Column ≡ true → place_due p ≡ column_place c
    → column_place c ∷ columns_due (column_phase c) ≡ columns_due p
column-due P.Fresh left c e h = absurd (cc)
column-due P.Counted left c e h = absurd (cc)
column-due P.Opened left C.Principal e h = refl
column-due P.Opened left C.Action e h = absurd (omega arith)
column-due P.Opened left C.Resource e h = absurd (omega arith)
column-due P.Opened left C.NotPrincipal e h = refl
column-due P.Opened left C.NotAction e h = absurd (omega arith)
column-due P.Opened left C.NotResource e h = absurd (omega arith)
column-due P.Principals left C.Principal e h = absurd (omega arith)
column-due P.Principals left C.Action e h = refl
column-due P.Principals left C.Resource e h = absurd (omega arith)
column-due P.Principals left C.NotPrincipal e h = absurd (omega arith)
column-due P.Principals left C.NotAction e h = refl
column-due P.Principals left C.NotResource e h = absurd (omega arith)
column-due P.Actions left C.Principal e h = absurd (omega arith)
column-due P.Actions left C.Action e h = absurd (omega arith)
column-due P.Actions left C.Resource e h = refl
column-due P.Actions left C.NotPrincipal e h = absurd (omega arith)
column-due P.Actions left C.NotAction e h = absurd (omega arith)
column-due P.Actions left C.NotResource e h = refl
column-due P.Resources left c e h = absurd (cc)
column-due P.Conditions left c e h = absurd (cc)
column-due P.Ended left c e h = absurd (cc)

-- where a kind comes that is neither a column nor in a list, no column is still to come
none-due : (p : Phase) (left : ℕ) (k : Kind) → takes_kind p left k ≡ true → only_column k ≡ false → is_content k ≡ false
    → [] ≡ columns_due p
none-due P.Fresh left k e h c = refl
none-due P.Counted left k e h c = refl
none-due P.Opened left k e h c = absurd (cc)
none-due P.Principals left k e h c = absurd (cc)
none-due P.Actions left k e h c = absurd (cc)
none-due P.Resources left k e h c = refl
none-due P.Conditions left k e h c = refl
none-due P.Ended left k e h c = refl

ended-due : (p : Phase) → is_ended p ≡ true → [] ≡ columns_due p
ended-due P.Fresh e = refl
ended-due P.Counted e = refl
ended-due P.Opened e = absurd (cc)
ended-due P.Principals e = absurd (cc)
ended-due P.Actions e = absurd (cc)
ended-due P.Resources e = refl
ended-due P.Conditions e = refl
ended-due P.Ended e = refl

-- what taking an entry says besides: it leaves no list empty, and keeps the bounds
besides : (s : State) (e : Entry) (u : State) → admit s e ≡ T.Next u
    → (leaves_empty s.waiting (kind_of_item (item_of e) (length (bytes_of e))) ≡ false) × Within s e
besides s e u h =
    let d = admitted s (item_of e) (bytes_of e) u h in
    (fills s (kind_of_item (item_of e) (length (bytes_of e))) d.0, within s e u d.1)

-- where neither a value nor a network may come, no list is left empty
not-waiting : (w : Bool) → (w && true) ≡ false → w ≡ false
not-waiting true e = e
not-waiting false e = refl

-- what holds of every state behind the number of statements
record Kept (s : State) : Type 0 where
  begun : is_fresh s.phase ≡ false
  few_conditions : s.conditions ≤ 4
  few_values : s.values ≤ 64
  closed : is_ended s.phase ≡ true → s.waiting ≡ false

-- what is still to come from a state on, beside what was taken of the statement at hand
record Due (s : State) (p : Part) : Type 0 where
  in_order : places_of p.elements ≡ columns_due s.phase
  elements_filled : (e : Element) → In e p.elements → 0 < length e.values
  few_conditions : s.conditions + length p.conditions ≤ 4
  conditions_filled : (c : Condition) → In c p.conditions → 0 < length c.values
  few_values : s.values + (length p.values + (elements_list p.elements + conditions_list p.conditions)) ≤ 64
  list_filled : s.waiting ≡ true → 0 < length p.values
  well_formed : (r : Statement) → In r p.rows → WellFormed r

-- a value or a network more in the list at hand
filled-kept : (s : State) → Kept s → s.values < 64 → Kept (filled_state s (s.values + 1))
filled-kept s h bound =
    record { begun = h.begun; few_conditions = h.few_conditions; few_values = omega arith; closed = λ e. refl }

listed_more : (s : State) (p : Part) (x : Listed) → Due (filled_state s (s.values + 1)) p
    → Due s (record { values = x ∷ p.values; elements = p.elements; conditions = p.conditions; rows = p.rows })
listed_more s p x r =
    record {
      in_order = r.in_order;
      elements_filled = r.elements_filled;
      few_conditions = r.few_conditions;
      conditions_filled = r.conditions_filled;
      few_values = omega arith;
      list_filled = λ w. omega arith;
      well_formed = r.well_formed;
    }

due : (es : List Entry) (s last : State) → Leads s es last → is_ended last.phase ≡ true → Kept s → Due s (gather es)
due [] s last l d h =
    let open-list : s.waiting ≡ false = h.closed (rw l d) in
    record {
      in_order = ended-due s.phase (rw l d);
      elements_filled = λ e i. absurd i;
      few_conditions = omega arith;
      conditions_filled = λ c i. absurd i;
      few_values = omega arith;
      list_filled = λ w. absurd (cc);
      well_formed = λ r i. absurd i;
    }
due (start n ∷ es) s last l d h =
    let k = took s (start n) l.0 l.1 in
    let e : is_fresh s.phase ≡ true = start_first s.phase s.left k.0 in
    let f = h.begun in
    absurd (cc)
due (statement x ∷ es) s last l d h =
    let k = took s (statement x) l.0 l.1 in
    let b = besides s (statement x) l.0 l.1 in
    let open-list : s.waiting ≡ false = not-waiting s.waiting b.0 in
    let r = due es (opened_state s) last (rw k.1 at l.2) d
    (record { begun = refl; few_conditions = omega arith; few_values = omega arith; closed = λ e. refl }) in
    let row : Statement = record { effect = x; elements = (gather es).elements; conditions = (gather es).conditions } in
    let whole : WellFormed row
    = record {
      in_order = r.in_order;
      elements_filled = r.elements_filled;
      few_conditions = omega arith;
      conditions_filled = r.conditions_filled;
      few_values = omega arith;
    } in
    record {
      in_order = none-due s.phase s.left K.Statement k.0 refl refl;
      elements_filled = λ e i. absurd i;
      few_conditions = omega arith;
      conditions_filled = λ c i. absurd i;
      few_values = omega arith;
      list_filled = λ w. absurd (cc);
      well_formed = λ q i. ⊎_elim (λ (e : q ≡ row). subst WellFormed (sym e) whole) (r.well_formed q) i;
    }
due (column c ∷ es) s last l d h =
    let k = took s (column c) l.0 l.1 in
    let b = besides s (column c) l.0 l.1 in
    let open-list : s.waiting ≡ false = not-waiting s.waiting b.0 in
    let not-ended = column-ended c in
    let r = due es (listed_state s (column_phase c) s.conditions O.Text) last (rw k.1.1 at l.2) d
    (record { begun = column-fresh c; few_conditions = h.few_conditions; few_values = h.few_values; closed = λ e. absurd (cc) }) in
    let element : Element = record { name = c; values = (gather es).values } in
    let filled : 0 < length (gather es).values = r.list_filled refl in
    record {
      in_order = ap (column_place c ∷◌) r.in_order ∙ column-due s.phase s.left c k.0 k.1.0;
      elements_filled = λ q i. ⊎_elim (λ (e : q ≡ element). subst (λ (y : Element). 0 < length y.values) (sym e) filled) (r.elements_filled q) i;
      few_conditions = r.few_conditions;
      conditions_filled = r.conditions_filled;
      few_values = omega arith;
      list_filled = λ w. absurd (cc);
      well_formed = r.well_formed;
    }
due (condition o q ∷ es) s last l d h =
    let k = took s (condition o q) l.0 l.1 in
    let b = besides s (condition o q) l.0 l.1 in
    let bound : s.conditions < 4 = b.1 in
    let open-list : s.waiting ≡ false = not-waiting s.waiting b.0 in
    let r = due es (listed_state s P.Conditions (s.conditions + 1) (row_of o).sort) last (rw k.1 at l.2) d
    (record { begun = refl; few_conditions = omega arith; few_values = h.few_values; closed = λ e. absurd (cc) }) in
    let one : Condition = record { operator = o; key = q; values = (gather es).values } in
    let filled : 0 < length (gather es).values = r.list_filled refl in
    record {
      in_order = r.in_order ∙ none-due s.phase s.left K.Condition k.0 refl refl;
      elements_filled = r.elements_filled;
      few_conditions = omega arith;
      conditions_filled = λ y i. ⊎_elim (λ (e : y ≡ one). subst (λ (z : Condition). 0 < length z.values) (sym e) filled) (r.conditions_filled y) i;
      few_values = omega arith;
      list_filled = λ w. absurd (cc);
      well_formed = r.well_formed;
    }
due (network a n ∷ es) s last l d h =
    let k = took s (network a n) l.0 l.1 in
    let bound : s.values < 64 = (besides s (network a n) l.0 l.1).1 in
    listed_more s (gather es) (range a n)
    (due es (filled_state s (s.values + 1)) last (rw k.1 at l.2) d (filled-kept s h bound))
due (value bs ∷ es) s last l d h =
    let k = took s (value bs) l.0 l.1 in
    let bound : s.values < 64 = (besides s (value bs) l.0 l.1).1 in
    listed_more s (gather es) (text bs)
    (due es (filled_state s (s.values + 1)) last (rw k.1.2 at l.2) d (filled-kept s h bound))
due (end ∷ es) s last l d h =
    let k = took s end l.0 l.1 in
    let b = besides s end l.0 l.1 in
    let open-list : s.waiting ≡ false = not-waiting s.waiting b.0 in
    let r = due es (ended_state s) last (rw k.1 at l.2) d
    (record { begun = refl; few_conditions = h.few_conditions; few_values = h.few_values; closed = λ e. open-list }) in
    record {
      in_order = r.in_order ∙ none-due s.phase s.left K.End k.0 refl refl;
      elements_filled = r.elements_filled;
      few_conditions = r.few_conditions;
      conditions_filled = r.conditions_filled;
      few_values = r.few_values;
      list_filled = r.list_filled;
      well_formed = r.well_formed;
    }

-- in a table that reads, every statement is well formed
pub well_formed : (t : List ℕ) (n : ℕ) → reading t ≡ A.Accepted n → (s : Statement) → In s (rows_of t) → WellFormed s
well_formed t n e s i =
    let l = read-leads t n e in
    let k = starts (entries_of t) l.last l.leads l.ended in
    let r = due k.rest (counted_state k.number) l.last k.leads l.ended
    (record { begun = refl; few_conditions = omega arith; few_values = omega arith; closed = λ h. refl }) in
    r.well_formed s (subst (λ (es : List Entry). In s (table_of es)) k.first i)
