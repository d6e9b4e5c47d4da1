-- Nothing of a table is lost in its statements: the entries of a table that reads are those that its statements stand for, so that the
-- statements decide the entries.
use Rattle.std.proofs.Common.{ℕ, ◌+◌, ◌≡◌, refl, sym, ◌∙◌, ap, true, false, List, [], ◌∷◌, length}
use Rattle.stored.specs.Operators.{row_of}
use Rattle.stored.specs.Machine.{is_ended, takes_kind, column_phase, counted_state, opened_state, listed_state, filled_state, ended_state, kind_of_item}
use Rattle.stored.specs.Reading.{ReadAnswer as A, reading}
use Rattle.stored.specs.Entries.{Entry, item_of, bytes_of, entries_of}
use Rattle.stored.specs.Entries.Entry.{start, statement, column, condition, network, value, end}
use Rattle.stored.specs.Tables.{Part, gather, table_of, rows_of}
use Rattle.stored.specs.Form.{listed_for, elements_for, conditions_for, statements_for, entries_for}
use Rattle.stored.specs.declared.items.Sort.TheVariants as O
use Rattle.stored.specs.declared.records.Kind.{Kind}
use Rattle.stored.specs.declared.machine.Phase.{Phase}
use Rattle.stored.specs.declared.machine.Phase.TheVariants as P
use Rattle.stored.specs.declared.machine.State.{State}
use Rattle.stored.proofs.Accepting.{Leads, is_fresh, start_first, column-fresh, column-ended, took, rows_left, starts, read-leads}

-- the entries that stand behind a place of a table
abbrev part : Part → List Entry
part p = listed_for p.values (elements_for p.elements (conditions_for p.conditions (statements_for p.rows)))

-- nothing is taken behind the end
ended-takes : (p : Phase) → is_ended p ≡ true → (left : ℕ) (k : Kind) → takes_kind p left k ≡ false
ended-takes P.Fresh e left k = absurd (cc)
ended-takes P.Counted e left k = absurd (cc)
ended-takes P.Opened e left k = absurd (cc)
ended-takes P.Principals e left k = absurd (cc)
ended-takes P.Actions e left k = absurd (cc)
ended-takes P.Resources e left k = absurd (cc)
ended-takes P.Conditions e left k = absurd (cc)
ended-takes P.Ended e left k = refl

pub ended-none : (es : List Entry) (s last : State) → Leads s es last → is_ended s.phase ≡ true → es ≡ []
ended-none [] s last l e = refl
ended-none (x ∷ es) s last l e =
    let k = (took s x l.0 l.1).0 in
    let none = ended-takes s.phase e s.left (kind_of_item (item_of x) (length (bytes_of x))) in
    absurd (cc)

-- behind the number of statements nothing is listed, named or asked before the first statement
nothing-before : (es : List Entry) (n : ℕ) (last : State) → Leads (counted_state n) es last
    → ((gather es).values ≡ []) × ((gather es).elements ≡ []) × ((gather es).conditions ≡ [])
nothing-before [] n last l = (refl, refl, refl)
nothing-before (start m ∷ es) n last l = absurd (let e = (took (counted_state n) (start m) l.0 l.1).0 in cc)
nothing-before (statement x ∷ es) n last l = (refl, refl, refl)
nothing-before (column c ∷ es) n last l = absurd (let e = (took (counted_state n) (column c) l.0 l.1).0 in cc)
nothing-before (condition o q ∷ es) n last l = absurd (let e = (took (counted_state n) (condition o q) l.0 l.1).0 in cc)
nothing-before (network a m ∷ es) n last l = absurd (let e = (took (counted_state n) (network a m) l.0 l.1).0 in cc)
nothing-before (value bs ∷ es) n last l = absurd (let e = (took (counted_state n) (value bs) l.0 l.1).0 in cc)
nothing-before (end ∷ es) n last l =
    let k = took (counted_state n) end l.0 l.1 in
    rw (ended-none es (ended_state (counted_state n)) last (rw k.1 at l.2) refl) (refl, refl, refl)

-- a statement begins with a column, and not with a value
no-list-yet : (es : List Entry) (s last : State) → Leads (opened_state s) es last → (gather es).values ≡ []
no-list-yet [] s last l = refl
no-list-yet (start m ∷ es) s last l = absurd (let e = (took (opened_state s) (start m) l.0 l.1).0 in cc)
no-list-yet (statement x ∷ es) s last l = refl
no-list-yet (column c ∷ es) s last l = refl
no-list-yet (condition o q ∷ es) s last l = refl
no-list-yet (network a m ∷ es) s last l = absurd (let e = (took (opened_state s) (network a m) l.0 l.1).0 in cc)
no-list-yet (value bs ∷ es) s last l = absurd (let e = (took (opened_state s) (value bs) l.0 l.1).0 in cc)
no-list-yet (end ∷ es) s last l = absurd (let e = (took (opened_state s) end l.0 l.1).0 in cc)

-- no column comes behind a condition of its statement
conditions-last : (es : List Entry) (s last : State) → Leads s es last → s.phase ≡ P.Conditions → (gather es).elements ≡ []
conditions-last [] s last l h = refl
conditions-last (start m ∷ es) s last l h = absurd (let e = rw h at (took s (start m) l.0 l.1).0 in cc)
conditions-last (statement x ∷ es) s last l h = refl
conditions-last (column c ∷ es) s last l h = absurd (let e = rw h at (took s (column c) l.0 l.1).0 in cc)
conditions-last (condition o q ∷ es) s last l h =
    let k = took s (condition o q) l.0 l.1 in
    conditions-last es (listed_state s P.Conditions (s.conditions + 1) (row_of o).sort) last (rw k.1 at l.2) refl
conditions-last (network a n ∷ es) s last l h =
    let k = took s (network a n) l.0 l.1 in
    conditions-last es (filled_state s (s.values + 1)) last (rw k.1 at l.2) h
conditions-last (value bs ∷ es) s last l h =
    let k = took s (value bs) l.0 l.1 in
    conditions-last es (filled_state s (s.values + 1)) last (rw k.1.2 at l.2) h
conditions-last (end ∷ es) s last l h =
    let k = took s end l.0 l.1 in
    rw (ended-none es (ended_state s) last (rw k.1 at l.2) refl) refl

-- entries that lead to the end are those that what is gathered from them stands for
unfolds : (es : List Entry) (s last : State) → Leads s es last → is_ended last.phase ≡ true
    → is_fresh s.phase ≡ false → is_ended s.phase ≡ false → es ≡ part (gather es)
unfolds [] s last l d f g =
    let e : is_ended s.phase ≡ true = rw l d in
    absurd (cc)
unfolds (start n ∷ es) s last l d f g =
    let e : is_fresh s.phase ≡ true = start_first s.phase s.left (took s (start n) l.0 l.1).0 in
    absurd (cc)
unfolds (statement x ∷ es) s last l d f g =
    let next = rw (took s (statement x) l.0 l.1).1 at l.2 in
    ap (statement x ∷◌) (rw (no-list-yet es s last next) at (unfolds es (opened_state s) last next d refl refl))
unfolds (column c ∷ es) s last l d f g =
    let next = rw (took s (column c) l.0 l.1).1.1 at l.2 in
    ap (column c ∷◌) (unfolds es (listed_state s (column_phase c) s.conditions O.Text) last next d (column-fresh c) (column-ended c))
unfolds (condition o q ∷ es) s last l d f g =
    let u : State = listed_state s P.Conditions (s.conditions + 1) (row_of o).sort in
    let next : Leads u es last = rw (took s (condition o q) l.0 l.1).1 at l.2 in
    let none = conditions-last es u last next refl in
    rw none (ap (condition o q ∷◌) (rw none at (unfolds es u last next d refl refl)))
unfolds (network a n ∷ es) s last l d f g =
    let next = rw (took s (network a n) l.0 l.1).1 at l.2 in
    ap (network a n ∷◌) (unfolds es (filled_state s (s.values + 1)) last next d f g)
unfolds (value bs ∷ es) s last l d f g =
    let next = rw (took s (value bs) l.0 l.1).1.2 at l.2 in
    ap (value bs ∷◌) (unfolds es (filled_state s (s.values + 1)) last next d f g)
unfolds (end ∷ es) s last l d f g =
    let next = rw (took s end l.0 l.1).1 at l.2 in
    rw (ended-none es (ended_state s) last next refl) refl

-- the entries of a table that reads are those that its statements stand for
pub stands-for : (t : List ℕ) (n : ℕ) → reading t ≡ A.Accepted n → entries_of t ≡ entries_for (rows_of t)
stands-for t n e =
    let l = read-leads t n e in
    let k = starts (entries_of t) l.last l.leads l.ended in
    let rows = table_of k.rest in
    let none = nothing-before k.rest k.number l.last k.leads in
    let count : length rows ≡ k.number = (rows_left k.rest (counted_state k.number) l.last k.leads l.ended refl (λ h. absurd (cc))).0 in
    let rest : k.rest ≡ statements_for rows
    = rw (none.0, none.1, none.2) at (unfolds k.rest (counted_state k.number) l.last k.leads l.ended refl refl) in
    k.first
    ∙ ap (λ (m : ℕ). start m ∷ k.rest) (sym count)
    ∙ ap (start (length rows) ∷◌) rest
    ∙ ap (λ (es : List Entry). entries_for (table_of es)) (sym k.first)
