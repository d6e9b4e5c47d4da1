-- What the lists of a table that reads hold: from every state on, the values and networks still to come are of the sort of the list at hand
-- and sound by themselves.
use Rattle.std.proofs.Common.{ℕ, ◌+◌, ◌≡◌, refl, sym, subst, Bool, true, false, not, ◌&&◌, ◌||◌, List, [], ◌∷◌, ◌⊎◌, inl, inr, ⊎_elim, arith, eqb, leb, ltb, length, eqb-true}
use Rattle.std.proofs.lemmas.Bool.{not-true}
use Rattle.stored.specs.Choice.{pick, In}
use Rattle.stored.specs.Items.{column_place, key_sort}
use Rattle.stored.specs.Operators.{row_of}
use Rattle.stored.specs.Values.{in_range, has_variable, has_wildcard, is_star_alone}
use Rattle.stored.specs.Networks.{network_sound}
use Rattle.stored.specs.Machine.{Turn as T, is_principals, is_text, same_sort, sound_in, column_phase, counted_state, opened_state, listed_state, filled_state, ended_state, value_fault, turn_of}
use Rattle.stored.specs.Reading.{ReadAnswer as A, reading}
use Rattle.stored.specs.Entries.{Entry, item_of, bytes_of, entries_of}
use Rattle.stored.specs.Machinery.Following.{admit}
use Rattle.stored.specs.Entries.Entry.{start, statement, column, condition, network, value, end}
use Rattle.stored.specs.Tables.{Listed, Element, Condition, Statement, Part, empty, gather, table_of, rows_of}
use Rattle.stored.specs.Form.{MayHold, IsPrincipal, SoundElement, SoundCondition, SoundStatement}
use Rattle.stored.specs.Tables.Listed.{text, range}
use Rattle.stored.specs.declared.items.Column.{Column}
use Rattle.stored.specs.declared.items.Column.TheVariants as C
use Rattle.stored.specs.declared.items.Sort.{Sort}
use Rattle.stored.specs.declared.items.Sort.TheVariants as O
use Rattle.stored.specs.declared.machine.Phase.{Phase}
use Rattle.stored.specs.declared.machine.Phase.TheVariants as P
use Rattle.stored.specs.declared.machine.State.{State}
use Rattle.stored.proofs.Choosing.{both_left, both_right}
use Rattle.stored.proofs.Turns.{refused-else, else-refused, admitted, sized}
use Rattle.stored.proofs.Accepting.{Leads, is_fresh, start_first, column-fresh, took, starts, read-leads}
use Rattle.stored.proofs.EntriesFor.{ended-none}

-- what a taken entry says of what it holds
abbrev Holds : State → Entry → Type 0
Holds s (start n) = Unit {0}
Holds s (statement e) = Unit {0}
Holds s (column c) = Unit {0}
Holds s (condition o k) = (row_of o).sort ≡ key_sort k
Holds s (network a n) = MayHold s.sort (range a n)
Holds s (value bs) = MayHold s.sort (text bs) × (is_principals s.phase ≡ true → IsPrincipal bs)
Holds s end = Unit {0}

same-sort : (a b : Sort) → same_sort a b ≡ true → a ≡ b
same-sort O.Text O.Text e = refl
same-sort O.Text O.Address e = absurd (cc)
same-sort O.Address O.Text e = absurd (cc)
same-sort O.Address O.Address e = refl

network-held : (sort : Sort) (a n : ℕ) → not (is_text sort) ≡ true → network_sound a n ≡ true → MayHold sort (range a n)
network-held O.Text a n e h = absurd (cc)
network-held O.Address a n e h = h

text-held : (sort : Sort) (bs : List ℕ) → is_text sort ≡ true → MayHold O.Text (text bs) → MayHold sort (text bs)
text-held O.Text bs e h = h
text-held O.Address bs e h = absurd (cc)

-- a value with no fault
faultless : (p : Phase) (sort : Sort) (bs : List ℕ) → value_fault p sort bs ≡ 0 → MayHold sort (text bs) × (is_principals p ≡ true → IsPrincipal bs)
faultless p sort bs e =
    let long = sized p sort bs e in
    let f = by (eqb (length bs) 0 || ltb 128 (length bs)) (in_range bs) (is_text sort && (not (has_variable bs) && sound_in p bs)) e in
    let rest = both_right (is_text sort) (not (has_variable bs) && sound_in p bs) f.1 in (
      text-held sort bs (both_left (is_text sort) (not (has_variable bs) && sound_in p bs) f.1)
          (long.0, long.1, f.0, not-true (has_variable bs) (both_left (not (has_variable bs)) (sound_in p bs) rest)),
      principal (is_principals p) (is_star_alone bs) (has_wildcard bs) (both_right (not (has_variable bs)) (sound_in p bs) rest),
    )
  where
    by : (a b c : Bool) → pick {A = ℕ} a 6 (pick b (pick c 0 8) 7) ≡ 0 → (b ≡ true) × (c ≡ true)
    by true b c h = absurd (omega arith)
    by false true true h = (refl, refl)
    by false true false h = absurd (omega arith)
    by false false c h = absurd (omega arith)

    principal : (a b c : Bool) → (not a || (b || not c)) ≡ true → a ≡ true → (b ≡ true) ⊎ (c ≡ false)
    principal true true c h g = inl refl
    principal true false true h g = absurd (cc)
    principal true false false h g = inr refl
    principal false b c h g = absurd (cc)

holds : (s : State) (e : Entry) (u : State) → admit s e ≡ T.Next u → Holds s e
holds s e u a = by e (admitted s (item_of e) (bytes_of e) u a).1
  where
    by : (e : Entry) → turn_of s (item_of e) (bytes_of e) ≡ T.Next u → Holds s e
    by (start n) h = tt
    by (statement x) h = tt
    by (column c) h = tt
    by (condition o k) h =
        let next = T.Next (listed_state s P.Conditions (s.conditions + 1) (row_of o).sort) in
        let same = same_sort (row_of o).sort (key_sort k) in
        same-sort (row_of o).sort (key_sort k)
        (else-refused same next 8 u (refused-else (leb 4 s.conditions) 6 (pick same next (T.Refused 8)) u h).1).0
    by (network a n) h =
        let next = T.Next (filled_state s (s.values + 1)) in
        let sound = not (is_text s.sort) && network_sound a n in
        let q : sound ≡ true = (else-refused sound next 8 u (refused-else (leb 64 s.values) 6 (pick sound next (T.Refused 8)) u h).1).0 in
        network-held s.sort a n (both_left (not (is_text s.sort)) (network_sound a n) q) (both_right (not (is_text s.sort)) (network_sound a n) q)
    by (value bs) h =
        let next = T.Next (filled_state s (s.values + 1)) in
        let fault = value_fault s.phase s.sort bs in
        let r = refused-else (leb 64 s.values) 6 (pick (eqb fault 0) next (T.Refused fault)) u h in
        faultless s.phase s.sort bs (eqb-true fault 0 (else-refused (eqb fault 0) next fault u r.1).0)
    by end h = tt

-- an element of column 0 opens the list of principals
opens-principals : (c : Column) → column_place c ≡ 0 → is_principals (column_phase c) ≡ true
opens-principals C.Principal e = refl
opens-principals C.Action e = absurd (omega arith)
opens-principals C.Resource e = absurd (omega arith)
opens-principals C.NotPrincipal e = refl
opens-principals C.NotAction e = absurd (omega arith)
opens-principals C.NotResource e = absurd (omega arith)

-- what is still to come from a state on holds only what it may
record Sounded (s : State) (p : Part) : Type 0 where
  listed : (x : Listed) → In x p.values → MayHold s.sort x
  principals : is_principals s.phase ≡ true → (bs : List ℕ) → In (text bs) p.values → IsPrincipal bs
  elements : (e : Element) → In e p.elements → SoundElement e
  conditions : (c : Condition) → In c p.conditions → SoundCondition c
  rows : (r : Statement) → In r p.rows → SoundStatement r

nothing : (s : State) → Sounded s empty
nothing s =
    record {
      listed = λ x i. absurd i;
      principals = λ h bs i. absurd i;
      elements = λ e i. absurd i;
      conditions = λ c i. absurd i;
      rows = λ r i. absurd i;
    }

sounded : (es : List Entry) (s last : State) → Leads s es last → is_fresh s.phase ≡ false → Sounded s (gather es)
sounded [] s last l f = nothing s
sounded (start n ∷ es) s last l f =
    let e : is_fresh s.phase ≡ true = start_first s.phase s.left (took s (start n) l.0 l.1).0 in
    absurd (cc)
sounded (statement x ∷ es) s last l f =
    let r = sounded es (opened_state s) last (rw (took s (statement x) l.0 l.1).1 at l.2) refl in
    let row : Statement = record { effect = x; elements = (gather es).elements; conditions = (gather es).conditions } in
    let sound : SoundStatement row = record { elements = r.elements; conditions = r.conditions } in
    record {
      listed = λ y i. absurd i;
      principals = λ h bs i. absurd i;
      elements = λ e i. absurd i;
      conditions = λ c i. absurd i;
      rows = λ q i. ⊎_elim (λ (e : q ≡ row). subst SoundStatement (sym e) sound) (r.rows q) i;
    }
sounded (column c ∷ es) s last l f =
    let r = sounded es (listed_state s (column_phase c) s.conditions O.Text) last (rw (took s (column c) l.0 l.1).1.1 at l.2) (column-fresh c) in
    let element : Element = record { name = c; values = (gather es).values } in
    let sound : SoundElement element = record { holds = r.listed; principals = λ h. r.principals (opens-principals c h) } in
    record {
      listed = λ y i. absurd i;
      principals = λ h bs i. absurd i;
      elements = λ q i. ⊎_elim (λ (e : q ≡ element). subst SoundElement (sym e) sound) (r.elements q) i;
      conditions = r.conditions;
      rows = r.rows;
    }
sounded (condition o k ∷ es) s last l f =
    let same : (row_of o).sort ≡ key_sort k = holds s (condition o k) l.0 l.1 in
    let u : State = listed_state s P.Conditions (s.conditions + 1) (row_of o).sort in
    let r = sounded es u last (rw (took s (condition o k) l.0 l.1).1 at l.2) refl in
    let one : Condition = record { operator = o; key = k; values = (gather es).values } in
    let sound : SoundCondition one
    = record { one_sort = same; holds = λ x i. subst (λ (sort : Sort). MayHold sort x) same (r.listed x i) } in
    record {
      listed = λ y i. absurd i;
      principals = λ h bs i. absurd i;
      elements = r.elements;
      conditions = λ q i. ⊎_elim (λ (e : q ≡ one). subst SoundCondition (sym e) sound) (r.conditions q) i;
      rows = r.rows;
    }
sounded (network a n ∷ es) s last l f =
    let r = sounded es (filled_state s (s.values + 1)) last (rw (took s (network a n) l.0 l.1).1 at l.2) f in
    let held = holds s (network a n) l.0 l.1 in
    record {
      listed = λ x i. ⊎_elim (λ (e : x ≡ range a n). subst (MayHold s.sort) (sym e) held) (r.listed x) i;
      principals = λ h bs i. ⊎_elim (λ (e : text bs ≡ range a n). absurd (cc)) (r.principals h bs) i;
      elements = r.elements;
      conditions = r.conditions;
      rows = r.rows;
    }
sounded (value v ∷ es) s last l f =
    let r = sounded es (filled_state s (s.values + 1)) last (rw (took s (value v) l.0 l.1).1.2 at l.2) f in
    let held = holds s (value v) l.0 l.1 in
    record {
      listed = λ x i. ⊎_elim (λ (e : x ≡ text v). subst (MayHold s.sort) (sym e) held.0) (r.listed x) i;
      principals = λ h bs i. ⊎_elim (λ (e : text bs ≡ text v). let same : v ≡ bs = cc in subst IsPrincipal same (held.1 h)) (r.principals h bs) i;
      elements = r.elements;
      conditions = r.conditions;
      rows = r.rows;
    }
sounded (end ∷ es) s last l f =
    let next = rw (took s end l.0 l.1).1 at l.2 in
    rw (ended-none es (ended_state s) last next refl) (nothing s)

-- in a table that reads, every statement lists only what it may
pub sound : (t : List ℕ) (n : ℕ) → reading t ≡ A.Accepted n → (s : Statement) → In s (rows_of t) → SoundStatement s
sound t n e s i =
    let l = read-leads t n e in
    let k = starts (entries_of t) l.last l.leads l.ended in
    (sounded k.rest (counted_state k.number) l.last k.leads refl).rows s (subst (λ (es : List Entry). In s (table_of es)) k.first i)
