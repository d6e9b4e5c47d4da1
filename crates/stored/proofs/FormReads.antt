-- Every list of at most 32 statements as the stored form has them is a table: the state machine takes the entries that they stand for, one
-- after the other, to the end, and what is gathered from these entries is the statements again.
use Rattle.std.proofs.Common.{ℕ, suc, ◌+◌, ◌≤◌, ◌<◌, ◌≡◌, refl, sym, ◌∙◌, ap, subst, Bool, true, false, not, ◌&&◌, ◌||◌, List, [], ◌∷◌, ◌⊎◌, inl, inr, arith, add-zero, length, lt-ltb, le-ltb, eq-eqb, ne_eqb}
use Rattle.std.proofs.lemmas.Bool.{lt-leb}
use Rattle.stored.specs.Choice.{pick, In}
use Rattle.stored.specs.Items.{column_place, key_sort}
use Rattle.stored.specs.Operators.{row_of}
use Rattle.stored.specs.Values.{has_wildcard, is_star_alone}
use Rattle.stored.specs.Networks.{network_sound}
use Rattle.stored.specs.Machine.{Turn as T, fresh_state, is_ended, is_unknown, is_content, is_principals, is_text, same_sort, sound_in, takes_kind, leaves_empty, column_phase, place_due, counted_state, opened_state, listed_state, filled_state, ended_state, value_fault}
use Rattle.stored.specs.Reading.{ReadAnswer as A, reading}
use Rattle.stored.specs.Entries.{Entry, encode, AllFit}
use Rattle.stored.specs.Machinery.Following.{admit}
use Rattle.stored.specs.Entries.Entry.{start, statement, column, condition, network, value, end}
use Rattle.stored.specs.Tables.{Listed, Element, Condition, Statement, Part, before, gather, table_of, rows_of}
use Rattle.stored.specs.Form.{listed_for, elements_for, conditions_for, statements_for, entries_for, places_of, elements_list, conditions_list, WellFormed, MayHold, IsPrincipal, SoundElement, SoundCondition, SoundStatement}
use Rattle.stored.specs.Tables.Listed.{text, range}
use Rattle.stored.specs.declared.items.Column.{Column}
use Rattle.stored.specs.declared.items.Column.TheVariants as C
use Rattle.stored.specs.declared.items.Item.TheVariants as I
use Rattle.stored.specs.declared.items.Sort.{Sort}
use Rattle.stored.specs.declared.items.Sort.TheVariants as O
use Rattle.stored.specs.declared.records.Kind.{Kind}
use Rattle.stored.specs.declared.records.Kind.TheVariants as K
use Rattle.stored.specs.declared.machine.Phase.{Phase}
use Rattle.stored.specs.declared.machine.Phase.TheVariants as P
use Rattle.stored.specs.declared.machine.State.{State}
use Rattle.stored.proofs.Turns.{admits}
use Rattle.stored.proofs.Accepting.{Led}
use Rattle.stored.proofs.RoundTrip.{reads-back}

-- one entry more in front
one_more : (s : State) (e : Entry) (u : State) (es : List Entry) (n : ℕ) → admit s e ≡ T.Next u → Led u es n → Led s (e ∷ es) n
one_more s e u es n a l = record { last = l.last; leads = (u, a, l.leads); ended = l.ended; counted = l.counted }

-- what the kind alone decides, by the parts of the state that it looks at
abbrev due_in : Phase → ℕ → Bool → Kind → ℕ
due_in p left w k = pick (is_ended p) 4 (pick (is_unknown k) 3 (pick (leaves_empty w k) 5 (pick (takes_kind p left k) 0 4)))

-- a list is open
abbrev in_list : Phase → Bool
in_list P.Fresh = false
in_list P.Counted = false
in_list P.Opened = false
in_list P.Principals = true
in_list P.Actions = true
in_list P.Resources = true
in_list P.Conditions = true
in_list P.Ended = false

-- the three elements are there
abbrev is_behind : Phase → Bool
is_behind P.Fresh = false
is_behind P.Counted = false
is_behind P.Opened = false
is_behind P.Principals = false
is_behind P.Actions = false
is_behind P.Resources = true
is_behind P.Conditions = true
is_behind P.Ended = false

-- a statement or the end may come
abbrev is_between : Phase → Bool
is_between P.Fresh = false
is_between P.Counted = true
is_between P.Opened = false
is_between P.Principals = false
is_between P.Actions = false
is_between P.Resources = true
is_between P.Conditions = true
is_between P.Ended = false

behind-between : (p : Phase) → is_behind p ≡ true → is_between p ≡ true
behind-between P.Fresh e = e
behind-between P.Counted e = refl
behind-between P.Opened e = e
behind-between P.Principals e = e
behind-between P.Actions e = e
behind-between P.Resources e = e
behind-between P.Conditions e = e
behind-between P.Ended e = e

-- a value or a network is due where a list is open
no-empty : (w : Bool) (k : Kind) → is_content k ≡ true → leaves_empty w k ≡ false
no-empty true k c = rw c
no-empty false k c = refl

content-due : (p : Phase) (left : ℕ) (w : Bool) (k : Kind) → in_list p ≡ true → is_content k ≡ true → is_unknown k ≡ false → due_in p left w k ≡ 0
content-due P.Fresh left w k e c f = absurd (cc)
content-due P.Counted left w k e c f = absurd (cc)
content-due P.Opened left w k e c f = absurd (cc)
content-due P.Principals left w k e c f = rw (f, no-empty w k c, c)
content-due P.Actions left w k e c f = rw (f, no-empty w k c, c)
content-due P.Resources left w k e c f = rw (f, no-empty w k c, c)
content-due P.Conditions left w k e c f = rw (f, no-empty w k c, c)
content-due P.Ended left w k e c f = absurd (cc)

network-admitted : (s : State) (a n : ℕ) → in_list s.phase ≡ true → MayHold s.sort (range a n) → s.values < 64
    → admit s (network a n) ≡ T.Next (filled_state s (s.values + 1))
network-admitted s a n e h b =
    admits s (I.Network a n) [] _ (content-due s.phase s.left s.waiting K.Network e refl refl)
    (rw (lt-leb 64 s.values b, held s.sort h))
  where
    held : (sort : Sort) → MayHold sort (range a n) → (not (is_text sort) && network_sound a n) ≡ true
    held O.Text h = absurd h
    held O.Address h = h

sound-in : (p : Phase) (bs : List ℕ) → (is_principals p ≡ true → IsPrincipal bs) → sound_in p bs ≡ true
sound-in p bs = by (is_principals p) (is_star_alone bs) (has_wildcard bs)
  where
    by : (a b c : Bool) → (a ≡ true → (b ≡ true) ⊎ (c ≡ false)) → (not a || (b || not c)) ≡ true
    by true true c h = refl
    by true false true h = impossible (h refl)
      where
        impossible : (false ≡ true) ⊎ (true ≡ false) → (not true || (false || not true)) ≡ true
        impossible (inl e) = e
        impossible (inr e) = sym e
    by true false false h = refl
    by false b c h = refl

no-fault : (p : Phase) (sort : Sort) (bs : List ℕ) → MayHold sort (text bs) → (is_principals p ≡ true → IsPrincipal bs) → value_fault p sort bs ≡ 0
no-fault p O.Text bs h q =
    let low = h.0 in
    rw (ne_eqb (length bs) 0 (omega arith), le-ltb 128 (length bs) h.1, h.2, h.3, sound-in p bs q)
no-fault p O.Address bs h q = absurd h

value-admitted : (s : State) (bs : List ℕ) → in_list s.phase ≡ true → MayHold s.sort (text bs)
    → (is_principals s.phase ≡ true → IsPrincipal bs) → s.values < 64
    → admit s (value bs) ≡ T.Next (filled_state s (s.values + 1))
value-admitted s bs e h p b =
    admits s I.Value bs _ (content-due s.phase s.left s.waiting (K.Value (length bs)) e refl refl)
    (rw (lt-leb 64 s.values b, no-fault s.phase s.sort bs h p))

-- what a list holds is taken, behind its first element
more-listed : (l : List Listed) (s : State) (v : ℕ) (es : List Entry) (n : ℕ) → in_list s.phase ≡ true
    → ((x : Listed) → In x l → MayHold s.sort x) → (is_principals s.phase ≡ true → (bs : List ℕ) → In (text bs) l → IsPrincipal bs)
    → v + length l ≤ 64 → Led (filled_state s (v + length l)) es n → Led (filled_state s v) (listed_for l es) n
more-listed [] s v es n i h p b k = subst (λ (m : ℕ). Led (filled_state s m) es n) (add-zero v) k
more-listed (text bs ∷ l) s v es n i h p b k =
    let same : v + suc (length l) ≡ v + 1 + length l = omega arith in
    one_more (filled_state s v) (value bs) (filled_state s (v + 1)) (listed_for l es) n
    (value-admitted (filled_state s v) bs i (h (text bs) (inl refl)) (λ q. p q bs (inl refl)) (omega arith))
    (more-listed l s (v + 1) es n i (λ x j. h x (inr j)) (λ q y j. p q y (inr j)) (omega arith)
    (subst (λ (m : ℕ). Led (filled_state s m) es n) same k))
more-listed (range a m ∷ l) s v es n i h p b k =
    let same : v + suc (length l) ≡ v + 1 + length l = omega arith in
    one_more (filled_state s v) (network a m) (filled_state s (v + 1)) (listed_for l es) n
    (network-admitted (filled_state s v) a m i (h (range a m) (inl refl)) (omega arith))
    (more-listed l s (v + 1) es n i (λ x j. h x (inr j)) (λ q y j. p q y (inr j)) (omega arith)
    (subst (λ (m : ℕ). Led (filled_state s m) es n) same k))

-- what a list holds is taken, where it has an element
lists : (l : List Listed) (s : State) (es : List Entry) (n : ℕ) → 0 < length l → in_list s.phase ≡ true
    → ((x : Listed) → In x l → MayHold s.sort x) → (is_principals s.phase ≡ true → (bs : List ℕ) → In (text bs) l → IsPrincipal bs)
    → s.values + length l ≤ 64 → Led (filled_state s (s.values + length l)) es n → Led s (listed_for l es) n
lists [] s es n f i h p b k = absurd (omega arith)
lists (text bs ∷ l) s es n f i h p b k =
    let v = s.values in
    let same : v + suc (length l) ≡ v + 1 + length l = omega arith in
    one_more s (value bs) (filled_state s (v + 1)) (listed_for l es) n
    (value-admitted s bs i (h (text bs) (inl refl)) (λ q. p q bs (inl refl)) (omega arith))
    (more-listed l s (v + 1) es n i (λ x j. h x (inr j)) (λ q y j. p q y (inr j)) (omega arith)
    (subst (λ (m : ℕ). Led (filled_state s m) es n) same k))
lists (range a m ∷ l) s es n f i h p b k =
    let v = s.values in
    let same : v + suc (length l) ≡ v + 1 + length l = omega arith in
    one_more s (network a m) (filled_state s (v + 1)) (listed_for l es) n
    (network-admitted s a m i (h (range a m) (inl refl)) (omega arith))
    (more-listed l s (v + 1) es n i (λ x j. h x (inr j)) (λ q y j. p q y (inr j)) (omega arith)
    (subst (λ (m : ℕ). Led (filled_state s m) es n) same k))

-- a column: its place is below 3, it opens a list, and the next place comes behind it
record OfColumn (c : Column) : Type 0 where
  low : column_place c ≤ 2
  opens : in_list (column_phase c) ≡ true
  next : place_due (column_phase c) ≡ column_place c + 1
  principal : is_principals (column_phase c) ≡ true → column_place c ≡ 0
  last : column_place c ≡ 2 → is_behind (column_phase c) ≡ true

of-column : (c : Column) → OfColumn c
of-column C.Principal = record { low = omega arith; opens = refl; next = refl; principal = λ e. refl; last = λ e. absurd (omega arith) }
of-column C.Action = record { low = omega arith; opens = refl; next = refl; principal = λ e. absurd (cc); last = λ e. absurd (omega arith) }
of-column C.Resource = record { low = omega arith; opens = refl; next = refl; principal = λ e. absurd (cc); last = λ e. refl }
of-column C.NotPrincipal = record { low = omega arith; opens = refl; next = refl; principal = λ e. refl; last = λ e. absurd (omega arith) }
of-column C.NotAction = record { low = omega arith; opens = refl; next = refl; principal = λ e. absurd (cc); last = λ e. absurd (omega arith) }
of-column C.NotResource = record { low = omega arith; opens = refl; next = refl; principal = λ e. absurd (cc); last = λ e. refl }

place-due : (p : Phase) (left : ℕ) (w : Bool) (c : Column) → w ≡ false → place_due p ≡ column_place c → due_in p left w K.Column ≡ 0
place-due P.Fresh left w c f e = absurd (omega (arith, (of-column c).low))
place-due P.Counted left w c f e = absurd (omega (arith, (of-column c).low))
place-due P.Opened left w c f e = rw f
place-due P.Principals left w c f e = rw f
place-due P.Actions left w c f e = rw f
place-due P.Resources left w c f e = absurd (omega (arith, (of-column c).low))
place-due P.Conditions left w c f e = absurd (omega (arith, (of-column c).low))
place-due P.Ended left w c f e = absurd (omega (arith, (of-column c).low))

-- the state behind an element
abbrev behind_element : State → Element → State
behind_element s e = filled_state (listed_state s (column_phase e.name) s.conditions O.Text) (s.values + length e.values)

element-taken : (e : Element) (s : State) (es : List Entry) (n : ℕ) → s.waiting ≡ false → place_due s.phase ≡ column_place e.name
    → SoundElement e → 0 < length e.values → s.values + length e.values ≤ 64
    → Led (behind_element s e) es n → Led s (column e.name ∷ listed_for e.values es) n
element-taken e s es n w place sound filled bound k =
    let c = e.name in
    let u : State = listed_state s (column_phase c) s.conditions O.Text in
    one_more s (column c) u (listed_for e.values es) n
    (admits s (I.Column c) [] u (place-due s.phase s.left s.waiting c w place) (rw (eq-eqb (place_due s.phase) (column_place c) place)))
    (lists e.values u es n filled (of-column c).opens sound.holds (λ q. sound.principals ((of-column c).principal q)) bound k)

-- what a state keeps behind the elements or conditions of a statement
record Closed (s : State) (u : State) : Type 0 where
  waiting : u.waiting ≡ false
  left : u.left ≡ s.left
  rows : u.rows ≡ s.rows

-- the three elements of a statement are taken
elements-taken : (l : List Element) (s : State) (es : List Entry) (n : ℕ) → places_of l ≡ 0 ∷ 1 ∷ 2 ∷ []
    → ((e : Element) → In e l → SoundElement e) → ((e : Element) → In e l → 0 < length e.values) → elements_list l ≤ 64
    → ((u : State) → is_behind u.phase ≡ true → u.conditions ≡ 0 → u.values ≡ elements_list l → Closed (opened_state s) u → Led u es n)
    → Led (opened_state s) (elements_for l es) n
elements-taken [] s es n o h f b k = absurd (cc)
elements-taken (d ∷ []) s es n o h f b k = absurd (cc)
elements-taken (d ∷ e ∷ []) s es n o h f b k = absurd (cc)
elements-taken (d ∷ e ∷ g ∷ []) s es n o h f b k =
    let first : column_place d.name ≡ 0 = cc in
    let second : column_place e.name ≡ 1 = cc in
    let third : column_place g.name ≡ 2 = cc in
    let behind-first = (of-column d.name).next in
    let behind-second = (of-column e.name).next in
    let s1 : State = behind_element (opened_state s) d in
    let s2 : State = behind_element s1 e in
    let s3 : State = behind_element s2 g in
    element-taken d (opened_state s) (elements_for (e ∷ g ∷ []) es) n refl (sym first) (h d (inl refl)) (f d (inl refl)) (omega arith)
    (element-taken e s1 (elements_for (g ∷ []) es) n refl (omega arith) (h e (inr (inl refl))) (f e (inr (inl refl))) (omega arith)
    (element-taken g s2 es n refl (omega arith) (h g (inr (inr (inl refl)))) (f g (inr (inr (inl refl)))) (omega arith)
    (k s3 ((of-column g.name).last third) refl (omega arith) (record { waiting = refl; left = refl; rows = refl }))))
elements-taken (d ∷ e ∷ g ∷ x ∷ l) s es n o h f b k = absurd (cc)

condition-due : (p : Phase) (left : ℕ) (w : Bool) → is_behind p ≡ true → w ≡ false → due_in p left w K.Condition ≡ 0
condition-due P.Fresh left w e f = absurd (cc)
condition-due P.Counted left w e f = absurd (cc)
condition-due P.Opened left w e f = absurd (cc)
condition-due P.Principals left w e f = absurd (cc)
condition-due P.Actions left w e f = absurd (cc)
condition-due P.Resources left w e f = rw f
condition-due P.Conditions left w e f = rw f
condition-due P.Ended left w e f = absurd (cc)

sorts-agree : (a b : Sort) → a ≡ b → same_sort a b ≡ true
sorts-agree a b e = rw e (by b)
  where
    by : (b : Sort) → same_sort b b ≡ true
    by O.Text = refl
    by O.Address = refl

-- the conditions of a statement are taken
conditions-taken : (l : List Condition) (s : State) (es : List Entry) (n : ℕ) → is_behind s.phase ≡ true → s.waiting ≡ false
    → s.conditions + length l ≤ 4 → s.values + conditions_list l ≤ 64
    → ((c : Condition) → In c l → SoundCondition c) → ((c : Condition) → In c l → 0 < length c.values)
    → ((u : State) → is_between u.phase ≡ true → Closed s u → Led u es n)
    → Led s (conditions_for l es) n
conditions-taken [] s es n p w few b h f k = k s (behind-between s.phase p) (record { waiting = w; left = refl; rows = refl })
conditions-taken (c ∷ l) s es n p w few b h f k =
    let o = c.operator in
    let u : State = listed_state s P.Conditions (s.conditions + 1) (row_of o).sort in
    let sound = h c (inl refl) in
    one_more s (condition o c.key) u (listed_for c.values (conditions_for l es)) n
    (admits s (I.Condition o c.key) [] u (condition-due s.phase s.left s.waiting p w)
    (rw (lt-leb 4 s.conditions (omega arith), sorts-agree (row_of o).sort (key_sort c.key) sound.one_sort)))
    (lists c.values u (conditions_for l es) n (f c (inl refl)) refl
    (λ x i. subst (λ (sort : Sort). MayHold sort x) (sym sound.one_sort) (sound.holds x i)) (λ q. absurd (cc)) (omega arith)
    (conditions-taken l (filled_state u (s.values + length c.values)) es n refl refl (omega arith) (omega arith)
    (λ d i. h d (inr i)) (λ d i. f d (inr i))
    (λ v q r. k v q (record { waiting = r.waiting; left = r.left; rows = r.rows }))))

statement-due : (p : Phase) (left : ℕ) (w : Bool) → is_between p ≡ true → w ≡ false → 0 < left → due_in p left w K.Statement ≡ 0
statement-due P.Fresh left w e f h = absurd (cc)
statement-due P.Counted left w e f h = rw (f, lt-ltb 0 left h)
statement-due P.Opened left w e f h = absurd (cc)
statement-due P.Principals left w e f h = absurd (cc)
statement-due P.Actions left w e f h = absurd (cc)
statement-due P.Resources left w e f h = rw (f, lt-ltb 0 left h)
statement-due P.Conditions left w e f h = rw (f, lt-ltb 0 left h)
statement-due P.Ended left w e f h = absurd (cc)

end-due : (p : Phase) (left : ℕ) (w : Bool) → is_between p ≡ true → w ≡ false → left ≡ 0 → due_in p left w K.End ≡ 0
end-due P.Fresh left w e f h = absurd (cc)
end-due P.Counted left w e f h = rw (f, eq-eqb left 0 h)
end-due P.Opened left w e f h = absurd (cc)
end-due P.Principals left w e f h = absurd (cc)
end-due P.Actions left w e f h = absurd (cc)
end-due P.Resources left w e f h = rw (f, eq-eqb left 0 h)
end-due P.Conditions left w e f h = rw (f, eq-eqb left 0 h)
end-due P.Ended left w e f h = absurd (cc)

-- statements as the stored form has them
abbrev Sound : List Statement → Type 0
Sound l = (s : Statement) → In s l → WellFormed s × SoundStatement s

-- the statements left are taken, and the end
statements-taken : (l : List Statement) (s : State) → is_between s.phase ≡ true → s.waiting ≡ false → s.left ≡ length l → Sound l
    → Led s (statements_for l) s.rows
statements-taken [] s p w m h =
    one_more s end (ended_state s) [] s.rows (admits s I.End [] (ended_state s) (end-due s.phase s.left s.waiting p w m) refl)
    (record { last = ended_state s; leads = refl; ended = refl; counted = refl })
statements-taken (x ∷ l) s p w m h =
    let q = h x (inl refl) in
    let shape = q.0 in
    let held = shape.few_values in
    let few = shape.few_conditions in
    one_more s (statement x.effect) (opened_state s) (elements_for x.elements (conditions_for x.conditions (statements_for l))) s.rows
    (admits s (I.Statement x.effect) [] (opened_state s) (statement-due s.phase s.left s.waiting p w (omega arith)) refl)
    (elements-taken x.elements s (conditions_for x.conditions (statements_for l)) s.rows shape.in_order
    q.1.elements shape.elements_filled (omega arith)
    (λ u b zero many k. conditions-taken x.conditions u (statements_for l) s.rows b k.waiting (omega arith) (omega arith)
    q.1.conditions shape.conditions_filled
    (λ v c j.
    let left = k.left in
    let same = j.left in
    subst (Led v (statements_for l)) (j.rows ∙ k.rows)
    (statements-taken l v c j.waiting (omega arith) (λ y i. h y (inr i))))))

-- all of a table is taken
table_taken : (rows : List Statement) → length rows ≤ 32 → Sound rows → Led fresh_state (entries_for rows) (length rows)
table_taken rows few h =
    let n = length rows in
    one_more fresh_state (start n) (counted_state n) (statements_for rows) n
    (admits fresh_state (I.Start n) [] (counted_state n) refl (rw (le-ltb 32 n few)))
    (statements-taken rows (counted_state n) refl refl refl h)

-- what is gathered from the entries that statements stand for is the statements
gathered-lists : (l : List Listed) (es : List Entry) (elements : List Element) (conditions : List Condition) (rows : List Statement)
    → gather es ≡ record { values = []; elements = elements; conditions = conditions; rows = rows }
    → gather (listed_for l es) ≡ record { values = l; elements = elements; conditions = conditions; rows = rows }
gathered-lists [] es elements conditions rows h = h
gathered-lists (text bs ∷ l) es elements conditions rows h = ap (before (value bs)) (gathered-lists l es elements conditions rows h)
gathered-lists (range a n ∷ l) es elements conditions rows h = ap (before (network a n)) (gathered-lists l es elements conditions rows h)

gathered-elements : (l : List Element) (es : List Entry) (conditions : List Condition) (rows : List Statement)
    → gather es ≡ record { values = []; elements = []; conditions = conditions; rows = rows }
    → gather (elements_for l es) ≡ record { values = []; elements = l; conditions = conditions; rows = rows }
gathered-elements [] es conditions rows h = h
gathered-elements (e ∷ l) es conditions rows h =
    ap (before (column e.name)) (gathered-lists e.values (elements_for l es) l conditions rows (gathered-elements l es conditions rows h))

gathered-conditions : (l : List Condition) (es : List Entry) (rows : List Statement)
    → gather es ≡ record { values = []; elements = []; conditions = []; rows = rows }
    → gather (conditions_for l es) ≡ record { values = []; elements = []; conditions = l; rows = rows }
gathered-conditions [] es rows h = h
gathered-conditions (c ∷ l) es rows h =
    ap (before (condition c.operator c.key)) (gathered-lists c.values (conditions_for l es) [] l rows (gathered-conditions l es rows h))

gathered-statements : (l : List Statement) → gather (statements_for l) ≡ record { values = []; elements = []; conditions = []; rows = l }
gathered-statements [] = refl
gathered-statements (s ∷ l) =
    ap (before (statement s.effect))
    (gathered-elements s.elements (conditions_for s.conditions (statements_for l)) s.conditions l
    (gathered-conditions s.conditions (statements_for l) l (gathered-statements l)))

pub table-of-entries : (rows : List Statement) → table_of (entries_for rows) ≡ rows
table-of-entries rows = ap (λ (p : Part). p.rows) (gathered-statements rows)

-- at most 32 statements as the stored form has them, in at most 16,384 bytes, are a table that reads, and are its statements
pub form-reads : (rows : List Statement) → length rows ≤ 32 → ((s : Statement) → In s rows → WellFormed s × SoundStatement s)
    → AllFit (entries_for rows) → length (encode (entries_for rows)) ≤ 16384
    → (reading (encode (entries_for rows)) ≡ A.Accepted (length rows)) × (rows_of (encode (entries_for rows)) ≡ rows)
form-reads rows few h fit short =
    let l = table_taken rows few h in
    let r = reads-back (entries_for rows) l.last l.leads l.ended fit short in
    (r.0 ∙ ap A.Accepted (sym l.counted), ap table_of r.1 ∙ table-of-entries rows)
