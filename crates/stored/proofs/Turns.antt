-- What the state machine's taking an entry says: its kind is in turn, and which state comes next.
use Rattle.std.proofs.Common.{ℕ, ◌+◌, ◌≤◌, ◌<◌, ◌≡◌, refl, Bool, true, false, not, ◌&&◌, ◌||◌, List, arith, eqb, leb, ltb, length, ltb-false, leb-false, eqb-true}
use Rattle.std.proofs.lemmas.Bool.{eqb-false}
use Rattle.stored.specs.Choice.{pick}
use Rattle.stored.specs.Items.{column_place, key_sort}
use Rattle.stored.specs.Operators.{row_of}
use Rattle.stored.specs.Values.{in_range, has_variable}
use Rattle.stored.specs.Networks.{network_sound}
use Rattle.stored.specs.Machine.{Turn as T, Turn, is_ended, is_unknown, is_text, same_sort, sound_in, takes_kind, leaves_empty, due_of, column_phase, place_due, counted_state, opened_state, listed_state, filled_state, ended_state, value_fault, turn_of, kind_of_item, admit_item}
use Rattle.stored.specs.Entries.{Entry, entry_of, item_of, bytes_of}
use Rattle.stored.specs.Machinery.Following.{admit}
use Rattle.stored.specs.Entries.Entry.{start, statement, column, condition, network, value, end}
use Rattle.stored.specs.declared.items.Item.{Item}
use Rattle.stored.specs.declared.items.Item.TheVariants as I
use Rattle.stored.specs.declared.items.Sort.{Sort}
use Rattle.stored.specs.declared.items.Sort.TheVariants as S
use Rattle.stored.specs.declared.records.Kind.{Kind}
use Rattle.stored.specs.declared.machine.Phase.{Phase}
use Rattle.stored.specs.declared.machine.Phase.TheVariants as P
use Rattle.stored.specs.declared.machine.State.{State}

-- a choice between a refusal and a turn that ends in a next state
pub refused-else : (b : Bool) (m : ℕ) (x : Turn) (u : State) → pick b (T.Refused m) x ≡ T.Next u → (b ≡ false) × (x ≡ T.Next u)
refused-else true m x u e = absurd (cc)
refused-else false m x u e = (refl, e)

pub else-refused : (b : Bool) (x : Turn) (m : ℕ) (u : State) → pick b x (T.Refused m) ≡ T.Next u → (b ≡ true) × (x ≡ T.Next u)
else-refused true x m u e = (refl, e)
else-refused false x m u e = absurd (cc)

-- an item that is taken has a kind in turn, and the whole record decides the next state
pub admitted : (s : State) (i : Item) (bs : List ℕ) (u : State) → admit_item s i bs ≡ T.Next u
    → (due_of s (kind_of_item i (length bs)) ≡ 0) × (turn_of s i bs ≡ T.Next u)
unfolding admit_item
admitted s i bs u e =
    let due = due_of s (kind_of_item i (length bs)) in
    let r = else-refused (eqb due 0) (turn_of s i bs) due u e in
    (eqb-true due 0 r.0, r.1)

pub admits : (s : State) (i : Item) (bs : List ℕ) (u : State) → due_of s (kind_of_item i (length bs)) ≡ 0 → turn_of s i bs ≡ T.Next u
    → admit_item s i bs ≡ T.Next u
unfolding admit_item
admits s i bs u d e = rw d e

-- only a value looks at the bytes beside an item
pub same-admit : (s : State) (i : Item) (bs : List ℕ) → admit s (entry_of i bs) ≡ admit_item s i bs
unfolding admit_item
same-admit s (I.Start n) bs = refl
same-admit s (I.Statement e) bs = refl
same-admit s (I.Column c) bs = refl
same-admit s (I.Condition o k) bs = refl
same-admit s (I.Network a n) bs = refl
same-admit s I.Value bs = refl
same-admit s I.End bs = refl

-- a kind that is due: the table is not at its end, no list is left empty, and the kind has a place
pub in-turn : (s : State) (k : Kind) → due_of s k ≡ 0 → takes_kind s.phase s.left k ≡ true
in-turn s k = ended (is_ended s.phase)
  where
    place : (d : Bool) → pick {A = ℕ} d 0 4 ≡ 0 → d ≡ true
    place true e = refl
    place false e = absurd (omega arith)

    empty : (c d : Bool) → pick {A = ℕ} c 5 (pick d 0 4) ≡ 0 → d ≡ true
    empty true d e = absurd (omega arith)
    empty false d e = place d e

    strange : (b c d : Bool) → pick {A = ℕ} b 3 (pick c 5 (pick d 0 4)) ≡ 0 → d ≡ true
    strange true c d e = absurd (omega arith)
    strange false c d e = empty c d e

    ended : (a : Bool) → pick {A = ℕ} a 4 (pick (is_unknown k) 3 (pick (leaves_empty s.waiting k) 5 (pick (takes_kind s.phase s.left k) 0 4))) ≡ 0
        → takes_kind s.phase s.left k ≡ true
    ended true e = absurd (omega arith)
    ended false e = strange (is_unknown k) (leaves_empty s.waiting k) (takes_kind s.phase s.left k) e

-- a kind that is due leaves no list empty
pub fills : (s : State) (k : Kind) → due_of s k ≡ 0 → leaves_empty s.waiting k ≡ false
fills s k = by (is_ended s.phase) (is_unknown k) (leaves_empty s.waiting k) (takes_kind s.phase s.left k)
  where
    by : (a b c d : Bool) → pick {A = ℕ} a 4 (pick b 3 (pick c 5 (pick d 0 4))) ≡ 0 → c ≡ false
    by true b c d e = absurd (omega arith)
    by false true c d e = absurd (omega arith)
    by false false true d e = absurd (omega arith)
    by false false false d e = refl

-- the next state, by the entry taken
abbrev pub Turned : State → Entry → State → Type 0
Turned s (start n) u = (n ≤ 32) × (u ≡ counted_state n)
Turned s (statement e) u = u ≡ opened_state s
Turned s (column c) u = (place_due s.phase ≡ column_place c) × (u ≡ listed_state s (column_phase c) s.conditions S.Text)
Turned s (condition o k) u = u ≡ listed_state s P.Conditions (s.conditions + 1) (row_of o).sort
Turned s (network a n) u = u ≡ filled_state s (s.values + 1)
Turned s (value bs) u = (0 < length bs) × (length bs ≤ 128) × (u ≡ filled_state s (s.values + 1))
Turned s end u = u ≡ ended_state s

-- a value with no fault has 1 to 128 bytes
pub sized : (p : Phase) (sort : Sort) (bs : List ℕ) → value_fault p sort bs ≡ 0 → (0 < length bs) × (length bs ≤ 128)
sized p sort bs = go (eqb (length bs) 0) refl (ltb 128 (length bs)) refl
  where
    rest : ℕ
    rest = pick (in_range bs) (pick (is_text sort && (not (has_variable bs) && sound_in p bs)) 0 8) 7

    go : (a : Bool) → eqb (length bs) 0 ≡ a → (b : Bool) → ltb 128 (length bs) ≡ b → pick (a || b) 6 rest ≡ 0
        → (0 < length bs) × (length bs ≤ 128)
    go true ea b eb e = absurd (omega arith)
    go false ea true eb e = absurd (omega arith)
    go false ea false eb e = (omega (arith, eqb-false (length bs) 0 ea), ltb-false 128 (length bs) eb)

pub turned : (s : State) (e : Entry) (u : State) → turn_of s (item_of e) (bytes_of e) ≡ T.Next u → Turned s e u
turned s (start n) u h =
    let r = refused-else (ltb 32 n) 6 (T.Next (counted_state n)) u h in
    (ltb-false 32 n r.0, cc)
turned s (statement e) u h = cc
turned s (column c) u h =
    let r = else-refused (eqb (place_due s.phase) (column_place c)) (T.Next (listed_state s (column_phase c) s.conditions S.Text)) 4 u h in
    (eqb-true (place_due s.phase) (column_place c) r.0, cc)
turned s (condition o k) u h =
    let next = T.Next (listed_state s P.Conditions (s.conditions + 1) (row_of o).sort) in
    let r = refused-else (leb 4 s.conditions) 6 (pick (same_sort (row_of o).sort (key_sort k)) next (T.Refused 8)) u h in
    let q = else-refused (same_sort (row_of o).sort (key_sort k)) next 8 u r.1 in
    cc
turned s (network a n) u h =
    let next = T.Next (filled_state s (s.values + 1)) in
    let sound = not (is_text s.sort) && network_sound a n in
    let r = refused-else (leb 64 s.values) 6 (pick sound next (T.Refused 8)) u h in
    let q = else-refused sound next 8 u r.1 in
    cc
turned s (value bs) u h =
    let next = T.Next (filled_state s (s.values + 1)) in
    let fault = value_fault s.phase s.sort bs in
    let r = refused-else (leb 64 s.values) 6 (pick (eqb fault 0) next (T.Refused fault)) u h in
    let q = else-refused (eqb fault 0) next fault u r.1 in
    let z = sized s.phase s.sort bs (eqb-true fault 0 q.0) in
    (z.0, z.1, cc)
turned s end u h = cc

-- the bounds that a taken entry keeps: a condition is at most the fourth, a value or a network at most the 64th
abbrev pub Within : State → Entry → Type 0
Within s (start n) = Unit {0}
Within s (statement e) = Unit {0}
Within s (column c) = Unit {0}
Within s (condition o k) = s.conditions < 4
Within s (network a n) = s.values < 64
Within s (value bs) = s.values < 64
Within s end = Unit {0}

pub within : (s : State) (e : Entry) (u : State) → turn_of s (item_of e) (bytes_of e) ≡ T.Next u → Within s e
within s (start n) u h = tt
within s (statement e) u h = tt
within s (column c) u h = tt
within s (condition o k) u h = leb-false 4 s.conditions (refused-else (leb 4 s.conditions) 6 _ u h).0
within s (network a n) u h = leb-false 64 s.values (refused-else (leb 64 s.values) 6 _ u h).0
within s (value bs) u h = leb-false 64 s.values (refused-else (leb 64 s.values) 6 _ u h).0
within s end u h = tt
