-- A table that reads: the state machine takes its entries one after the other to the end, so that the rows are as many as announced,
-- at most 32.
use Rattle.std.proofs.Common.{ℕ, zero, suc, ◌+◌, ◌-◌, ◌≤◌, ◌<◌, ◌≡◌, refl, sym, ◌∙◌, ap, Bool, true, false, List, [], ◌∷◌, arith, ltb, length, take, drop, ltb-true, ltb-false, eqb-true}
use Rattle.stored.specs.Choice.{pick}
use Rattle.stored.specs.Machine.{Turn as T, fresh_state, is_ended, takes_kind, column_phase, counted_state, opened_state, listed_state, filled_state, ended_state, kind_of_item}
use Rattle.stored.specs.Reading.{Step as S, ReadAnswer as A, Step, finish_of, step_at, after_step, read_from, reading}
use Rattle.stored.specs.Entries.{Entry, entry_of, item_of, bytes_of, entries_from, entries_of}
use Rattle.stored.specs.Machinery.Following.{admit, Follows, Accepted}
use Rattle.stored.specs.Entries.Entry.{start, statement, column, condition, network, value, end}
use Rattle.stored.specs.Tables.{table_of}
use Rattle.stored.specs.declared.items.Column.{Column}
use Rattle.stored.specs.declared.items.Column.TheVariants as C
use Rattle.stored.specs.declared.items.Sort.TheVariants as O
use Rattle.stored.specs.declared.records.Kind.TheVariants as K
use Rattle.stored.specs.declared.machine.Phase.{Phase}
use Rattle.stored.specs.declared.machine.Phase.TheVariants as P
use Rattle.stored.specs.declared.machine.State.{State}
use Rattle.stored.proofs.Walking.{past, goes_on_lem, ends-cut, kind-agrees}
use Rattle.stored.proofs.Steps.{Taken, taken, goes-inside}
use Rattle.stored.proofs.Turns.{admitted, admits, same-admit, in-turn, Turned, turned}

-- the state machine takes these entries one after the other, from a state to a state
abbrev pub Leads : State → List Entry → State → Type 0
Leads s [] last = s ≡ last
Leads s (e ∷ es) last = (next : State) × (admit s e ≡ T.Next next) × Leads next es last

-- it takes them to the end of a table with so many statements
pub record Led (s : State) (es : List Entry) (n : ℕ) : Type 0 where
  pub last : State
  pub leads : Leads s es last
  pub ended : is_ended last.phase ≡ true
  pub counted : n ≡ last.rows

pub follows : (es : List Entry) (s last : State) → Leads s es last → is_ended last.phase ≡ true → Follows s es
follows [] s last l e = rw l e
follows (x ∷ es) s last l e = (l.0, l.1, follows es l.0 last l.2 e)

-- the reader's step is the state machine's turn on the record's entry
pub admits-taken : (s : State) (t : List ℕ) (at : ℕ) (u : State) (p : ℕ) (k : Taken s t at u p)
    → admit s (entry_of k.item (take k.size (drop k.begin t))) ≡ T.Next u
admits-taken s t at u p k =
    let body = take k.size (drop k.begin t) in
    same-admit s k.item body
    ∙ admits s k.item body u (rw (kind-agrees t at k.item k.begin k.size k.found) k.due) k.turned

pub entries-taken : (s : State) (t : List ℕ) (at : ℕ) (u : State) (p : ℕ) (k : Taken s t at u p)
    → entries_from t at ≡ entry_of k.item (take k.size (drop k.begin t)) ∷ entries_from t p
entries-taken s t at u p k =
    goes_on_lem t at k.item k.begin k.size k.found
    ∙ ap (λ (q : ℕ). entry_of k.item (take k.size (drop k.begin t)) ∷ entries_from t q) (sym k.next)

-- reading from a place that ends in acceptance
finished : (s : State) (at n : ℕ) → finish_of s at ≡ A.Accepted n → Led s [] n
finished s at n = go (is_ended s.phase) refl
  where
    go : (b : Bool) → is_ended s.phase ≡ b → pick b (A.Accepted s.rows) (A.Refused 2 at) ≡ A.Accepted n → Led s [] n
    go true e h = record { last = s; leads = refl; ended = e; counted = cc }
    go false e h = absurd (cc)

pub led : (f : ℕ) (t : List ℕ) (s : State) (at n : ℕ) → length t - at ≤ f → read_from f t s at ≡ A.Accepted n
    → Led s (entries_from t at) n
led zero t s at n h e = rw (ends-cut t at (past t at (omega arith))) (finished s at n e)
led (suc f) t s at n h e = place (ltb at (length t)) refl (λ u p r. led f t u p n (omega arith)) e
  where
    step : (r : Step) → step_at s t at ≡ r
        → ((u : State) (p : ℕ) → (at < p) × (p ≤ length t) → read_from f t u p ≡ A.Accepted n → Led u (entries_from t p) n)
        → after_step (read_from f t) at r ≡ A.Accepted n → Led s (entries_from t at) n
    step (S.Goes u p) e go a =
        let k = taken s t at u p e in
        let l = go u p (goes-inside s t at u p e) a in
        rw (entries-taken s t at u p k)
        (record { last = l.last; leads = (u, admits-taken s t at u p k, l.leads); ended = l.ended; counted = l.counted })
    step (S.Stops m) e go a = absurd (cc)

    place : (b : Bool) → ltb at (length t) ≡ b
        → ((u : State) (p : ℕ) → (at < p) × (p ≤ length t) → read_from f t u p ≡ A.Accepted n → Led u (entries_from t p) n)
        → pick b (after_step (read_from f t) at (step_at s t at)) (finish_of s at) ≡ A.Accepted n → Led s (entries_from t at) n
    place true e go a = step (step_at s t at) refl go a
    place false e go a = rw (ends-cut t at (past t at (ltb-false at (length t) e))) (finished s at n a)

-- a table that reads is short, and its entries are led to the end
pub read_through : (t : List ℕ) (n : ℕ) → reading t ≡ A.Accepted n
    → (length t ≤ 16384) × (read_from (length t) t fresh_state 0 ≡ A.Accepted n)
unfolding reading
read_through t n = go (ltb 16384 (length t)) refl
  where
    go : (b : Bool) → ltb 16384 (length t) ≡ b → pick b (A.Refused 1 16384) (read_from (length t) t fresh_state 0) ≡ A.Accepted n
        → (length t ≤ 16384) × (read_from (length t) t fresh_state 0 ≡ A.Accepted n)
    go true e a = absurd (cc)
    go false e a = (ltb-false 16384 (length t) e, a)

pub read-leads : (t : List ℕ) (n : ℕ) → reading t ≡ A.Accepted n → Led fresh_state (entries_of t) n
read-leads t n e = led (length t) t fresh_state 0 n (omega arith) (read_through t n e).1

-- the entries of a table that reads are a table
pub accepted : (t : List ℕ) (n : ℕ) → reading t ≡ A.Accepted n → Accepted (entries_of t)
accepted t n e =
    let l = read-leads t n e in
    follows (entries_of t) fresh_state l.last l.leads l.ended

abbrev pub is_fresh : Phase → Bool
is_fresh P.Fresh = true
is_fresh P.Counted = false
is_fresh P.Opened = false
is_fresh P.Principals = false
is_fresh P.Actions = false
is_fresh P.Resources = false
is_fresh P.Conditions = false
is_fresh P.Ended = false

-- record 01 comes first, and nothing else does
pub start_first : (p : Phase) (left : ℕ) → takes_kind p left K.Start ≡ true → is_fresh p ≡ true
start_first P.Fresh left e = refl
start_first P.Counted left e = e
start_first P.Opened left e = e
start_first P.Principals left e = e
start_first P.Actions left e = e
start_first P.Resources left e = e
start_first P.Conditions left e = e
start_first P.Ended left e = e

-- a statement begins while some are left
pub statement-left : (p : Phase) (left : ℕ) → takes_kind p left K.Statement ≡ true → 0 < left
statement-left P.Fresh left e = absurd (cc)
statement-left P.Counted left e = ltb-true 0 left e
statement-left P.Opened left e = absurd (cc)
statement-left P.Principals left e = absurd (cc)
statement-left P.Actions left e = absurd (cc)
statement-left P.Resources left e = ltb-true 0 left e
statement-left P.Conditions left e = ltb-true 0 left e
statement-left P.Ended left e = absurd (cc)

-- the end comes when none is left
pub end-left : (p : Phase) (left : ℕ) → takes_kind p left K.End ≡ true → left ≡ 0
end-left P.Fresh left e = absurd (cc)
end-left P.Counted left e = eqb-true left 0 e
end-left P.Opened left e = absurd (cc)
end-left P.Principals left e = absurd (cc)
end-left P.Actions left e = absurd (cc)
end-left P.Resources left e = eqb-true left 0 e
end-left P.Conditions left e = eqb-true left 0 e
end-left P.Ended left e = absurd (cc)

pub column-fresh : (c : Column) → is_fresh (column_phase c) ≡ false
column-fresh C.Principal = refl
column-fresh C.Action = refl
column-fresh C.Resource = refl
column-fresh C.NotPrincipal = refl
column-fresh C.NotAction = refl
column-fresh C.NotResource = refl

pub column-ended : (c : Column) → is_ended (column_phase c) ≡ false
column-ended C.Principal = refl
column-ended C.Action = refl
column-ended C.Resource = refl
column-ended C.NotPrincipal = refl
column-ended C.NotAction = refl
column-ended C.NotResource = refl

-- what taking an entry gives: its kind has a place, and the next state
pub took : (s : State) (e : Entry) (u : State) → admit s e ≡ T.Next u
    → (takes_kind s.phase s.left (kind_of_item (item_of e) (length (bytes_of e))) ≡ true) × Turned s e u
took s e u h =
    let d = admitted s (item_of e) (bytes_of e) u h in
    (in-turn s (kind_of_item (item_of e) (length (bytes_of e))) d.0, turned s e u d.1)

-- once the number is known, the rows to come are those left, and the number stays
pub rows_left : (es : List Entry) (s last : State) → Leads s es last → is_ended last.phase ≡ true
    → is_fresh s.phase ≡ false → (is_ended s.phase ≡ true → s.left ≡ 0)
    → (length (table_of es) ≡ s.left) × (last.rows ≡ s.rows)
rows_left [] s last l d f z = (sym (z (rw l d)), ap (λ (x : State). x.rows) (sym l))
rows_left (start n ∷ es) s last l d f z =
    let k = took s (start n) l.0 l.1 in
    let e : is_fresh s.phase ≡ true = start_first s.phase s.left k.0 in
    absurd (cc)
rows_left (statement x ∷ es) s last l d f z =
    let k = took s (statement x) l.0 l.1 in
    let h = statement-left s.phase s.left k.0 in
    let r = rows_left es (opened_state s) last (rw k.1 at l.2) d refl (λ e. absurd (cc)) in
    let r0 = r.0 in
    (omega arith, r.1)
rows_left (column c ∷ es) s last l d f z =
    let k = took s (column c) l.0 l.1 in
    let e = column-ended c in
    rows_left es (listed_state s (column_phase c) s.conditions O.Text) last (rw k.1.1 at l.2) d (column-fresh c) (λ h. absurd (cc))
rows_left (condition o q ∷ es) s last l d f z =
    let k = took s (condition o q) l.0 l.1 in
    rows_left es _ last (rw k.1 at l.2) d refl (λ h. absurd (cc))
rows_left (network a n ∷ es) s last l d f z =
    let k = took s (network a n) l.0 l.1 in
    rows_left es (filled_state s (s.values + 1)) last (rw k.1 at l.2) d f z
rows_left (value bs ∷ es) s last l d f z =
    let k = took s (value bs) l.0 l.1 in
    rows_left es (filled_state s (s.values + 1)) last (rw k.1.2 at l.2) d f z
rows_left (end ∷ es) s last l d f z =
    let k = took s end l.0 l.1 in
    let h = end-left s.phase s.left k.0 in
    rows_left es (ended_state s) last (rw k.1 at l.2) d refl (λ e. h)

-- entries from the beginning: the first is the number of statements, at most 32
pub record Started (es : List Entry) (last : State) : Type 0 where
  pub number : ℕ
  pub rest : List Entry
  pub first : es ≡ start number ∷ rest
  pub few : number ≤ 32
  pub leads : Leads (counted_state number) rest last

pub starts : (es : List Entry) (last : State) → Leads fresh_state es last → is_ended last.phase ≡ true → Started es last
starts [] last l d =
    let e : false ≡ true = ap (λ (x : State). is_ended x.phase) l ∙ d in
    absurd (cc)
starts (start n ∷ es) last l d =
    let k = took fresh_state (start n) l.0 l.1 in
    record { number = n; rest = es; first = refl; few = k.1.0; leads = rw k.1.1 at l.2 }
starts (statement x ∷ es) last l d =
    let k = took fresh_state (statement x) l.0 l.1 in
    let e = k.0 in
    absurd (cc)
starts (column c ∷ es) last l d =
    let k = took fresh_state (column c) l.0 l.1 in
    let e = k.0 in
    absurd (cc)
starts (condition o q ∷ es) last l d =
    let k = took fresh_state (condition o q) l.0 l.1 in
    let e = k.0 in
    absurd (cc)
starts (network a n ∷ es) last l d =
    let k = took fresh_state (network a n) l.0 l.1 in
    let e = k.0 in
    absurd (cc)
starts (value bs ∷ es) last l d =
    let k = took fresh_state (value bs) l.0 l.1 in
    let e = k.0 in
    absurd (cc)
starts (end ∷ es) last l d =
    let k = took fresh_state end l.0 l.1 in
    let e = k.0 in
    absurd (cc)

-- from the beginning the rows are as many as the number says, at most 32
fresh-rows : (es : List Entry) (last : State) → Leads fresh_state es last → is_ended last.phase ≡ true
    → (length (table_of es) ≡ last.rows) × (length (table_of es) ≤ 32)
fresh-rows es last l d =
    let k = starts es last l d in
    let n = k.number in
    let few = k.few in
    let r = rows_left k.rest (counted_state n) last k.leads d refl (λ e. absurd (cc)) in
    let many : length (table_of es) ≡ n = ap (λ (x : List Entry). length (table_of x)) k.first ∙ r.0 in
    (many ∙ sym r.1, omega arith)

-- the number of statements that reading gives is the number of rows
pub counted : (t : List ℕ) (n : ℕ) → reading t ≡ A.Accepted n → n ≡ length (table_of (entries_of t))
counted t n e =
    let l = read-leads t n e in
    l.counted ∙ sym (fresh-rows (entries_of t) l.last l.leads l.ended).0

-- a table that reads has at most 32 rows
pub few : (t : List ℕ) (n : ℕ) → reading t ≡ A.Accepted n → length (table_of (entries_of t)) ≤ 32
few t n e =
    let l = read-leads t n e in
    (fresh-rows (entries_of t) l.last l.leads l.ended).1
