-- The plan of a table is short: a word for each statement, for each of at most seven lists of a statement, and for each value or network
-- of the column.
use Rattle.std.proofs.Common.{ℕ, suc, ◌+◌, ◌-◌, ◌*◌, ◌≤◌, ◌<◌, ◌≡◌, refl, ap, ◌∙◌, Bool, true, false, not, ◌&&◌, List, [], ◌∷◌, arith, eqb, leb, length, leb-false}
use Rattle.stored.specs.Choice.{pick}
use Rattle.stored.specs.Items.{column_place, column_negated, key_code, key_sort}
use Rattle.stored.specs.Operators.{row_of}
use Rattle.stored.specs.Entries.{Entry, item_of, bytes_of}
use Rattle.stored.specs.Machinery.Following.{Follows, Accepted}
use Rattle.stored.specs.Machine.{Turn as T, fresh_state, same_sort, column_phase, place_due, takes_kind, kind_of_item, listed_state, turn_of}
use Rattle.stored.specs.Tables.{gather, table_of}
use Rattle.stored.specs.declared.items.Column.{Column}
use Rattle.stored.specs.declared.items.Column.TheVariants as C
use Rattle.stored.specs.declared.items.Operator.{Operator}
use Rattle.stored.specs.declared.items.Key.{Key}
use Rattle.stored.specs.declared.items.Item.TheVariants as I
use Rattle.stored.specs.declared.records.Kind.TheVariants as K
use Rattle.stored.specs.declared.machine.Phase.{Phase}
use Rattle.stored.specs.declared.machine.Phase.TheVariants as P
use Rattle.stored.specs.declared.machine.State.{State}
use Rattle.stored.proofs.Choosing.{never}
use Rattle.stored.proofs.Turns.{Turned, admitted, in-turn, turned}
use Rattle.matching.specs.declared.reading.Reading.{Reading}
use Rattle.matching.specs.declared.reading.Reading.TheVariants as R
use Rattle.judging.specs.Meaning.{element_reading, operator_reading}
use Rattle.columns.specs.Values.{values_in, sum_of, networks_in}
use Rattle.columns.specs.Machinery.Contents.{texts, networks, contents_from}
use Rattle.columns.specs.Machinery.Plan.{list_word, value_word, network_word, with_word, plan_from, plan_of}
use Rattle.columns.proofs.ColumnContents.{walk-contents, texts-in, networks-in, place-low}

-- before the start of a table
abbrev is_fresh : Phase → ℕ
is_fresh P.Fresh = 4
is_fresh P.Counted = 0
is_fresh P.Opened = 0
is_fresh P.Principals = 0
is_fresh P.Actions = 0
is_fresh P.Resources = 0
is_fresh P.Conditions = 0
is_fresh P.Ended = 0

-- the lists that a statement may still open
abbrev lists_left : State → ℕ
lists_left s = is_fresh s.phase + ((3 - place_due s.phase) + (4 - s.conditions))

-- a table starts once
starts : (p : Phase) (left : ℕ) → takes_kind p left K.Start ≡ true → is_fresh p ≡ 4
starts P.Fresh left e = refl
starts P.Counted left e = never (cc)
starts P.Opened left e = never (cc)
starts P.Principals left e = never (cc)
starts P.Actions left e = never (cc)
starts P.Resources left e = never (cc)
starts P.Conditions left e = never (cc)
starts P.Ended left e = never (cc)

-- the element behind comes next
next_place_lem : (c : Column) → (place_due (column_phase c) ≡ column_place c + 1) × (is_fresh (column_phase c) ≡ 0)
next_place_lem C.Principal = (refl, refl)
next_place_lem C.Action = (refl, refl)
next_place_lem C.Resource = (refl, refl)
next_place_lem C.NotPrincipal = (refl, refl)
next_place_lem C.NotAction = (refl, refl)
next_place_lem C.NotResource = (refl, refl)

-- a fifth condition is refused
fewer-conditions : (s u : State) (o : Operator) (k : Key) (bs : List ℕ) → turn_of s (I.Condition o k) bs ≡ T.Next u → s.conditions < 4
fewer-conditions s u o k bs h = by (leb 4 s.conditions) refl h
  where
    by : (b : Bool) → leb 4 s.conditions ≡ b
        → pick b (T.Refused 6) (pick (same_sort (row_of o).sort (key_sort k)) (T.Next (listed_state s P.Conditions (s.conditions + 1) (row_of o).sort)) (T.Refused 8)) ≡ T.Next u
        → s.conditions < 4
    by true e refused = never (cc)
    by false e ok = leb-false 4 s.conditions e

-- a list opens in front of a plan
list-longer : (here : Bool) (word : ℕ) (plan : List ℕ) → length (with_word here word plan) ≤ suc (length plan)
list-longer true word plan = omega arith
list-longer false word plan = omega arith

-- the values of a column of strings with their positions, or the networks of column 7
abbrev width : ℕ → Bool → Bool → Reading → List Entry → ℕ
width column strings here reading es =
    pick strings (sum_of (texts (contents_from column here reading es))) (length (networks (contents_from column here reading es)))

module _ (column : ℕ) (reading : Reading) (es : List Entry) where
  network-longer : (strings here : Bool) (a n word : ℕ) (plan : List ℕ)
      → length (with_word (not strings && here) word plan) + width column strings here reading es
      ≤ length plan + width column strings here reading (Entry.network a n ∷ es)
  network-longer true true a n word plan = omega arith
  network-longer true false a n word plan = omega arith
  network-longer false true a n word plan = omega arith
  network-longer false false a n word plan = omega arith

  value-longer : (strings here : Bool) (bs : List ℕ) (word : ℕ) (plan : List ℕ)
      → length (with_word (strings && here) word plan) + width column strings here reading es
      ≤ length plan + width column strings here reading (Entry.value bs ∷ es)
  value-longer true true bs word plan = omega arith
  value-longer true false bs word plan = omega arith
  value-longer false true bs word plan = omega arith
  value-longer false false bs word plan = omega arith

module _ (column : ℕ) (strings : Bool) where
  -- from any place of a table on
  Short : State → List Entry → Type 0
  Short s es =
      (here : Bool) (reading : Reading) (p : ℕ)
      → length (plan_from column strings here p es) ≤ lists_left s + (8 * length (gather es).rows + width column strings here reading es)

  short : (es : List Entry) (s : State) → Follows s es → Short s es
  unfolding Short
  short [] s f here reading p = omega arith
  short (e ∷ es) s (u, step, f) here reading p =
      let a = admitted s (item_of e) (bytes_of e) u step in
      by e (in-turn s (kind_of_item (item_of e) (length (bytes_of e))) a.0) a.1 (turned s e u a.1) (short es u f) here reading p
    where
      by : (e : Entry) → takes_kind s.phase s.left (kind_of_item (item_of e) (length (bytes_of e))) ≡ true
          → turn_of s (item_of e) (bytes_of e) ≡ T.Next u → Turned s e u → Short u es → Short s (e ∷ es)
      by (Entry.start n) takes turn next rest here reading p =
          let r = rest here reading p in
          let left = ap lists_left next.1 in
          omega (arith, starts s.phase s.left takes)
      by (Entry.statement x) takes turn next rest here reading p =
          let r = rest false reading p in
          let left = ap lists_left next in
          omega arith
      by (Entry.column c) takes turn next rest here reading p =
          let r = rest (eqb (column_place c) column) (element_reading c) p in
          let left = ap lists_left next.1 in
          omega (
            arith,
            next.0,
            (next_place_lem c).0,
            (next_place_lem c).1,
            place-low c,
            list-longer (eqb (column_place c) column) (list_word (column_negated c)) (plan_from column strings (eqb (column_place c) column) p es),
          )
      by (Entry.condition o k) takes turn next rest here reading p =
          let r = rest (eqb (3 + key_code k) column) (operator_reading o) p in
          let left = ap lists_left next in
          omega (
            arith,
            fewer-conditions s u o k [] turn,
            list-longer (eqb (3 + key_code k) column) (list_word (row_of o).negated) (plan_from column strings (eqb (3 + key_code k) column) p es),
          )
      by (Entry.network x n) takes turn next rest here reading p =
          let r = rest here reading p in
          let left = ap lists_left next in
          omega (arith, network-longer column reading es strings here x n (network_word x n) (plan_from column strings here p es))
      by (Entry.value bs) takes turn next rest here reading p =
          let q = pick here (p + (length bs + 1)) p in
          let r = rest here reading q in
          let left = ap lists_left next.2 in
          omega (arith, value-longer column reading es strings here bs (value_word (p + length bs)) (plan_from column strings here q es))
      by Entry.end takes turn next rest here reading p =
          let r = rest here reading p in
          let left = ap lists_left next in
          omega arith

-- at most eight words for each statement, and one for each value of a column of strings
pub plan-short : (column from : ℕ) (es : List Entry) → Accepted es
    → length (plan_of column true from es) ≤ 8 + (8 * length (table_of es) + sum_of (values_in column (table_of es)))
unfolding Short
plan-short column from es ok =
    let s = short column true es fresh_state ok false R.Literal from in
    let same = ap texts (walk-contents column R.Literal es ok) ∙ texts-in column (table_of es) in
    omega (arith, s, ap sum_of same)

-- or for each network of column 7
pub addresses-short : (from : ℕ) (es : List Entry) → Accepted es
    → length (plan_of 7 false from es) ≤ 8 + (8 * length (table_of es) + length (networks_in (table_of es)))
unfolding Short
addresses-short from es ok =
    let s = short 7 false es fresh_state ok false R.Literal from in
    let same = ap networks (walk-contents 7 R.Literal es ok) ∙ networks-in (table_of es) in
    omega (arith, s, ap length same)
