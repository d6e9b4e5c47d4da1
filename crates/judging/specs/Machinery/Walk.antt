-- One walk over the entries of a table, which gathers the rows that hold in a column for a value.
use Rattle.std.specs.Prelude.{ℕ, ◌+◌, ◌*◌, ◌%◌, ◌^◌, Bool, true, false, not, ◌&&◌, ◌||◌, List, [], ◌∷◌, eqb}
use Rattle.std.specs.Int.Bits.{bit_or}
use Rattle.stored.specs.Choice.{pick, every}
use Rattle.stored.specs.Items.{column_place, column_negated, key_code}
use Rattle.stored.specs.Operators.{row_of}
use Rattle.stored.specs.Entries.{Entry, item_of}
use Rattle.stored.specs.Tables.{Listed, Element, Condition, Statement}
use Rattle.stored.specs.declared.items.Effect.{Effect}
use Rattle.stored.specs.declared.items.Column.{Column}
use Rattle.stored.specs.declared.items.Operator.{Operator}
use Rattle.stored.specs.declared.items.Key.{Key}
use Rattle.stored.specs.declared.items.Item.{Item}
use Rattle.stored.specs.declared.items.Item.TheVariants as I
use Rattle.matching.specs.declared.reading.Reading.{Reading}
use Rattle.matching.specs.declared.reading.Reading.TheVariants as R
use Rattle.judging.specs.Requests.{Value, is_present}
use Rattle.judging.specs.Meaning.{listed_matches, sense, element_reading, operator_reading, element_holds, condition_holds, condition_column, holds, is_allow}
use Rattle.judging.specs.declared.walk.Walk.{Walk}

-- before the first statement
abbrev pub fresh_walk : Walk
fresh_walk =
    record
    { bit = 0; next = 1; set = 0; holds = false; here = false; negated = false; some = false; reading = R.Literal }

-- the row at hand holds, its last list closed
abbrev pub closed_of : Walk → Bool
closed_of w = w.holds && (not w.here || sense w.negated w.some)

-- the rows gathered, the row at hand closed
abbrev pub done_of : Walk → ℕ
done_of w = pick (closed_of w) (bit_or w.set w.bit) w.set

-- a statement begins, which counts or not
abbrev pub began_of : Bool → Walk → Walk
began_of counts w =
    record {
      bit = w.next;
      next = w.next * 2 % 2 ^ 64;
      set = done_of w;
      holds = counts;
      here = false;
      negated = false;
      some = false;
      reading = R.Literal;
    }

-- a list opens, in this column or not; ok: what is known of it already
abbrev pub opened_of : Bool → Bool → Bool → Reading → Walk → Walk
opened_of here ok negated reading w =
    record {
      bit = w.bit;
      next = w.next;
      set = w.set;
      holds = closed_of w && ok;
      here = here;
      negated = negated;
      some = false;
      reading = reading;
    }

-- whether a listed value matches can still matter
abbrev pub matters_of : Walk → Bool
matters_of w = w.holds && (w.here && not w.some)

-- a listed value was seen, which matches or not
abbrev pub seen_of : Bool → Walk → Walk
seen_of hit w =
    record {
      bit = w.bit;
      next = w.next;
      set = w.set;
      holds = w.holds;
      here = w.here;
      negated = w.negated;
      some = w.some || hit;
      reading = w.reading;
    }

-- a condition opens: of an absent key the operator table has decided already
abbrev pub condition_of : Bool → Bool → Bool → Bool → Reading → Walk → Walk
condition_of here present absent_rule negated reading w =
    opened_of (here && present) (not here || (present || absent_rule)) negated reading w

-- the list of an element, and of a condition, opens
abbrev pub element_begun : ℕ → Column → Walk → Walk
element_begun column c w = opened_of (eqb (column_place c) column) true (column_negated c) (element_reading c) w

abbrev pub condition_begun : ℕ → Bool → Operator → Key → Walk → Walk
condition_begun column present o k w =
    condition_of (eqb (3 + key_code k) column) present (row_of o).absent (row_of o).negated (operator_reading o) w

-- all statements count, or the allow statements only
abbrev pub counts_of : Bool → Effect → Bool
counts_of only e = not only || is_allow e

-- one entry
unfoldable pub step_of : Bool → ℕ → Value → Walk → Entry → Walk
step_of only column v w (Entry.start n) = w
step_of only column v w (Entry.statement e) = began_of (counts_of only e) w
step_of only column v w (Entry.column c) = element_begun column c w
step_of only column v w (Entry.condition o k) = condition_begun column (is_present v) o k w
step_of only column v w (Entry.network a n) = pick (matters_of w) (seen_of (listed_matches w.reading v (Listed.range a n)) w) w
step_of only column v w (Entry.value bs) = pick (matters_of w) (seen_of (listed_matches w.reading v (Listed.text bs)) w) w
step_of only column v w Entry.end = w

-- all entries
abbrev pub run_of : Bool → ℕ → Value → Walk → List Entry → Walk
run_of only column v w [] = w
run_of only column v w (e ∷ es) = run_of only column v (step_of only column v w e) es

-- the rows that the walk is to gather
abbrev pub gathered : Bool → ℕ → Value → Statement → Bool
gathered only column v s = counts_of only s.effect && holds column v s

-- The same over several columns at once: those that are watched, each with its own value. A listed value is matched against the value of
-- the column in which the last list opened.

-- that column, behind a record
abbrev pub item_column : ℕ → Item → ℕ
item_column column (I.Start n) = column
item_column column (I.Statement e) = column
item_column column (I.Column c) = column_place c
item_column column (I.Condition o k) = 3 + key_code k
item_column column (I.Network a n) = column
item_column column I.Value = column
item_column column I.End = column

abbrev pub column_behind : ℕ → Entry → ℕ
column_behind column e = item_column column (item_of e)

-- one entry
unfoldable pub step_in : Bool → (ℕ → Bool) → (ℕ → Value) → Walk → ℕ → Entry → Walk
step_in only watched value w column (Entry.start n) = w
step_in only watched value w column (Entry.statement e) = began_of (counts_of only e) w
step_in only watched value w column (Entry.column c) = opened_of (watched (column_place c)) true (column_negated c) (element_reading c) w
step_in only watched value w column (Entry.condition o k) =
    condition_of (watched (3 + key_code k)) (is_present (value (3 + key_code k))) (row_of o).absent (row_of o).negated (operator_reading o) w
step_in only watched value w column (Entry.network a n) =
    pick (matters_of w) (seen_of (listed_matches w.reading (value column) (Listed.range a n)) w) w
step_in only watched value w column (Entry.value bs) =
    pick (matters_of w) (seen_of (listed_matches w.reading (value column) (Listed.text bs)) w) w
step_in only watched value w column Entry.end = w

-- all entries
abbrev pub run_in : Bool → (ℕ → Bool) → (ℕ → Value) → Walk → ℕ → List Entry → Walk
run_in only watched value w column [] = w
run_in only watched value w column (e ∷ es) = run_in only watched value (step_in only watched value w column e) (column_behind column e) es

-- what a watched list asks of its column's value
abbrev pub element_asked : (ℕ → Bool) → (ℕ → Value) → Element → Bool
element_asked watched value e = pick (watched (column_place e.name)) (element_holds (value (column_place e.name)) e) true

abbrev pub condition_asked : (ℕ → Bool) → (ℕ → Value) → Condition → Bool
condition_asked watched value d = pick (watched (condition_column d)) (condition_holds (value (condition_column d)) d) true

-- the rows that the walk is to gather
abbrev pub gathered_in : Bool → (ℕ → Bool) → (ℕ → Value) → Statement → Bool
gathered_in only watched value s =
    counts_of only s.effect && (every (element_asked watched value) s.elements && every (condition_asked watched value) s.conditions)

-- every column is watched
abbrev pub every_column : ℕ → Bool
every_column column = true
