-- The walk that finds the footprint of a state, in place of a string: a value at position p matches if the row has its last position.
use Rattle.std.specs.Prelude.{ℕ, ◌+◌, Bool, true, false, List, [], ◌∷◌, length}
use Rattle.stored.specs.Choice.{pick}
use Rattle.stored.specs.Entries.{Entry}
use Rattle.matching.specs.Machinery.Rows.{row_bit}
use Rattle.judging.specs.declared.walk.Walk.{Walk}
use Rattle.judging.specs.Machinery.Walk.{began_of, matters_of, seen_of, element_begun, condition_begun}

unfoldable pub state_step : ℕ → List ℕ → Walk → ℕ → Entry → Walk
state_step column row w p (Entry.start n) = w
state_step column row w p (Entry.statement e) = began_of true w
state_step column row w p (Entry.column c) = element_begun column c w
state_step column row w p (Entry.condition o k) = condition_begun column true o k w
state_step column row w p (Entry.network a n) = pick (matters_of w) (seen_of false w) w
state_step column row w p (Entry.value bs) = pick (matters_of w) (seen_of (row_bit row (p + length bs)) w) w
state_step column row w p Entry.end = w

-- the position behind an entry: a value of the column has one position more than bytes
abbrev pub position_behind : Bool → ℕ → Entry → ℕ
position_behind here p (Entry.start n) = p
position_behind here p (Entry.statement e) = p
position_behind here p (Entry.column c) = p
position_behind here p (Entry.condition o k) = p
position_behind here p (Entry.network a n) = p
position_behind here p (Entry.value bs) = pick here (p + (length bs + 1)) p
position_behind here p Entry.end = p

-- all entries
abbrev pub run_state : ℕ → List ℕ → Walk → ℕ → List Entry → Walk
run_state column row w p [] = w
run_state column row w p (e ∷ es) = run_state column row (state_step column row w p e) (position_behind w.here p e) es
