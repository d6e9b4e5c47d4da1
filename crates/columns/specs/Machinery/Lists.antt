-- The list at hand of a walk over the records of a table, and what a record adds to a column.
use Rattle.std.specs.Prelude.{ℕ, ◌+◌, Bool, false, List, [], ◌∷◌, eqb}
use Rattle.stored.specs.Choice.{pick}
use Rattle.stored.specs.Items.{column_place, key_code}
use Rattle.stored.specs.Tables.{Listed}
use Rattle.stored.specs.declared.items.Item.{Item}
use Rattle.stored.specs.declared.items.Item.TheVariants as I
use Rattle.matching.specs.declared.reading.Reading.{Reading}
use Rattle.matching.specs.declared.reading.Reading.TheVariants as R
use Rattle.judging.specs.Meaning.{element_reading, operator_reading}
use Rattle.columns.specs.declared.contents.ListAt.{ListAt}

abbrev pub list_of : Bool → Reading → ListAt
list_of here reading = record { here = here; reading = reading }

-- before the first list
abbrev pub fresh_list : ListAt
fresh_list = list_of false R.Literal

-- a statement closes the list at hand, an element or a condition opens one
abbrev pub moved_of : ℕ → ListAt → Item → ListAt
moved_of column list (I.Start n) = list
moved_of column list (I.Statement e) = list_of false list.reading
moved_of column list (I.Column c) = list_of (eqb (column_place c) column) (element_reading c)
moved_of column list (I.Condition o k) = list_of (eqb (3 + key_code k) column) (operator_reading o)
moved_of column list (I.Network a n) = list
moved_of column list I.Value = list
moved_of column list I.End = list

-- what a record adds to the contents of the column
abbrev pub found_of : ListAt → Item → List ℕ → List (Reading × Listed)
found_of list (I.Start n) bytes = []
found_of list (I.Statement e) bytes = []
found_of list (I.Column c) bytes = []
found_of list (I.Condition o k) bytes = []
found_of list (I.Network a n) bytes = pick list.here ((list.reading, Listed.range a n) ∷ []) []
found_of list I.Value bytes = pick list.here ((list.reading, Listed.text bytes) ∷ []) []
found_of list I.End bytes = []

-- the positions that a record adds to the column: one more than a value's bytes
abbrev pub positions_of : ListAt → Item → ℕ → ℕ
positions_of list (I.Start n) size = 0
positions_of list (I.Statement e) size = 0
positions_of list (I.Column c) size = 0
positions_of list (I.Condition o k) size = 0
positions_of list (I.Network a n) size = 0
positions_of list I.Value size = pick list.here (size + 1) 0
positions_of list I.End size = 0
