-- What stands in a column: the values and networks of the lists that speak of it, each with how it is read; of statements, and of the
-- entries of a table, one after the other.
use Rattle.std.specs.Prelude.{ℕ, ◌+◌, Bool, false, List, [], ◌∷◌, ◌++◌, eqb}
use Rattle.stored.specs.Choice.{pick}
use Rattle.stored.specs.Items.{column_place, key_code}
use Rattle.stored.specs.Entries.{Entry}
use Rattle.stored.specs.Tables.{Listed, Element, Condition, Statement}
use Rattle.matching.specs.declared.reading.Reading.{Reading}
use Rattle.judging.specs.Meaning.{element_reading, operator_reading, condition_column}

-- the contents of a list, each with how the list is read
abbrev pub listed_as : Reading → List Listed → List (Reading × Listed)
listed_as reading [] = []
listed_as reading (x ∷ l) = (reading, x) ∷ listed_as reading l

abbrev pub element_contents : ℕ → List Element → List (Reading × Listed)
element_contents column [] = []
element_contents column (e ∷ es) =
    pick (eqb (column_place e.name) column) (listed_as (element_reading e.name) e.values) [] ++ element_contents column es

abbrev pub condition_contents : ℕ → List Condition → List (Reading × Listed)
condition_contents column [] = []
condition_contents column (d ∷ ds) =
    pick (eqb (condition_column d) column) (listed_as (operator_reading d.operator) d.values) [] ++ condition_contents column ds

-- the contents of a column in statements
abbrev pub contents_in : ℕ → List Statement → List (Reading × Listed)
contents_in column [] = []
contents_in column (s ∷ rows) =
    (element_contents column s.elements ++ condition_contents column s.conditions) ++ contents_in column rows

-- the strings among contents
abbrev pub texts : List (Reading × Listed) → List (Reading × List ℕ)
texts [] = []
texts ((reading, Listed.text v) ∷ l) = (reading, v) ∷ texts l
texts ((reading, Listed.range n length) ∷ l) = texts l

-- the networks among contents
abbrev pub networks : List (Reading × Listed) → List (ℕ × ℕ)
networks [] = []
networks ((reading, Listed.text v) ∷ l) = networks l
networks ((reading, Listed.range n length) ∷ l) = (n, length) ∷ networks l

-- The contents of a column in entries. `here`: the list at hand speaks of the column, and is read so. A statement closes the list at hand,
-- a column or a condition opens one.
abbrev pub contents_from : ℕ → Bool → Reading → List Entry → List (Reading × Listed)
contents_from column here reading [] = []
contents_from column here reading (Entry.start n ∷ es) = contents_from column here reading es
contents_from column here reading (Entry.statement e ∷ es) = contents_from column false reading es
contents_from column here reading (Entry.column c ∷ es) = contents_from column (eqb (column_place c) column) (element_reading c) es
contents_from column here reading (Entry.condition o k ∷ es) = contents_from column (eqb (3 + key_code k) column) (operator_reading o) es
contents_from column here reading (Entry.network a n ∷ es) =
    pick here ((reading, Listed.range a n) ∷ contents_from column here reading es) (contents_from column here reading es)
contents_from column here reading (Entry.value bs ∷ es) =
    pick here ((reading, Listed.text bs) ∷ contents_from column here reading es) (contents_from column here reading es)
contents_from column here reading (Entry.end ∷ es) = contents_from column here reading es
