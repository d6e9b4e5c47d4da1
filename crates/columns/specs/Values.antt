-- The values and the networks of a column (RULES 6.7).
use Rattle.std.specs.Prelude.{ℕ, ◌+◌, List, [], ◌∷◌, ◌++◌, eqb, length}
use Rattle.stored.specs.Choice.{pick}
use Rattle.stored.specs.Items.{column_place}
use Rattle.stored.specs.Tables.{Listed, Element, Condition, Statement}
use Rattle.matching.specs.declared.reading.Reading.{Reading}
use Rattle.judging.specs.Meaning.{element_reading, operator_reading, condition_column}

-- the values of a list, each with how it is read
abbrev pub read_as : Reading → List Listed → List (Reading × List ℕ)
read_as reading [] = []
read_as reading (Listed.text v ∷ l) = (reading, v) ∷ read_as reading l
read_as reading (Listed.range n length ∷ l) = read_as reading l

abbrev pub element_values : ℕ → List Element → List (Reading × List ℕ)
element_values column [] = []
element_values column (e ∷ es) =
    pick (eqb (column_place e.name) column) (read_as (element_reading e.name) e.values) [] ++ element_values column es

abbrev pub condition_values : ℕ → List Condition → List (Reading × List ℕ)
condition_values column [] = []
condition_values column (d ∷ ds) =
    pick (eqb (condition_column d) column) (read_as (operator_reading d.operator) d.values) [] ++ condition_values column ds

-- the values of a column in statements, repeats separately
abbrev pub values_in : ℕ → List Statement → List (Reading × List ℕ)
values_in column [] = []
values_in column (s ∷ rows) = (element_values column s.elements ++ condition_values column s.conditions) ++ values_in column rows

-- the sum of (length plus 1) over values
abbrev pub sum_of : List (Reading × List ℕ) → ℕ
sum_of [] = 0
sum_of (v ∷ vs) = (length v.1 + 1) + sum_of vs

-- the networks of a list, each an address and a length
abbrev pub networks_of : List Listed → List (ℕ × ℕ)
networks_of [] = []
networks_of (Listed.text v ∷ l) = networks_of l
networks_of (Listed.range n length ∷ l) = (n, length) ∷ networks_of l

abbrev pub condition_networks : List Condition → List (ℕ × ℕ)
condition_networks [] = []
condition_networks (d ∷ ds) = pick (eqb (condition_column d) 7) (networks_of d.values) [] ++ condition_networks ds

-- the networks of column 7 in statements
abbrev pub networks_in : List Statement → List (ℕ × ℕ)
networks_in [] = []
networks_in (s ∷ rows) = condition_networks s.conditions ++ networks_in rows
