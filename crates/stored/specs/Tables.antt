-- A table as data, so that the crates above can say what it means: statements with their effect, elements and conditions, and the
-- values and networks that these list.
use Rattle.std.specs.Prelude.{ℕ, List, [], ◌∷◌}
use Rattle.stored.specs.Entries.{Entry, entries_of}
use Rattle.stored.specs.Entries.Entry.{start, statement, column, condition, network, value, end}
use Rattle.stored.specs.declared.items.Effect.{Effect}
use Rattle.stored.specs.declared.items.Column.{Column}
use Rattle.stored.specs.declared.items.Operator.{Operator}
use Rattle.stored.specs.declared.items.Key.{Key}

-- what a list holds
pub data Listed : Type 0 where
  text : List ℕ → Listed
  range : ℕ → ℕ → Listed

pub record Element : Type 0 where
  pub name : Column
  pub values : List Listed

pub record Condition : Type 0 where
  pub operator : Operator
  pub key : Key
  pub values : List Listed

pub record Statement : Type 0 where
  pub effect : Effect
  pub elements : List Element
  pub conditions : List Condition

-- what stands behind a place of a table, as far as it is not opened there: values without their list, lists without their
-- statement, and whole statements
pub record Part : Type 0 where
  pub values : List Listed
  pub elements : List Element
  pub conditions : List Condition
  pub rows : List Statement

abbrev pub empty : Part
empty = record { values = []; elements = []; conditions = []; rows = [] }

-- one entry more in front
abbrev pub before : Entry → Part → Part
before (start n) p = p
before (statement e) p =
    record {
      values = [];
      elements = [];
      conditions = [];
      rows = record { effect = e; elements = p.elements; conditions = p.conditions } ∷ p.rows;
    }
before (column c) p =
    record {
      values = [];
      elements = record { name = c; values = p.values } ∷ p.elements;
      conditions = p.conditions;
      rows = p.rows;
    }
before (condition o k) p =
    record {
      values = [];
      elements = p.elements;
      conditions = record { operator = o; key = k; values = p.values } ∷ p.conditions;
      rows = p.rows;
    }
before (network a n) p =
    record { values = range a n ∷ p.values; elements = p.elements; conditions = p.conditions; rows = p.rows }
before (value bs) p =
    record { values = text bs ∷ p.values; elements = p.elements; conditions = p.conditions; rows = p.rows }
before end p = p

abbrev pub gather : List Entry → Part
gather [] = empty
gather (e ∷ es) = before e (gather es)

-- the statements that entries make
abbrev pub table_of : List Entry → List Statement
table_of es = (gather es).rows

-- the statements of a table
abbrev pub rows_of : List ℕ → List Statement
rows_of t = table_of (entries_of t)
