-- What is known of two tables that were read, and of a column that refusal 10 is not given for.
use Rattle.std.specs.Prelude.{ℕ, ◌≤◌, ◌≡◌, List, length}
use Rattle.stored.specs.Entries.{entries_of}
use Rattle.stored.specs.Machinery.Following.{Accepted}
use Rattle.stored.specs.Tables.{Statement}
use Rattle.judging.specs.Judging.{rows_of}
use Rattle.columns.specs.Values.{values_in, sum_of, networks_in}

-- both tables were read, and the first has so many rows
pub record BothRead (first second : List ℕ) (size : ℕ) : Type 0 where
  pub one : Accepted (entries_of first)
  pub two : Accepted (entries_of second)
  pub few : length (rows_of first) ≤ 32
  pub more : length (rows_of second) ≤ 32
  pub rows : size ≡ length (rows_of first)

-- a column of strings that refusal 10 is not given for
abbrev pub Narrow : List Statement → ℕ → Type 0
Narrow rows column = sum_of (values_in column rows) ≤ 512

-- nor for column 7
abbrev pub FewNetworks : List Statement → Type 0
FewNetworks rows = length (networks_in rows) ≤ 128
