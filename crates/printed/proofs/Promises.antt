-- Which tables JSON texts make, in statements that can be read without their proofs. `Grouped` says of a statement that the conditions of one
-- operator stand together and no operator has a key twice.
use Rattle.std.proofs.Common.{ℕ, ◌≤◌, ◌≡◌, List, ◌++◌, length, take, drop}
use Rattle.stored.specs.Choice.{In}
use Rattle.stored.specs.Reading.{reading}
use Rattle.stored.specs.Entries.{Bytes}
use Rattle.stored.specs.Tables.{Statement, rows_of}
use Rattle.stored.specs.Reading.{ReadAnswer as R}
use Rattle.policy.specs.Answers.{JsonAnswered}
use Rattle.policy.specs.Answers.{JsonAnswer as A}
use Rattle.printed.specs.Grouped.{Grouped}
use Rattle.printed.proofs.Answering

-- "Each table that the reader accepts, and in each of whose statements the conditions of one operator stand together and no operator has a
-- key twice, is what some text makes": of that text and any buffer with room for the table it is the table that is written. (`Bytes`: the
-- table is a list of bytes.)
pub json-every-table : (table : List ℕ) (n : ℕ) → Bytes table → reading table ≡ R.Accepted n
    → ((s : Statement) → In s (rows_of table) → Grouped s)
    → (t : List ℕ)
    × ((buffer : List ℕ) → length table ≤ length buffer
    → JsonAnswered t buffer (A.Written (length table)) (table ++ drop (length table) buffer))
json-every-table = Answering.every-table

-- "Other tables no text makes": in each statement of a table that is written for a text, the conditions of one operator stand together and
-- no operator has a key twice.
pub json-no-other : (t buffer left : List ℕ) (n : ℕ) → JsonAnswered t buffer (A.Written n) left
    → (s : Statement) → In s (rows_of (take n left)) → Grouped s
json-no-other = Answering.no_other
