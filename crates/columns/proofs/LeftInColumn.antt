-- What stands in a column, as a walk over the records of a table meets it: a record adds what it adds, and the rest is what is left behind
-- it. All of it is what stands in the table's statements, and takes no more positions than the table has bytes.
use Rattle.std.proofs.Common.{◌≡◌, ℕ, ◌+◌, ◌≤◌, Bool, true, false, List, [], ◌∷◌, ◌++◌, eqb, length, suc, refl, ap, ◌∙◌, arith}
use Rattle.std.specs.List.{filter}
use Rattle.stored.specs.Items.{column_place, key_code}
use Rattle.stored.specs.Entries.{Entry, entry_of, entries_of}
use Rattle.stored.specs.Machinery.Following.{Accepted}
use Rattle.stored.specs.Tables.{Listed}
use Rattle.stored.specs.declared.items.Item.{Item}
use Rattle.stored.specs.declared.items.Item.TheVariants as I
use Rattle.stored.proofs.EntriesLeft.{bytes_taken, entries-fit}
use Rattle.matching.specs.declared.reading.Reading.{Reading}
use Rattle.matching.specs.declared.reading.Reading.TheVariants as How
use Rattle.judging.specs.Judging.{rows_of}
use Rattle.judging.specs.Meaning.{element_reading, operator_reading}
use Rattle.columns.specs.declared.contents.ListAt.{ListAt}
use Rattle.columns.specs.Values.{values_in, sum_of, networks_in}
use Rattle.columns.specs.Machinery.Contents.{texts, networks, contents_from}
use Rattle.columns.specs.Machinery.ContentsLeft.{all_contents}
use Rattle.columns.specs.Machinery.Lists.{moved_of, found_of}
use Rattle.columns.proofs.ColumnContents.{walk-contents, texts-in, networks-in}

-- in an accepted table all its values and networks are met
pub all-values : (column : ℕ) (t : List ℕ) → Accepted (entries_of t) → texts (all_contents column (entries_of t)) ≡ values_in column (rows_of t)
all-values column t ok = ap texts (walk-contents column How.Literal (entries_of t) ok) ∙ texts-in column (rows_of t)

pub all-networks : (t : List ℕ) → Accepted (entries_of t) → networks (all_contents 7 (entries_of t)) ≡ networks_in (rows_of t)
all-networks t ok = ap networks (walk-contents 7 How.Literal (entries_of t) ok) ∙ networks-in (rows_of t)

-- an entry more
module _ (column : ℕ) (es : List Entry) (bytes : List ℕ) where
  pub contents-more : (list : ListAt) (i : Item)
      → contents_from column list.here list.reading (entry_of i bytes ∷ es)
      ≡ found_of list i bytes ++ contents_from column (moved_of column list i).here (moved_of column list i).reading es
  contents-more list (I.Start n) = refl
  contents-more list (I.Statement e) = refl
  contents-more list (I.Column c) = refl
  contents-more list (I.Condition o k) = refl
  contents-more list (I.Network a n) = by list.here
    where
      by : (here : Bool) → contents_from column here list.reading (Entry.network a n ∷ es)
          ≡ found_of (record { here = here; reading = list.reading }) (I.Network a n) bytes ++ contents_from column here list.reading es
      by true = refl
      by false = refl
  contents-more list I.Value = by list.here
    where
      by : (here : Bool) → contents_from column here list.reading (Entry.value bytes ∷ es)
          ≡ found_of (record { here = here; reading = list.reading }) I.Value bytes ++ contents_from column here list.reading es
      by true = refl
      by false = refl
  contents-more list I.End = refl

-- a record gives no more contents than it has bytes, and a value no more positions
few : (column : ℕ) (here : Bool) (reading : Reading) (es : List Entry)
    → (length (contents_from column here reading es) ≤ bytes_taken es) × (sum_of (texts (contents_from column here reading es)) ≤ bytes_taken es)
few column here reading [] = (omega arith, omega arith)
few column here reading (Entry.start n ∷ es) = let rest = few column here reading es in (omega arith, omega arith)
few column here reading (Entry.statement e ∷ es) = let rest = few column false reading es in (omega arith, omega arith)
few column here reading (Entry.column c ∷ es) =
    let rest = few column (eqb (column_place c) column) (element_reading c) es in (omega arith, omega arith)
few column here reading (Entry.condition o k ∷ es) =
    let rest = few column (eqb (3 + key_code k) column) (operator_reading o) es in (omega arith, omega arith)
few column true reading (Entry.network a n ∷ es) = let rest = few column true reading es in (omega arith, omega arith)
few column false reading (Entry.network a n ∷ es) = let rest = few column false reading es in (omega arith, omega arith)
few column true reading (Entry.value bs ∷ es) = let rest = few column true reading es in (omega arith, omega arith)
few column false reading (Entry.value bs ∷ es) = let rest = few column false reading es in (omega arith, omega arith)
few column here reading (Entry.end ∷ es) = let rest = few column here reading es in (omega arith, omega arith)

pub contents-few : (column : ℕ) (t : List ℕ) → length (all_contents column (entries_of t)) ≤ length t
contents-few column t = let most = few column false How.Literal (entries_of t) in omega (arith, entries-fit t)

pub texts-few : (column : ℕ) (t : List ℕ) → sum_of (texts (all_contents column (entries_of t))) ≤ length t
texts-few column t = let most = few column false How.Literal (entries_of t) in omega (arith, entries-fit t)

-- the networks are the contents that are none of the values
abbrev pub is_range : Reading × Listed → Bool
is_range (reading, Listed.text v) = false
is_range (reading, Listed.range a n) = true

pub networks-count : (l : List (Reading × Listed)) → length (filter is_range l) ≡ length (networks l)
networks-count [] = refl
networks-count ((reading, Listed.text v) ∷ l) = networks-count l
networks-count ((reading, Listed.range a n) ∷ l) = ap suc (networks-count l)
