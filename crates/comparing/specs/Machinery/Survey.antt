-- What the functions that survey the columns promise each other: of each column, the first values that show its footprints, and these
-- footprints as words in the workspace.
use Rattle.std.specs.Prelude.{ℕ, suc, ◌+◌, ◌≤◌, ◌<◌, ◌≡◌, List, [], ◌∷◌, ◌++◌, map, Option, Some, None, Result, Ok, Err, eqb, length, take, drop}
use Rattle.stored.specs.Choice.{pick, some}
use Rattle.stored.specs.Tables.{Statement}
use Rattle.matching.specs.Machinery.Codes.{codes_of}
use Rattle.judging.specs.Requests.{Value, columns}
use Rattle.columns.specs.Values.{values_in, sum_of}
use Rattle.comparing.specs.Columns.{Few, TooMany}
use Rattle.comparing.specs.Compared.{first_wide, Uncrowded, product, most_kinds}
pub use Rattle.comparing.specs.Machinery.Kinds.{prints_between}
use Rattle.states.specs.Machinery.Rows.{prints_at}
use Rattle.comparing.specs.Machinery.Kinds.{prints_in, Bounded}
use Rattle.states.specs.Machinery.Search.{Explored, FoundAll}
use Rattle.columns.specs.Machinery.Both.{Narrow, FewNetworks}
use Rattle.comparing.specs.Machinery.Product.{Firsts, AllFirsts, print_of, prints_from}
use Rattle.comparing.specs.Machinery.Adding.{text_at, adding_rows}
use Rattle.comparing.specs.Answers.{as_counting}
use Rattle.comparing.specs.Machinery.Refusing.{RefusesStates, RefusesWidths}
use Rattle.comparing.specs.declared.answers.Refused.{Refused as Refusal}
use Rattle.comparing.specs.declared.survey.States.{States}

-- the workspace has room for the footprints of one column more
pub record HasRoom (words : List ℕ) (from : ℕ) : Type 0 where
  pub low : from ≤ 1094
  pub room : 8192 ≤ length words

-- a footprint joins those of its column, unless it is among them
abbrev pub add_print : List ℕ → ℕ → List ℕ
add_print prints print = pick (some (λ x. eqb x print) prints) prints (prints ++ (print ∷ []))

-- one footprint more was laid down behind those from one bound to another, or was among them
pub record Added (before after : List ℕ) (from to : ℕ) (print last : ℕ) : Type 0 where
  pub prints : prints_between after from last ≡ add_print (prints_between before from to) print
  pub low : to ≤ last
  pub high : last ≤ suc to
  pub kept : take (prints_at + to) after ≡ take (prints_at + to) before
  pub same : length after ≡ length before

-- the footprint of a row of states, or of absence
abbrev pub print_at : List Statement → List Statement → ℕ → List ℕ → ℕ → ℕ
print_at first second column words i = print_of first second column (text_at words i)

-- the states of a column were explored, the codes of the first table's values before those of the second's
pub record HasStates (first second : List Statement) (column : ℕ) (words : List ℕ) (states : ℕ) : Type 0 where
  pub explored : Explored (codes_of (values_in column (first ++ second))) words states
  pub narrow : Narrow (first ++ second) column

-- the footprints of n rows of states from a row on joined those that were there
pub record RowsAdded (first second : List Statement) (column : ℕ) (before after : List ℕ) (from start row n to : ℕ) : Type 0 where
  pub prints :
      (found : List ℕ) → prints_between before from start ≡ map (print_at first second column before) found
      → prints_between after from to
      ≡ map (print_at first second column before) (adding_rows (print_at first second column before) found row n)
  pub low : start ≤ to
  pub high : to ≤ start + n
  pub kept : take (prints_at + start) after ≡ take (prints_at + start) before
  pub same : length after ≡ length before

-- the footprints of a column were laid down behind those of the columns before it
pub record Gathered (first second : List Statement) (column : ℕ) (before after : List ℕ) (from to : ℕ) : Type 0 where
  pub list : List Value
  pub firsts : Firsts first second column list
  pub prints : prints_between after from to ≡ map (print_of first second column) list
  pub size : to ≡ from + length list
  pub some : 0 < length list
  pub few : length list ≤ 513
  pub kept : take from (drop prints_at after) ≡ take from (drop prints_at before)
  pub same : length after ≡ length before

-- the states of a column of strings, all of them or too many; the footprints stay
pub record FoundStates (first second : List Statement) (column : ℕ) (before after : List ℕ) (r : States) : Type 0 where
  pub mine : r.own ≡ sum_of (values_in column first)
  pub all : r.positions ≡ sum_of (values_in column (first ++ second))
  pub answer : FoundAll (codes_of (values_in column (first ++ second))) after r.states
  pub kept : drop prints_at after ≡ drop prints_at before
  pub same : length after ≡ length before

-- a column of strings has few states, or too many; column 7 has none
abbrev pub FewIn : List Statement → ℕ → Type 0
FewIn rows column = column < 7 → Few (values_in column rows)

-- one column was surveyed
abbrev pub SurveyedColumn : List Statement → List Statement → ℕ → List ℕ → List ℕ → ℕ → Option ℕ → Type 0
SurveyedColumn first second column before after from None =
    (column < 7)
    × TooMany (values_in column (first ++ second))
    × (length after ≡ length before)
SurveyedColumn first second column before after from (Some to) =
    FewIn (first ++ second) column × Gathered first second column before after from to

-- refusal 10 is given for no column, and the workspace is large enough
pub record Surveyable (rows : List Statement) (words : List ℕ) : Type 0 where
  pub narrow : (column : ℕ) → column < 7 → Narrow rows column
  pub networks : FewNetworks rows
  pub room : 8192 ≤ length words

-- all columns were surveyed: none is crowded, the product of the numbers of first values is within the limit, and their footprints are in
-- the workspace
pub record Listed (first second : List Statement) (words bounds : List ℕ) : Type 0 where
  pub uncrowded : Uncrowded (first ++ second)
  pub lists : List (List Value)
  pub firsts : AllFirsts first second 0 lists
  pub few : product (map length lists) ≤ most_kinds
  pub bounded : Bounded words bounds
  pub prints : prints_in words bounds 0 ≡ prints_from first second 0 lists

-- where the footprints of each column begin and end, or the refusal that is given for the states and kinds of the tables
abbrev pub Surveyed : List Statement → List Statement → List ℕ → Result (List ℕ) Refusal → Type 0
Surveyed first second words (Ok bounds) = Listed first second words bounds
Surveyed first second words (Err r) = RefusesStates first second (as_counting (Err r))

-- the same, or a refusal for the widths of the tables before it
abbrev pub SurveyedBoth : List Statement → List Statement → List ℕ → Result (List ℕ) Refusal → Type 0
SurveyedBoth first second words (Ok bounds) = (columns ≤ first_wide (first ++ second)) × Listed first second words bounds
SurveyedBoth first second words (Err r) = RefusesWidths first second (as_counting (Err r))
