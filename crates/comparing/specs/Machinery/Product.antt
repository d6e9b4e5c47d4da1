-- The gaps as a list that can be counted: of all requests made of the first values of the columns, those that only the first table
-- allows. And the same with footprints as words.
use Rattle.std.specs.Prelude.{ℕ, suc, ◌<◌, ◌≡◌, Bool, not, ◌&&◌, List, [], ◌∷◌, ◌++◌, map, length, get_or}
use Rattle.stored.specs.Choice.{pick}
use Rattle.stored.specs.Tables.{Statement}
use Rattle.judging.specs.Requests.{Value, absent, columns}
use Rattle.judging.specs.Meaning.{holds, is_allow, is_allowed}
use Rattle.judging.specs.Machinery.Rows.{rows_word}
use Rattle.comparing.specs.Order.{Before, In, Ascending}
use Rattle.comparing.specs.Requests.{Admitted}
use Rattle.comparing.specs.Gaps.{Alike, FirstOf}
use Rattle.comparing.specs.declared.sides.Sides.{Sides}

-- a list has the first values of a column, in order, and all of them
pub record Firsts (first second : List Statement) (column : ℕ) (list : List Value) : Type 0 where
  pub all : (v : Value) → In v list → FirstOf first second column v
  pub order : Ascending Before list
  pub complete : (v : Value) → Admitted column v → (w : Value) × In w list × Alike first second column v w

-- a list for each column, from a column on
abbrev pub AllFirsts : List Statement → List Statement → ℕ → List (List Value) → Type 0
AllFirsts first second column [] = column ≡ columns
AllFirsts first second column (list ∷ lists) = Firsts first second column list × AllFirsts first second (suc column) lists

-- each value in front of each request
abbrev pub in_front : List Value → List (List Value) → List (List Value)
in_front [] requests = []
in_front (v ∷ values) requests = map (λ (r : List Value). v ∷ r) requests ++ in_front values requests

-- all requests with a value from each list, by column 0, then 1, and so on
abbrev pub product_of : List (List Value) → List (List Value)
product_of [] = [] ∷ []
product_of (list ∷ lists) = in_front list (product_of lists)

-- the elements for which a test holds, in their order
abbrev pub keep : {A : Type 0} → (A → Bool) → List A → List A
keep test [] = []
keep test (x ∷ l) = pick (test x) (x ∷ keep test l) (keep test l)

-- the first table allows the request, and the second does not
abbrev pub only_first : List Statement → List Statement → List Value → Bool
only_first first second r = is_allowed r first && not (is_allowed r second)

-- the gaps among them
abbrev pub gaps_among : List Statement → List Statement → List (List Value) → List (List Value)
gaps_among first second lists = keep (only_first first second) (product_of lists)

-- the footprint of a value, as a word
abbrev pub print_of : List Statement → List Statement → ℕ → Value → ℕ
print_of first second column v = rows_word (holds column v) (first ++ second)

-- the footprints of the values of each list, from a column on
abbrev pub prints_from : List Statement → List Statement → ℕ → List (List Value) → List (List ℕ)
prints_from first second column [] = []
prints_from first second column (list ∷ lists) = map (print_of first second column) list ∷ prints_from first second (suc column) lists

-- the number of the first table's rows, and the allow rows of both tables
pub record SidesOf (first second : List Statement) (sides : Sides) : Type 0 where
  pub size : sides.size ≡ length first
  pub allow : sides.allow ≡ rows_word (λ s. is_allow s.effect) first
  pub other : sides.other ≡ rows_word (λ s. is_allow s.effect) second

-- the request made of the values at an index in each list
abbrev pub values_at : List (List Value) → List ℕ → List Value
values_at [] path = []
values_at (list ∷ lists) [] = []
values_at (list ∷ lists) (i ∷ path) = get_or list i absent ∷ values_at lists path

-- each index is below the length of its list
abbrev pub Inside : List (List Value) → List ℕ → Type 0
Inside [] [] = Unit {0}
Inside [] (i ∷ path) = ⊥
Inside (list ∷ lists) [] = ⊥
Inside (list ∷ lists) (i ∷ path) = (i < length list) × Inside lists path
