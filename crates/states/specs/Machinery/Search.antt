-- What the functions that explore a column promise each other. A step from row i by byte b has the number i * 128 + b, and a row's key is
-- the number of the step that found it.
use Rattle.std.specs.Prelude.{ℕ, zero, suc, ◌+◌, ◌*◌, ◌/◌, ◌%◌, ◌≤◌, ◌<◌, ◌≡◌, false, List, [], ◌∷◌, ◌⊎◌, Option, None, Some, eqb, length, get_or, drop}
use Rattle.stored.specs.Choice.{pick}
use Rattle.matching.specs.Machinery.Rows.{row_bit, first_row, step_row, forward}
use Rattle.states.specs.Machinery.Rows.{prints_at, most_states, keys_at, codes_at, row_at, key_at, codes_laid, IsByte}
use Rattle.states.specs.Machinery.Taken.{Takes}

-- a workspace that has room for a search, and the codes of so many positions
pub record Searchable (positions : ℕ) (words : List ℕ) : Type 0 where
  pub most : positions ≤ 512
  pub room : prints_at ≤ length words
  pub takes : Takes (codes_laid positions words) words

-- where the step from row i by byte b leads, given the codes of the column
abbrev pub step_from : List ℕ → List ℕ → ℕ → ℕ → List ℕ
step_from codes words i b = step_row codes b (row_at words i)

-- every byte that is not in a set leads from a row where a smaller one leads
abbrev pub Enough : List ℕ → List ℕ → List ℕ → Type 0
Enough codes row bytes =
    (x : ℕ) → IsByte x → row_bit bytes x ≡ false → (a : ℕ) × IsByte a × (a < x) × (step_row codes a row ≡ step_row codes x row)

-- n rows were found by the steps before number t, in the order of the steps
pub record Partial (codes words : List ℕ) (n t : ℕ) : Type 0 where
  pub some : 0 < n
  pub few : n ≤ most_states
  pub first : row_at words 0 ≡ first_row codes
  pub distinct : (i j : ℕ) → i < j → j < n → row_at words i ≡ row_at words j → ⊥
  pub parent : (j : ℕ) → 0 < j → j < n → key_at words j / 128 < j
  pub byte : (j : ℕ) → 0 < j → j < n → IsByte (key_at words j % 128)
  pub found : (j : ℕ) → 0 < j → j < n → row_at words j ≡ step_from codes words (key_at words j / 128) (key_at words j % 128)
  pub ascending : (i j : ℕ) → 0 < i → i < j → j < n → key_at words i < key_at words j
  pub early : (j : ℕ) → 0 < j → j < n → key_at words j < t
  pub tried :
      (i b : ℕ) → i < n → IsByte b → i * 128 + b < t
      → (j : ℕ) × (j < n) × (row_at words j ≡ step_from codes words i b) × ((j ≡ 0) ⊎ (key_at words j ≤ i * 128 + b))

-- all steps from n rows were tried
abbrev pub Explored : List ℕ → List ℕ → ℕ → Type 0
Explored codes words n = Partial codes words n (n * 128)

-- there are 512 rows, and a step from one of them leads to another
pub record Exceeded (codes words : List ℕ) : Type 0 where
  pub rest : ℕ
  pub full : Partial codes words most_states rest
  pub row : ℕ
  pub by : ℕ
  pub low : row < most_states
  pub byte : IsByte by
  pub new : (j : ℕ) → j < most_states → row_at words j ≡ step_from codes words row by → ⊥

-- the words before the codes that n rows and their keys do not take are as before, and so is the one for the key of the first row, which
-- has none; for 512 rows no others are left
pub record Untouched (before after : List ℕ) (n : ℕ) : Type 0 where
  pub rows : (k : ℕ) → n * 8 ≤ k → k < keys_at → get_or after k 0 ≡ get_or before k 0
  pub root : get_or after keys_at 0 ≡ get_or before keys_at 0
  pub keys : (k : ℕ) → keys_at + n ≤ k → k < codes_at → get_or after k 0 ≡ get_or before k 0

-- how many rows are laid down by an answer: all that there is room for where there are more
abbrev pub rows_laid : Option ℕ → ℕ
rows_laid None = most_states
rows_laid (Some n) = n

-- so many rows were found by the steps before number t, or there are more than 512
abbrev pub FoundBefore : List ℕ → List ℕ → ℕ → Option ℕ → Type 0
FoundBefore codes words t None = Exceeded codes words
FoundBefore codes words t (Some n) = Partial codes words n t

-- so many rows are all, or there are more than 512
abbrev pub FoundAll : List ℕ → List ℕ → Option ℕ → Type 0
FoundAll codes words None = Exceeded codes words
FoundAll codes words (Some n) = Explored codes words n

-- a search went on from n rows to the step before number t: so many rows were found, or there are too many; all other words stay
pub record Searched (positions : ℕ) (before after : List ℕ) (n t : ℕ) (r : Option ℕ) : Type 0 where
  pub kept : drop codes_at after ≡ drop codes_at before
  pub untouched : Untouched before after (rows_laid r)
  pub more : n ≤ rows_laid r
  pub answer : FoundBefore (codes_laid positions before) after t r

-- a whole search: so many rows are all of a column, or there are too many; all other words stay
pub record Explores (codes before after : List ℕ) (r : Option ℕ) : Type 0 where
  pub kept : drop codes_at after ≡ drop codes_at before
  pub untouched : Untouched before after (rows_laid r)
  pub answer : FoundAll codes after r

-- the lowest of n rows that is this one, or none
abbrev pub FirstAt : List ℕ → ℕ → List ℕ → Option ℕ → Type 0
FirstAt words n row None = (j : ℕ) → j < n → row_at words j ≡ row → ⊥
FirstAt words n row (Some i) = (i < n) × (row_at words i ≡ row) × ((j : ℕ) → j < i → row_at words j ≡ row → ⊥)

-- each of n rows but the first has an older one and a byte that it was found by
pub record Keyed (words : List ℕ) (n : ℕ) : Type 0 where
  pub parent : (j : ℕ) → 0 < j → j < n → key_at words j / 128 < j
  pub byte : (j : ℕ) → 0 < j → j < n → IsByte (key_at words j % 128)

-- row i is one of n whose strings can be read off
pub record HasString (words : List ℕ) (i n : ℕ) : Type 0 where
  pub keyed : Keyed words n
  pub low : i < n
  pub few : n ≤ most_states
  pub room : 4608 ≤ length words

-- the string that a row was found by, last byte first, read off the keys (at most as many bytes as the first number says)
abbrev pub chain : ℕ → List ℕ → ℕ → List ℕ
chain zero words i = []
chain (suc fuel) words i = pick (eqb i 0) [] (key_at words i % 128 ∷ chain fuel words (key_at words i / 128))

-- the string that row i was found by
abbrev pub string_of : List ℕ → ℕ → List ℕ
string_of words i = forward (chain i words i)
