-- What the search behind the comparison promises: a finished search has found just the states of all strings, each by its first string.
-- `Explored` says that a search is finished, `row_of` is the row of words that a string's state fills.
use Rattle.std.proofs.Common.{ℕ, ◌≤◌, ◌<◌, ◌≡◌, true, List, length}
use Rattle.stored.specs.Values.{in_range}
use Rattle.matching.specs.Machinery.Codes.{codes_of}
use Rattle.matching.specs.Machinery.Rows.{row_of}
use Rattle.matching.specs.declared.reading.Reading.{Reading}
use Rattle.judging.specs.Requests.{text}
use Rattle.states.specs.Machinery.Rows.{most_states, row_at}
use Rattle.states.specs.Machinery.Search.{Explored, string_of}
use Rattle.comparing.specs.Order.{Before}
use Rattle.comparing.specs.Columns.{States}
use Rattle.comparing.proofs.survey.AllStates
use Rattle.comparing.proofs.survey.Exploring

-- A finished search has as many rows as there are different states among all strings, the empty one included.
pub states-counted : (vs : List (Reading × List ℕ)) → length (codes_of vs) ≤ most_states → (words : List ℕ) (n : ℕ)
    → Explored (codes_of vs) words n → States vs n
states-counted = AllStates.states-complete

-- Every string's state is among those explored.
pub states-complete : (codes words : List ℕ) (n : ℕ) → Explored codes words n
    → (s : List ℕ) → in_range s ≡ true → (i : ℕ) × (i < n) × (row_at words i ≡ row_of codes s)
states-complete = Exploring.reached

-- Each state was found by its first string: no string that has it comes before.
pub states-first : (codes words : List ℕ) (n : ℕ) → Explored codes words n
    → (i : ℕ) → i < n → (u : List ℕ) → in_range u ≡ true → row_of codes u ≡ row_at words i → Before (text u) (text (string_of words i)) → ⊥
states-first = Exploring.string-first
