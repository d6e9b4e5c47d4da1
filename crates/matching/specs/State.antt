-- The state of a string in a column: which prefixes of which values match the whole string (RULES 6.7).
use Rattle.std.specs.Prelude.{ℕ, zero, suc, Bool, List, [], ◌∷◌, ◌++◌, length}
use Rattle.matching.specs.declared.reading.Reading.{Reading}
use Rattle.matching.specs.Symbols.{symbols, compare_of}
use Rattle.matching.specs.Matches.{prefix_matches}

-- f at 0 up to below n
abbrev pub list_of : ℕ → (ℕ → Bool) → List Bool
list_of zero f = []
list_of (suc n) f = f 0 ∷ list_of n (λ j. f (suc j))

-- the pairs (value, j) of one value: whether its first j symbols match the whole string, j from 0 to the number of its symbols
abbrev pub value_state : Reading → List ℕ → List ℕ → List Bool
value_state reading value s = list_of (suc (length (symbols reading value))) (prefix_matches (compare_of reading) (symbols reading value) s)

-- the state of a string in a column: the pairs of all its values, repeats separately
abbrev pub state_of : List (Reading × List ℕ) → List ℕ → List Bool
state_of [] s = []
state_of (v ∷ vs) s = value_state v.0 v.1 s ++ state_of vs s
