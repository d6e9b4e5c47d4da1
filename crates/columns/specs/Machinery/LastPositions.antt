-- The last positions of the values of a plan, as a row.
use Rattle.std.specs.Prelude.{ℕ, ◌-◌, Bool, true, false, not, ◌||◌, List, [], ◌∷◌, eqb, ltb, replicate}
use Rattle.std.specs.Int.Bits.{bit_and}
use Rattle.stored.specs.Choice.{pick}
use Rattle.matching.specs.Machinery.Rows.{mark_row}

-- a row of no position
abbrev pub no_positions : List ℕ
no_positions = replicate 8 0

-- a row with the last position of a value marked, if the word of a plan is a value
unfoldable pub word_marked : List ℕ → ℕ → List ℕ
word_marked row word = pick (ltb word 4) row (mark_row row (word - 4) true)

-- with those of all values of a plan
abbrev pub last_positions : List ℕ → List ℕ → List ℕ
last_positions row [] = row
last_positions row (word ∷ plan) = last_positions (word_marked row word) plan

-- two rows have a position in common
abbrev pub rows_meet : List ℕ → List ℕ → Bool
rows_meet [] others = false
rows_meet (a ∷ row) [] = false
rows_meet (a ∷ row) (b ∷ others) = not (eqb (bit_and a b) 0) || rows_meet row others
