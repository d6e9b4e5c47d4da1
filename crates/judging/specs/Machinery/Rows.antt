-- A set of rows as a word: bit i for row i.
use Rattle.std.specs.Prelude.{ℕ, ◌+◌, ◌*◌, Bool, true, false, List, [], ◌∷◌}

abbrev pub bit_of : Bool → ℕ
bit_of true = 1
bit_of false = 0

-- the rows for which a test holds
abbrev pub rows_word {ℓ} : {A : Type ℓ} → (A → Bool) → List A → ℕ
rows_word f [] = 0
rows_word f (s ∷ rows) = rows_word f rows * 2 + bit_of (f s)
