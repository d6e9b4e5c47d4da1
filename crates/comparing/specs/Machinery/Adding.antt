-- The first values that show the footprints of a column, gathered one after the other.
use Rattle.std.specs.Prelude.{ℕ, zero, suc, ◌^◌, List, [], ◌∷◌, ◌++◌, eqb, ltb}
use Rattle.stored.specs.Choice.{pick, some}
use Rattle.judging.specs.Requests.{Value, absent, text, number}
use Rattle.states.specs.Machinery.Rows.{most_states}
use Rattle.states.specs.Machinery.Search.{string_of}
use Rattle.columns.specs.Machinery.Edges.{next_edge}

-- what shows a footprint, as a number: a row's number or, where a column is absent, 512; in column 7 the address or 2 ^ 32
abbrev pub text_at : List ℕ → ℕ → Value
text_at words i = pick (eqb i most_states) absent (text (string_of words i))

abbrev pub address_at : ℕ → Value
address_at a = pick (eqb a (2 ^ 32)) absent (number a)

-- x joins those found before it, unless one of them has the same footprint
abbrev pub adding : (ℕ → ℕ) → List ℕ → ℕ → List ℕ
adding print found x = pick (some (λ y. eqb (print y) (print x)) found) found (found ++ (x ∷ []))

-- the rows i, i + 1, .., n of them, one after the other
abbrev pub adding_rows : (ℕ → ℕ) → List ℕ → ℕ → ℕ → List ℕ
adding_rows print found i zero = found
adding_rows print found i (suc n) = adding_rows print (adding print found i) (suc i) n

-- x and the edges above it, at most as many as the first number says
abbrev pub adding_edges : ℕ → List (ℕ × ℕ) → (ℕ → ℕ) → List ℕ → ℕ → List ℕ
adding_edges zero ns print found x = found
adding_edges (suc fuel) ns print found x =
    pick (ltb x (2 ^ 32)) (adding_edges fuel ns print (adding print found x) (next_edge ns x)) found
