-- The rows of the operator table as a list, and what a search in it and a place in it give.
use Rattle.std.proofs.Common.{Option, Some, None, ◌≡◌, refl, sym, List, [], ◌∷◌, ℕ, ◌+◌, ◌<◌, eqb, get_or, drop, ne_eqb}
use Rattle.stored.specs.Choice.{pick}
use Rattle.stored.specs.Operators.{row_of, operator_of}
use Rattle.stored.specs.Machinery.OperatorTable.{row_place}
use Rattle.std.proofs.lemmas.List.{drop_more}
use Rattle.stored.specs.declared.items.Operator.{Operator}
use Rattle.stored.specs.declared.items.Operator.TheVariants as O
use Rattle.stored.specs.declared.operators.OperatorRow.{OperatorRow}

abbrev pub rows : List OperatorRow
rows =
    row_of O.StringEquals
    ∷ row_of O.StringNotEquals
    ∷ row_of O.StringLike
    ∷ row_of O.StringNotLike
    ∷ row_of O.IpAddress
    ∷ row_of O.NotIpAddress
    ∷ row_of O.StringEqualsIfExists
    ∷ row_of O.StringNotEqualsIfExists
    ∷ row_of O.StringLikeIfExists
    ∷ row_of O.StringNotLikeIfExists
    ∷ row_of O.IpAddressIfExists
    ∷ row_of O.NotIpAddressIfExists
    ∷ []

-- the operator of the first row that has the code
abbrev pub first_with : ℕ → List OperatorRow → Option Operator
first_with code [] = None
first_with code (row ∷ rest) = pick (eqb code row.code) (Some row.operator) (first_with code rest)

-- a row with another code leaves the search to the rows behind
pub passed : (code i : ℕ) (d : OperatorRow) → i < 12 → ((get_or rows i d).code ≡ code → ⊥)
    → first_with code (drop i rows) ≡ first_with code (drop (i + 1) rows)
passed code i d h n = rw (drop_more rows i d h, ne_eqb code (get_or rows i d).code (λ e. n (sym e)))

-- the table agrees with the rule
pub searched : (code : ℕ) → first_with code rows ≡ operator_of code
searched code = refl

-- an operator's row stands at its place in the table, whatever stood past the table's end
pub row-there : (o : Operator) (d : OperatorRow) → get_or rows (row_place o) d ≡ row_of o
row-there O.StringEquals d = refl
row-there O.StringNotEquals d = refl
row-there O.StringLike d = refl
row-there O.StringNotLike d = refl
row-there O.IpAddress d = refl
row-there O.NotIpAddress d = refl
row-there O.StringEqualsIfExists d = refl
row-there O.StringNotEqualsIfExists d = refl
row-there O.StringLikeIfExists d = refl
row-there O.StringNotLikeIfExists d = refl
row-there O.IpAddressIfExists d = refl
row-there O.NotIpAddressIfExists d = refl
