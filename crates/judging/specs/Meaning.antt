-- What a statement says of a request (RULES 4 and 5; source 002, equations 1 to 3; Not-forms by source 001).
use Rattle.std.specs.Prelude.{ℕ, ◌+◌, Bool, true, false, not, ◌&&◌, List, eqb}
use Rattle.stored.specs.Choice.{pick, some, every}
use Rattle.stored.specs.Items.{column_place, column_negated, key_code}
use Rattle.stored.specs.Operators.{row_of}
use Rattle.stored.specs.Tables.{Listed, Element, Condition, Statement}
use Rattle.stored.specs.declared.items.Effect.{Effect}
use Rattle.stored.specs.declared.items.Effect.TheVariants as E
use Rattle.stored.specs.declared.items.Column.{Column}
use Rattle.stored.specs.declared.items.Column.TheVariants as C
use Rattle.stored.specs.declared.items.Operator.{Operator}
use Rattle.matching.specs.Matches.{value_matches}
use Rattle.matching.specs.Network.{agree}
use Rattle.matching.specs.declared.reading.Reading.{Reading}
use Rattle.matching.specs.declared.reading.Reading.TheVariants as R
use Rattle.judging.specs.Requests.{Value, absent, text, number, is_present, column_of}

-- a listed value matches a string, a listed network holds for an address
abbrev pub listed_matches : Reading → Value → Listed → Bool
listed_matches reading absent (Listed.text v) = false
listed_matches reading absent (Listed.range n length) = false
listed_matches reading (text s) (Listed.text v) = value_matches reading v s
listed_matches reading (text s) (Listed.range n length) = false
listed_matches reading (number a) (Listed.text v) = false
listed_matches reading (number a) (Listed.range n length) = agree n a length

-- some listed value matches; negated: none does
abbrev pub sense : Bool → Bool → Bool
sense true b = not b
sense false b = b

-- actions ignore case, a principal `*` alone is everyone
abbrev pub element_reading : Column → Reading
element_reading C.Principal = R.Principal
element_reading C.Action = R.Fold
element_reading C.Resource = R.Plain
element_reading C.NotPrincipal = R.Principal
element_reading C.NotAction = R.Fold
element_reading C.NotResource = R.Plain

-- in StringEquals and StringNotEquals `*` and `?` are plain bytes
abbrev pub operator_reading : Operator → Reading
operator_reading o = pick (row_of o).literal R.Literal R.Plain

-- a column element holds if some listed value matches; a Not-form holds if none does
abbrev pub element_holds : Value → Element → Bool
element_holds v e = sense (column_negated e.name) (some (listed_matches (element_reading e.name) v) e.values)

-- a positive operator holds if some value matches, a negated one if none does; of an absent key the operator table decides
abbrev pub condition_holds : Value → Condition → Bool
condition_holds v d =
    pick (is_present v)
    (sense (row_of d.operator).negated (some (listed_matches (operator_reading d.operator) v) d.values))
    (row_of d.operator).absent

-- the column that a key is
abbrev pub condition_column : Condition → ℕ
condition_column d = 3 + key_code d.key

-- a statement applies if its elements and all its conditions hold
unfoldable pub applies : List Value → Statement → Bool
applies request s =
    every (λ e. element_holds (column_of request (column_place e.name)) e) s.elements
    && every (λ d. condition_holds (column_of request (condition_column d)) d) s.conditions

-- a list that speaks of another column is no restriction in this one
abbrev pub element_in : ℕ → Value → Element → Bool
element_in column v e = pick (eqb (column_place e.name) column) (element_holds v e) true

abbrev pub condition_in : ℕ → Value → Condition → Bool
condition_in column v d = pick (eqb (condition_column d) column) (condition_holds v d) true

-- a statement holds in a column for a value if all its lists that speak of the column do
unfoldable pub holds : ℕ → Value → Statement → Bool
holds column v s = every (element_in column v) s.elements && every (condition_in column v) s.conditions

abbrev pub is_allow : Effect → Bool
is_allow E.Deny = false
is_allow E.Allow = true

-- some allow statement applies
abbrev pub some_allows : List Value → List Statement → Bool
some_allows request rows = some (λ s. is_allow s.effect && applies request s) rows

-- some deny statement applies
abbrev pub some_denies : List Value → List Statement → Bool
some_denies request rows = some (λ s. not (is_allow s.effect) && applies request s) rows

-- a request is allowed exactly when some allow statement applies and no deny statement does
abbrev pub is_allowed : List Value → List Statement → Bool
is_allowed request rows = some_allows request rows && not (some_denies request rows)
