-- The values and networks of two tables together, and the sum that refusal 10 is given for: it is the number of codes of the column.
use Rattle.std.proofs.Common.{ℕ, ◌+◌, ◌≡◌, refl, sym, ap, ◌∙◌, List, [], ◌∷◌, ◌++◌, append_assoc, arith, length, length-append}
use lib.ListN.{length-map}
use Rattle.stored.specs.Tables.{Statement}
use Rattle.matching.specs.declared.reading.Reading.{Reading}
use Rattle.matching.specs.Machinery.Codes.{symbol_code, value_codes, codes_of}
use Rattle.matching.specs.Symbols.{symbols, ignores_case}
use Rattle.matching.proofs.States.{symbols-length}
use Rattle.columns.specs.Values.{element_values, condition_values, values_in, sum_of, condition_networks, networks_in}

-- the values of a column in both tables: those of the first, then those of the second
pub values-append : (column : ℕ) (first second : List Statement) → values_in column (first ++ second) ≡ values_in column first ++ values_in column second
values-append column [] second = refl
values-append column (s ∷ first) second =
    ap ((element_values column s.elements ++ condition_values column s.conditions) ++◌) (values-append column first second)
    ∙ sym (append_assoc (element_values column s.elements ++ condition_values column s.conditions) (values_in column first) (values_in column second))

-- the networks of both tables
pub networks-append : (first second : List Statement) → networks_in (first ++ second) ≡ networks_in first ++ networks_in second
networks-append [] second = refl
networks-append (s ∷ first) second =
    ap (condition_networks s.conditions ++◌) (networks-append first second)
    ∙ sym (append_assoc (condition_networks s.conditions) (networks_in first) (networks_in second))

-- the sum over both
pub sum-append : (vs ws : List (Reading × List ℕ)) → sum_of (vs ++ ws) ≡ sum_of vs + sum_of ws
sum-append [] ws = omega arith
sum-append (v ∷ vs) ws = omega (arith, sum-append vs ws)

-- one code for each symbol of a value and one for its start
pub codes-length : (reading : Reading) (value : List ℕ) → length (value_codes reading value) ≡ length value + 1
codes-length reading value = omega (arith, length-map (symbols reading value) (symbol_code (ignores_case reading)), symbols-length reading value)

pub codes-sum : (vs : List (Reading × List ℕ)) → length (codes_of vs) ≡ sum_of vs
codes-sum [] = refl
codes-sum (v ∷ vs) = length-append (value_codes v.0 v.1) (codes_of vs) ∙ omega (arith, codes-sum vs, codes-length v.0 v.1)

-- the sum over a column of both tables
pub sum_both : (column : ℕ) (first second : List Statement)
    → sum_of (values_in column (first ++ second)) ≡ sum_of (values_in column first) + sum_of (values_in column second)
sum_both column first second = ap sum_of (values-append column first second) ∙ sum-append (values_in column first) (values_in column second)

-- the number of networks of both tables
pub networks-both : (first second : List Statement) → length (networks_in (first ++ second)) ≡ length (networks_in first) + length (networks_in second)
networks-both first second = ap length (networks-append first second) ∙ length-append (networks_in first) (networks_in second)
