-- Refusal 9: the lowest faulty column is found by looking at the columns in turn.
use Rattle.std.proofs.Common.{ℕ, ◌+◌, ◌<◌, ◌≤◌, ◌≡◌, refl, sym, ◌∙◌, ap, Bool, true, false, List, Some, None, length, drop, drop-cons, ltb, add-one, ltb-false, lt-ltb}
use Rattle.stored.specs.Choice.{pick}
use Rattle.judging.specs.Requests.{Value, absent, columns, column_of, is_faulty, first_fault}
use Rattle.judging.specs.Machinery.Faults.{fault_of}

module _ (column : ℕ) (r : List Value) (there : column < length r) where
  -- a column is faulty, or the columns behind it decide
  first_fault-drop : first_fault column (drop column r) ≡ pick (is_faulty column (column_of r column)) column (first_fault (column + 1) (drop (column + 1) r))
  first_fault-drop = rw (add-one, drop-cons r column absent)

  pub fault-here : is_faulty column (column_of r column) ≡ true → first_fault column (drop column r) ≡ column
  fault-here e = first_fault-drop ∙ ap (λ (t : Bool). pick t column (first_fault (column + 1) (drop (column + 1) r))) e

  pub fault-behind : is_faulty column (column_of r column) ≡ false → first_fault (column + 1) (drop (column + 1) r) ≡ first_fault column (drop column r)
  fault-behind e = sym (first_fault-drop ∙ ap (λ (t : Bool). pick t column (first_fault (column + 1) (drop (column + 1) r))) e)

-- a column of a request, as one that is found
pub fault_of-some : (column : ℕ) → column < columns → fault_of column ≡ Some column
fault_of-some column low = rw (lt-ltb column columns low)

-- no column is faulty
pub fault_of-none : (column : ℕ) → fault_of column ≡ None → columns ≤ column
fault_of-none column e = by (ltb column columns) refl e
  where
    by : (t : Bool) → ltb column columns ≡ t → pick t (Some column) None ≡ None → columns ≤ column
    by true _ e = cc
    by false f e = ltb-false column columns f
