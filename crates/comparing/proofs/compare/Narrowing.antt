-- Refusal 10: the sums of both tables against the limits, and the lowest column that passes one.
use Rattle.std.proofs.Common.{ℕ, suc, ◌+◌, ◌-◌, ◌≤◌, ◌<◌, ◌≡◌, sym, ◌∙◌, ap, Bool, true, false, List, ◌++◌, add-one, arith, ltb, length, lt-ltb, le-ltb}
use Rattle.stored.specs.Choice.{pick}
use Rattle.stored.specs.Tables.{Statement}
use Rattle.columns.specs.Values.{values_in, sum_of, networks_in}
use Rattle.columns.proofs.Widths.{sum_both, networks-both}
use Rattle.comparing.specs.Columns.{is_wide}
use Rattle.comparing.specs.Compared.{lowest}

module _ (first second : List Statement) where
  -- a column of strings
  pub wide-strings : (column : ℕ) → column < 7 → ltb 512 (sum_of (values_in column first) + sum_of (values_in column second)) ≡ is_wide (first ++ second) column
  wide-strings column low =
      ap (ltb 512) (sym (sum_both column first second))
      ∙ sym (ap (λ (t : Bool). pick t (ltb 512 (sum_of (values_in column (first ++ second)))) (ltb 128 (length (networks_in (first ++ second))))) (lt-ltb column 7 low))

  -- column 7
  pub wide-networks : (column : ℕ) → 7 ≤ column → ltb 128 (length (networks_in first) + length (networks_in second)) ≡ is_wide (first ++ second) column
  wide-networks column high =
      ap (ltb 128) (sym (networks-both first second))
      ∙ sym (ap (λ (t : Bool). pick t (ltb 512 (sum_of (values_in column (first ++ second)))) (ltb 128 (length (networks_in (first ++ second))))) (le-ltb column 7 high))

module _ (test : ℕ → Bool) where
  -- the lowest of the columns left, where the test holds
  pub lowest-here : (column : ℕ) → column < 8 → test column ≡ true → lowest test column (8 - column) ≡ column
  lowest-here column low e = ap (lowest test column) one_more ∙ ap (λ (t : Bool). pick t column (lowest test (suc column) (8 - suc column))) e
    where
      one_more : 8 - column ≡ suc (8 - suc column)
      one_more = omega arith

  -- and where it does not
  pub lowest-on : (column : ℕ) → column < 8 → test column ≡ false → lowest test column (8 - column) ≡ lowest test (column + 1) (8 - (column + 1))
  lowest-on column low e =
      ap (lowest test column) one_more
      ∙ ap (λ (t : Bool). pick t column (lowest test (suc column) (8 - suc column))) e
      ∙ ap (λ (c : ℕ). lowest test c (8 - c)) (sym (add-one column))
    where
      one_more : 8 - column ≡ suc (8 - suc column)
      one_more = omega arith
