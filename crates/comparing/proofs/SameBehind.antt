-- Strings with the same state have the same state when the same bytes follow.
use Rattle.std.proofs.Common.{ℕ, ◌≤◌, ◌≡◌, sym, ◌∙◌, ap, List, [], ◌∷◌, ◌++◌, append_assoc, append-nil, length}
use Rattle.matching.specs.State.{state_of}
use Rattle.matching.specs.Machinery.Codes.{codes_of}
use Rattle.matching.specs.Machinery.Rows.{positions, step_row, row_of}
use Rattle.matching.specs.declared.reading.Reading.{Reading}
use Rattle.matching.proofs.States.{row_step}
use Rattle.matching.proofs.Columns.{same-state, same_row}

-- strings with one row keep one row when the same bytes follow
row_more : (codes s u t : List ℕ) → row_of codes s ≡ row_of codes u → row_of codes (s ++ t) ≡ row_of codes (u ++ t)
row_more codes s u [] e = ap (row_of codes) (append-nil s) ∙ e ∙ ap (row_of codes) (sym (append-nil u))
row_more codes s u (b ∷ t) e =
    let more = row_more codes (s ++ (b ∷ [])) (u ++ (b ∷ [])) t (row_step codes s b ∙ ap (step_row codes b) e ∙ sym (row_step codes u b)) in
    ap (row_of codes) (sym (append_assoc s (b ∷ []) t)) ∙ more ∙ ap (row_of codes) (append_assoc u (b ∷ []) t)

-- and so with states
pub state-more : (vs : List (Reading × List ℕ)) → length (codes_of vs) ≤ positions → (s u t : List ℕ)
    → state_of vs s ≡ state_of vs u → state_of vs (s ++ t) ≡ state_of vs (u ++ t)
state-more vs few s u t e = same_row vs few (s ++ t) (u ++ t) (row_more (codes_of vs) s u t (same-state vs few s u e))
