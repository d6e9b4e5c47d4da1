-- The row of a string over the codes of a column is the string's state, bit by bit; so equal states are equal rows and the other way round.
use Rattle.std.proofs.Common.{◌≡◌, ℕ, zero, suc, ◌+◌, ◌-◌, ◌<◌, ◌≤◌, Bool, true, false, ltb, List, [], ◌∷◌, ◌++◌, length, get_or, sym, refl, ap, ◌∙◌, subst, append_assoc, le_of_suc-le-suc, not-suc-le-zero, zero-add, arith, length-append, get_or-append-add, ext_get_or, ltb-false, ltb-true}
use Rattle.std.proofs.Math.ListN.{length-map, get_or-append, get_or-eq_default}
use Rattle.matching.specs.declared.reading.Reading.{Reading}
use Rattle.matching.specs.Symbols.{symbols, compare_of, ignores_case}
use Rattle.matching.specs.Matches.{prefix_matches}
use Rattle.matching.specs.Machinery.Codes.{symbol_code, value_codes, codes_of}
use Rattle.matching.specs.State.{list_of, value_state, state_of}
use Rattle.matching.specs.Machinery.Rows.{positions, first_bit, step_bit, nowhere, row_bit, pack, first_row, step_row, row_of, row_backward}
use Rattle.matching.proofs.Rows.{row-bit, row_same}
use Rattle.matching.proofs.Sweeps.{cell-outside}
use Rattle.matching.proofs.States.{backward, state-means-forward}

list_at : (n j : ℕ) (f : ℕ → Bool) → j < n → get_or (list_of n f) j false ≡ f j
list_at zero j f h = absurd (not-suc-le-zero h)
list_at (suc n) zero f h = refl
list_at (suc n) (suc j) f h = list_at n j (λ i. f (suc i)) (le_of_suc-le-suc h)

list_length : (n : ℕ) (f : ℕ → Bool) → length (list_of n f) ≡ n
list_length zero f = refl
list_length (suc n) f = ap suc (list_length n (λ i. f (suc i)))

codes-length : (reading : Reading) (value : List ℕ) → length (value_codes reading value) ≡ suc (length (symbols reading value))
codes-length reading value = ap suc (length-map (symbols reading value) (symbol_code (ignores_case reading)))

value-state-length : (reading : Reading) (value s : List ℕ) → length (value_state reading value s) ≡ length (value_codes reading value)
value-state-length reading value s =
    list_length (suc (length (symbols reading value))) (prefix_matches (compare_of reading) (symbols reading value) s) ∙ sym (codes-length reading value)

-- a state has one place for each code
pub state-length : (vs : List (Reading × List ℕ)) (s : List ℕ) → length (state_of vs s) ≡ length (codes_of vs)
state-length [] s = refl
state-length (v ∷ vs) s =
    let value = value-state-length v.0 v.1 s in
    let rest = state-length vs s in
    omega (arith, length-append (value_state v.0 v.1 s) (state_of vs s), length-append (value_codes v.0 v.1) (codes_of vs))

-- a row is packed of bits that are false outside the codes
packed : (codes r : List ℕ) → (f : ℕ → Bool) × (row_backward codes r ≡ pack 8 f) × ((p : ℕ) → length codes ≤ p → f p ≡ false)
unfolding first_row step_row
packed codes [] = (first_bit codes, refl, cell-outside true 0 codes nowhere)
packed codes (b ∷ r) = (step_bit codes b (row_bit (row_backward codes r)), refl, cell-outside false b codes (row_bit (row_backward codes r)))

row-packed : (codes s : List ℕ) → (f : ℕ → Bool) × (row_of codes s ≡ pack 8 f) × ((p : ℕ) → length codes ≤ p → f p ≡ false)
row-packed codes s =
    let r = backward s in
    let f = packed codes r.0 in
    (f.0, r.2 codes ∙ f.1, f.2)

module _ (s : List ℕ) where
  -- the bits of the values of a column, behind some codes in front
  bits-from : (vs : List (Reading × List ℕ)) (front : List ℕ) → length (front ++ codes_of vs) ≤ positions
      → (q : ℕ) → q < length (codes_of vs) → row_bit (row_of (front ++ codes_of vs) s) (length front + q) ≡ get_or (state_of vs s) q false
  bits-from [] front few q h = absurd (not-suc-le-zero h)
  bits-from (v ∷ vs) front few q h = by (ltb q (length (value_codes v.0 v.1))) refl (bits-from vs (front ++ value_codes v.0 v.1))
    where
      by : (t : Bool) → ltb q (length (value_codes v.0 v.1)) ≡ t
          → (length ((front ++ value_codes v.0 v.1) ++ codes_of vs) ≤ positions → (i : ℕ) → i < length (codes_of vs)
          → row_bit (row_of ((front ++ value_codes v.0 v.1) ++ codes_of vs) s) (length (front ++ value_codes v.0 v.1) + i) ≡ get_or (state_of vs s) i false)
          → row_bit (row_of (front ++ (value_codes v.0 v.1 ++ codes_of vs)) s) (length front + q) ≡ get_or (value_state v.0 v.1 s ++ state_of vs s) q false
      by true e rest =
          let inside : q < length (value_codes v.0 v.1) = ltb-true q (length (value_codes v.0 v.1)) e in
          let count = codes-length v.0 v.1 in
          state-means-forward v.0 v.1 front (codes_of vs) few s q (omega arith)
          ∙ sym (list_at (suc (length (symbols v.0 v.1))) q (prefix_matches (compare_of v.0) (symbols v.0 v.1) s) (omega arith))
          ∙ sym (get_or-append (value_state v.0 v.1 s) (state_of vs s) false q (omega (arith, value-state-length v.0 v.1 s)))
      by false e rest =
          let past : length (value_codes v.0 v.1) ≤ q = ltb-false q (length (value_codes v.0 v.1)) e in
          let regroup = append_assoc front (value_codes v.0 v.1) (codes_of vs) in
          let i = q - length (value_codes v.0 v.1) in
          let size = value-state-length v.0 v.1 s in
          let whole = length-append (value_codes v.0 v.1) (codes_of vs) in
          let here : length front + q ≡ length (front ++ value_codes v.0 v.1) + i = omega (arith, length-append front (value_codes v.0 v.1)) in
          let place : length (value_state v.0 v.1 s) + i ≡ q = omega arith in
          ap (λ (p : ℕ). row_bit (row_of (front ++ (value_codes v.0 v.1 ++ codes_of vs)) s) p) here
          ∙ ap (λ (codes : List ℕ). row_bit (row_of codes s) (length (front ++ value_codes v.0 v.1) + i)) (sym regroup)
          ∙ rest (subst (λ (codes : List ℕ). length codes ≤ positions) (sym regroup) few) i (omega arith)
          ∙ sym (get_or-append-add (value_state v.0 v.1 s) (state_of vs s) i false)
          ∙ ap (λ (p : ℕ). get_or (value_state v.0 v.1 s ++ state_of vs s) p false) place

  module _ (vs : List (Reading × List ℕ)) (few : length (codes_of vs) ≤ positions) where
    -- bit p of the row is place p of the state
    pub row-bit-state : (p : ℕ) → p < positions → row_bit (row_of (codes_of vs) s) p ≡ get_or (state_of vs s) p false
    row-bit-state p h = by (ltb p (length (codes_of vs))) refl
      where
        by : (t : Bool) → ltb p (length (codes_of vs)) ≡ t → row_bit (row_of (codes_of vs) s) p ≡ get_or (state_of vs s) p false
        by true e =
            ap (row_bit (row_of (codes_of vs) s)) (sym (zero-add p)) ∙ bits-from vs [] few p (ltb-true p (length (codes_of vs)) e)
        by false e =
            let past : length (codes_of vs) ≤ p = ltb-false p (length (codes_of vs)) e in
            let f = row-packed (codes_of vs) s in
            ap (λ (row : List ℕ). row_bit row p) f.1 ∙ row-bit 8 p f.0 h ∙ f.2 p past
            ∙ sym (get_or-eq_default (state_of vs s) false (omega (arith, state-length vs s)))

    -- the row is the state, packed
    pub row-is-state : row_of (codes_of vs) s ≡ pack 8 (λ p. get_or (state_of vs s) p false)
    row-is-state =
        let f = row-packed (codes_of vs) s in
        f.1 ∙ row_same 8 f.0 (λ p. get_or (state_of vs s) p false)
        (λ p h. sym (row-bit 8 p f.0 h) ∙ ap (λ (row : List ℕ). row_bit row p) (sym f.1) ∙ row-bit-state p h)

-- strings with equal states have equal rows
pub same-state : (vs : List (Reading × List ℕ)) → length (codes_of vs) ≤ positions → (s t : List ℕ) → state_of vs s ≡ state_of vs t → row_of (codes_of vs) s ≡ row_of (codes_of vs) t
same-state vs few s t e =
    row-is-state s vs few ∙ ap (λ (state : List Bool). pack 8 (λ p. get_or state p false)) e ∙ sym (row-is-state t vs few)

-- strings with equal rows have equal states
pub same_row : (vs : List (Reading × List ℕ)) → length (codes_of vs) ≤ positions → (s t : List ℕ) → row_of (codes_of vs) s ≡ row_of (codes_of vs) t → state_of vs s ≡ state_of vs t
same_row vs few s t e =
    ext_get_or false (state_of vs s) (state_of vs t) (state-length vs s ∙ sym (state-length vs t))
    (λ i h. at i (omega (arith, state-length vs s)))
  where
    at : (i : ℕ) → i < positions → get_or (state_of vs s) i false ≡ get_or (state_of vs t) i false
    at i h = sym (row-bit-state s vs few i h) ∙ ap (λ (row : List ℕ). row_bit row i) e ∙ row-bit-state t vs few i h
