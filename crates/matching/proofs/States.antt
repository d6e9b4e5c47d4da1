-- What a state means: for a value whose codes stand anywhere in a column, the bits at its positions say which of its prefixes match the
-- whole string. The step of a code is the step of its symbol, so this is the rule of prefixes, by induction on the string.
use Rattle.std.proofs.Common.{◌≡◌, ℕ, zero, suc, ◌+◌, ◌*◌, ◌<◌, ◌≤◌, Bool, true, false, ◌&&◌, ◌||◌, eqb, List, [], ◌∷◌, ◌++◌, map, length, get_or, sym, refl, ap, ◌∙◌, subst, ap₂, append_assoc, append-nil, le_of_suc-le-suc, not-suc-le-zero, add-zero, add-suc, zero-add, arith, length-append, get_or-append-add, eq-eqb, ne_eqb, eqb-true}
use Rattle.std.proofs.Math.Bool.{or-false}
use Rattle.std.proofs.Math.ListN.{length-map, get_or-append}
use Rattle.std.proofs.Math.Seq.{take-length, get_or-append_seam}
use Rattle.std.proofs.lemmas.Bool.{eqb-false}
use Rattle.matching.specs.declared.reading.Reading.{Reading}
use Rattle.matching.specs.Symbols.{Symbol, star, one, byte, symbols, fold_byte, ignores_case, same_byte, compare_of, pick}
use Rattle.matching.specs.Matches.{matches, value_matches, prefix_matches}
use Rattle.matching.specs.Machinery.Steps.{symbol_first, symbol_step}
use Rattle.matching.specs.Machinery.Codes.{byte_code, symbol_code, value_codes, codes_of, takes_byte}
use Rattle.matching.specs.Machinery.Rows.{positions, cell_step, cell_bit, first_bit, step_bit, row_bit, first_row, step_row, row_after, row_of, forward, row_backward}
use Rattle.matching.proofs.Prefixes.{prefix-first-start, prefix-step-start, prefix-first, prefix-step}
use Rattle.matching.proofs.Rows.{row-bit}

-- codes

same_test : (a b c d : ℕ) → (a ≡ b → c ≡ d) → (c ≡ d → a ≡ b) → eqb a b ≡ eqb c d
same_test a b c d there back = by (eqb c d) refl
  where
    by : (t : Bool) → eqb c d ≡ t → eqb a b ≡ eqb c d
    by true e = eq-eqb a b (back (eqb-true c d e)) ∙ sym e
    by false e = ne_eqb a b (λ w. eqb-false c d e (there w)) ∙ sym e

pub takes : (fold : Bool) (c b : ℕ) → takes_byte (byte_code fold c) b ≡ same_byte fold c b
takes false c b =
    ap₂ ◌||◌ (same_test (c * 2 + 4) (b * 2 + 4) c b (λ w. omega arith) (λ w. omega arith)) (ne_eqb (c * 2 + 4) (fold_byte b * 2 + 5) (λ w. omega arith))
    ∙ or-false (eqb c b)
takes true c b =
    ap₂ ◌||◌ (ne_eqb (fold_byte c * 2 + 5) (b * 2 + 4) (λ w. omega arith))
    (same_test (fold_byte c * 2 + 5) (fold_byte b * 2 + 5) (fold_byte c) (fold_byte b) (λ w. omega arith) (λ w. omega arith))

pub large : (fold : Bool) (c : ℕ) → 4 ≤ byte_code fold c
large true c = omega arith
large false c = omega arith

cell-byte : (begins : Bool) (b code : ℕ) (new before here : Bool) → 4 ≤ code → cell_step begins b code new before here ≡ (before && takes_byte code b)
cell-byte begins b code new before here h =
    ap (λ (t : Bool). pick t begins (pick (eqb code 2) (new || here) (pick (eqb code 3) before (before && takes_byte code b)))) (ne_eqb code 1 (λ w. omega arith))
    ∙ ap (λ (t : Bool). pick t (new || here) (pick (eqb code 3) before (before && takes_byte code b))) (ne_eqb code 2 (λ w. omega arith))
    ∙ ap (λ (t : Bool). pick t before (before && takes_byte code b)) (ne_eqb code 3 (λ w. omega arith))

-- the step of a code is the step of its symbol
code-first : (fold : Bool) (b : ℕ) (x : Symbol) (new : Bool) → cell_step true b (symbol_code fold x) new false false ≡ symbol_first x new
code-first fold b star new = or-false new
code-first fold b one new = refl
code-first fold b (byte c) new = cell-byte true b (byte_code fold c) new false false (large fold c)

code_step : (fold : Bool) (b : ℕ) (x : Symbol) (new before here : Bool) → cell_step false b (symbol_code fold x) new before here ≡ symbol_step (same_byte fold) b x new before here
code_step fold b star new before here = refl
code_step fold b one new before here = refl
code_step fold b (byte c) new before here =
    cell-byte false b (byte_code fold c) new before here (large fold c) ∙ ap (λ (t : Bool). before && t) (takes fold c b)

-- cells

cell-start : (begins : Bool) (b : ℕ) (codes : List ℕ) (old : ℕ → Bool) (q : ℕ) → get_or codes q 0 ≡ 1 → cell_bit begins b codes old q ≡ begins
cell-start begins b codes old zero e = ap (λ (code : ℕ). cell_step begins b code false false (old 0)) e
cell-start begins b codes old (suc q) e = ap (λ (code : ℕ). cell_step begins b code (cell_bit begins b codes old q) (old q) (old (suc q))) e

code_at : (fold : Bool) (p : List Symbol) (j : ℕ) → j < length p → get_or (map (symbol_code fold) p) j 0 ≡ symbol_code fold (get_or p j star)
code_at fold [] j h = absurd (not-suc-le-zero h)
code_at fold (x ∷ p) zero h = refl
code_at fold (x ∷ p) (suc j) h = code_at fold p j (le_of_suc-le-suc h)

-- the codes of a column, with those of one value in their midst
abbrev column : Bool → List ℕ → List Symbol → List ℕ → List ℕ
column fold front p back = front ++ ((1 ∷ map (symbol_code fold) p) ++ back)

module _ (fold : Bool) (front : List ℕ) (p : List Symbol) (back : List ℕ) where
  start-code : get_or (column fold front p back) (length front + 0) 0 ≡ 1
  start-code = ap (λ (n : ℕ). get_or (column fold front p back) n 0) (add-zero (length front)) ∙ get_or-append_seam front 1 (map (symbol_code fold) p ++ back) 0

  behind-code : (j : ℕ) → j < length p → get_or (column fold front p back) (suc (length front + j)) 0 ≡ symbol_code fold (get_or p j star)
  behind-code j h =
      ap (λ (n : ℕ). get_or (column fold front p back) n 0) (sym (add-suc (length front) j))
      ∙ get_or-append-add front (1 ∷ (map (symbol_code fold) p ++ back)) (suc j) 0
      ∙ get_or-append (map (symbol_code fold) p) back 0 j (subst (λ (n : ℕ). j < n) (sym (length-map p (symbol_code fold))) h)
      ∙ code_at fold p j h

  first-means : (j : ℕ) → j ≤ length p → first_bit (column fold front p back) (length front + j) ≡ prefix_matches (same_byte fold) p [] j
  first-means zero h = cell-start true 0 (column fold front p back) (λ q. false) (length front + 0) start-code ∙ sym (prefix-first-start (same_byte fold) p)
  first-means (suc j) h =
      ap (first_bit (column fold front p back)) (add-suc (length front) j)
      ∙ ap₂ (λ (code : ℕ) (new : Bool). cell_step true 0 code new false false) (behind-code j h) (first-means j (omega arith))
      ∙ code-first fold 0 (get_or p j star) (prefix_matches (same_byte fold) p [] j)
      ∙ sym (prefix-first (same_byte fold) p j h)

  module _ (s : List ℕ) (b : ℕ) (old : ℕ → Bool) (holds : (j : ℕ) → j ≤ length p → old (length front + j) ≡ prefix_matches (same_byte fold) p s j) where
    step-means : (j : ℕ) → j ≤ length p → step_bit (column fold front p back) b old (length front + j) ≡ prefix_matches (same_byte fold) p (s ++ (b ∷ [])) j
    step-means zero h = cell-start false b (column fold front p back) old (length front + 0) start-code ∙ sym (prefix-step-start (same_byte fold) p s b)
    step-means (suc j) h =
        ap (step_bit (column fold front p back) b old) (add-suc (length front) j)
        ∙ ap₂ (λ (code : ℕ) (new : Bool). cell_step false b code new (old (length front + j)) (old (suc (length front + j)))) (behind-code j h) (step-means j (omega arith))
        ∙ ap₂ (λ (before here : Bool). cell_step false b (symbol_code fold (get_or p j star)) (prefix_matches (same_byte fold) p (s ++ (b ∷ [])) j) before here)
        (holds j (omega arith))
        (ap old (sym (add-suc (length front) j)) ∙ holds (suc j) h)
        ∙ code_step fold b (get_or p j star) (prefix_matches (same_byte fold) p (s ++ (b ∷ [])) j) (prefix_matches (same_byte fold) p s j) (prefix_matches (same_byte fold) p s (suc j))
        ∙ sym (prefix-step (same_byte fold) p s b j h)

  state-bits : length front + length p < positions → (r : List ℕ) (j : ℕ) → j ≤ length p
      → row_bit (row_backward (column fold front p back) r) (length front + j) ≡ prefix_matches (same_byte fold) p (forward r) j
  unfolding first_row step_row
  state-bits few [] j h = row-bit 8 (length front + j) (first_bit (column fold front p back)) (omega arith) ∙ first-means j h
  state-bits few (b ∷ r) j h =
      row-bit 8 (length front + j) (step_bit (column fold front p back) b (row_bit (row_backward (column fold front p back) r))) (omega arith)
      ∙ step-means (forward r) b (row_bit (row_backward (column fold front p back) r)) (state-bits few r) j h

-- strings, first byte first

abbrev turned : List ℕ → List ℕ → List ℕ
turned [] r = r
turned (b ∷ s) r = turned s (b ∷ r)

turned-row : (codes s r : List ℕ) → row_after codes (row_backward codes r) s ≡ row_backward codes (turned s r)
turned-row codes [] r = refl
turned-row codes (b ∷ s) r = turned-row codes s (b ∷ r)

turned-forward : (s r : List ℕ) → forward (turned s r) ≡ forward r ++ s
turned-forward [] r = sym (append-nil (forward r))
turned-forward (b ∷ s) r = turned-forward s (b ∷ r) ∙ append_assoc (forward r) (b ∷ []) s

-- every string is one that is given last byte first, and has its row
pub backward : (s : List ℕ) → (r : List ℕ) × (forward r ≡ s) × ((codes : List ℕ) → row_of codes s ≡ row_backward codes r)
unfolding row_of
backward s = (turned s [], turned-forward s [], λ codes. turned-row codes s [])

-- the row of the empty string
pub row-empty : (codes : List ℕ) → row_of codes [] ≡ first_row codes
unfolding row_of
row-empty codes = refl

-- the row of a string depends on the codes, its last byte and the row of the string without it, and on nothing else
pub row_step : (codes s : List ℕ) (b : ℕ) → row_of codes (s ++ (b ∷ [])) ≡ step_row codes b (row_of codes s)
unfolding row_of
row_step codes s b = on (first_row codes) s
  where
    on : (row s : List ℕ) → row_after codes row (s ++ (b ∷ [])) ≡ step_row codes b (row_after codes row s)
    on row [] = refl
    on row (a ∷ s) = on (step_row codes a row) s

-- the number of symbols of a value
pub symbols-length : (reading : Reading) (value : List ℕ) → length (symbols reading value) ≡ length value
symbols-length reading value = length-map value _

-- the codes of two lists of values
pub codes-append : (vs ws : List (Reading × List ℕ)) → codes_of (vs ++ ws) ≡ codes_of vs ++ codes_of ws
codes-append [] ws = refl
codes-append (v ∷ vs) ws =
    ap (λ (l : List ℕ). value_codes v.0 v.1 ++ l) (codes-append vs ws)
    ∙ sym (append_assoc (value_codes v.0 v.1) (codes_of vs) (codes_of ws))

-- The state of a string, given last byte first: bit `length front + j` says whether the first j symbols of the value whose codes stand
-- there match the whole string.
pub state-means : (reading : Reading) (value front back : List ℕ) → length (front ++ (value_codes reading value ++ back)) ≤ positions
    → (r : List ℕ) (j : ℕ) → j ≤ length (symbols reading value)
    → row_bit (row_backward (front ++ (value_codes reading value ++ back)) r) (length front + j)
    ≡ prefix_matches (compare_of reading) (symbols reading value) (forward r) j
state-means reading value front back few r j h =
    state-bits (ignores_case reading) front (symbols reading value) back
    (omega (
      arith,
      length-append front (value_codes reading value ++ back),
      length-append (value_codes reading value) back,
      length-map (symbols reading value) (symbol_code (ignores_case reading)),
      few,
    )) r j h

-- the same of a string as it is
pub state-means-forward : (reading : Reading) (value front back : List ℕ) → length (front ++ (value_codes reading value ++ back)) ≤ positions
    → (s : List ℕ) (j : ℕ) → j ≤ length (symbols reading value)
    → row_bit (row_of (front ++ (value_codes reading value ++ back)) s) (length front + j)
    ≡ prefix_matches (compare_of reading) (symbols reading value) s j
state-means-forward reading value front back few s j h =
    ap (λ (row : List ℕ). row_bit row (length front + j)) ((backward s).2 (front ++ (value_codes reading value ++ back)))
    ∙ state-means reading value front back few (backward s).0 j h
    ∙ ap (λ (string : List ℕ). prefix_matches (compare_of reading) (symbols reading value) string j) (backward s).1

-- the last position of a value is reached by exactly the strings that it matches
pub last-position-decides : (reading : Reading) (value front back : List ℕ) → length (front ++ (value_codes reading value ++ back)) ≤ positions
    → (s : List ℕ)
    → row_bit (row_of (front ++ (value_codes reading value ++ back)) s) (length front + length (symbols reading value)) ≡ value_matches reading value s
unfolding value_matches prefix_matches
last-position-decides reading value front back few s =
    state-means-forward reading value front back few s (length (symbols reading value)) (omega arith)
    ∙ ap (λ (p : List Symbol). matches (compare_of reading) p s) (take-length (symbols reading value))

-- symbols that stand alone: their last position is reached by exactly the strings that they match
pub symbols-decide : (fold : Bool) (p : List Symbol) → length p < positions
    → (s : List ℕ) → row_bit (row_of (1 ∷ map (symbol_code fold) p) s) (length (map (symbol_code fold) p)) ≡ matches (same_byte fold) p s
unfolding prefix_matches
symbols-decide fold p few s =
    ap₂ (λ (codes : List ℕ) (n : ℕ). row_bit (row_of codes s) n) {x = 1 ∷ map (symbol_code fold) p} {y = column fold [] p []}
    {u = length (map (symbol_code fold) p)} {v = 0 + length p}
    (sym (append-nil (1 ∷ map (symbol_code fold) p)))
    (length-map p (symbol_code fold) ∙ sym (zero-add (length p)))
    ∙ ap (λ (row : List ℕ). row_bit row (0 + length p)) ((backward s).2 (column fold [] p []))
    ∙ state-bits fold [] p [] (omega arith) (backward s).0 (length p) (omega arith)
    ∙ ap₂ (λ (q : List Symbol) (string : List ℕ). matches (same_byte fold) q string) (take-length p) (backward s).1
