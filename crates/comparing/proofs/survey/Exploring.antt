-- A finished search has met the row of every string, and read off the keys each row has the first string that reaches it. Steps are
-- tried by number, so a row's number, its key and the rank of its string ascend together.
use Rattle.std.proofs.Common.{ℕ, zero, suc, ◌+◌, ◌*◌, ◌/◌, ◌%◌, ◌≤◌, ◌<◌, ◌≡◌, refl, sym, ◌∙◌, ap, subst, Bool, true, false, List, [], ◌∷◌, ◌⊎◌, inl, inr, div-add-mod', arith, eqb, length, ne_eqb}
use borrow.Author.Tests.{eqb-false}
use Rattle.stored.specs.Choice.{pick}
use Rattle.stored.specs.Values.{in_range}
use Rattle.matching.specs.Machinery.Rows.{step_row, row_of, forward, row_backward}
use Rattle.matching.proofs.States.{backward, row-empty, row_step}
use Rattle.judging.specs.Requests.{text}
use Rattle.states.specs.Machinery.Rows.{row_at, key_at, IsByte}
use Rattle.states.specs.Machinery.Search.{Partial, Explored, chain, string_of}
use Rattle.comparing.specs.Order.{Before}
use Rattle.comparing.proofs.Ranks.{Ranged, ranged, in-range, ranged-forward, ranged-backward, length-forward, rank, before-rank, rank-before}

-- the row of a string that is given last byte first
pub row-forward : (codes r : List ℕ) → row_of codes (forward r) ≡ row_backward codes r
row-forward codes [] = row-empty codes
row-forward codes (b ∷ r) = row_step codes (forward r) b ∙ ap (step_row codes b) (row-forward codes r)

-- which of two rows is met first, or whether they are one
compare : (i j : ℕ) → (i < j) ⊎ ((i ≡ j) ⊎ (j < i))
compare zero zero = inr (inl refl)
compare zero (suc j) = inl (omega arith)
compare (suc i) zero = inr (inr (omega arith))
compare (suc i) (suc j) = by (compare i j)
  where
    by : (i < j) ⊎ ((i ≡ j) ⊎ (j < i)) → (suc i < suc j) ⊎ ((suc i ≡ suc j) ⊎ (suc j < suc i))
    by (inl h) = inl (omega arith)
    by (inr (inl h)) = inr (inl (omega arith))
    by (inr (inr h)) = inr (inr (omega arith))

-- what follows from all numbers below holds of every number
strong : (P : ℕ → Type 0) → ((i : ℕ) → ((p : ℕ) → p < i → P p) → P i) → (i : ℕ) → P i
strong P step i = go (suc i) i (omega arith)
  where
    go : (f i : ℕ) → i < f → P i
    go zero i h = absurd (omega arith)
    go (suc f) i h = step i (λ p less. go f p (omega arith))

-- what the string read off the keys, last byte first, is
record Chained (codes words : List ℕ) (i : ℕ) : Type 0 where
  row : row_backward codes (chain i words i) ≡ row_at words i
  bytes : Ranged (chain i words i)
  short : length (chain i words i) ≤ i

-- its rank
abbrev rank_at : List ℕ → ℕ → ℕ
rank_at words i = rank (chain i words i)

module _ (codes words : List ℕ) (n t : ℕ) (e : Partial codes words n t) where
  -- rows that are equal are one row
  pub row-once : (i j : ℕ) → i < n → j < n → row_at words i ≡ row_at words j → i ≡ j
  row-once i j h k same = by (compare i j)
    where
      by : (i < j) ⊎ ((i ≡ j) ⊎ (j < i)) → i ≡ j
      by (inl less) = absurd (e.distinct i j less k same)
      by (inr (inl one)) = one
      by (inr (inr less)) = absurd (e.distinct j i less h (sym same))

  -- the string of a row is its parent's and one byte more
  chain-step : (fuel i : ℕ) → 0 < i → chain (suc fuel) words i ≡ key_at words i % 128 ∷ chain fuel words (key_at words i / 128)
  chain-step fuel i h =
      ap (λ (z : Bool). pick z [] (key_at words i % 128 ∷ chain fuel words (key_at words i / 128))) (ne_eqb i 0 (λ w. omega arith))

  chain-root : (fuel : ℕ) → chain fuel words 0 ≡ []
  chain-root zero = refl
  chain-root (suc fuel) = refl

  -- more fuel than the row's number changes nothing
  chain-fuel : (f g i : ℕ) → i ≤ f → i ≤ g → i < n → chain f words i ≡ chain g words i
  chain-fuel zero g i h k low =
      let none : i ≡ 0 = omega arith in
      sym (ap (chain g words) none ∙ chain-root g)
  chain-fuel (suc f) zero i h k low =
      let none : i ≡ 0 = omega arith in
      ap (chain (suc f) words) none
  chain-fuel (suc f) (suc g) i h k low = by (eqb i 0) refl (chain-fuel f g (key_at words i / 128))
    where
      by : (z : Bool) → eqb i 0 ≡ z
          → (key_at words i / 128 ≤ f → key_at words i / 128 ≤ g → key_at words i / 128 < n → chain f words (key_at words i / 128) ≡ chain g words (key_at words i / 128))
          → pick z [] (key_at words i % 128 ∷ chain f words (key_at words i / 128)) ≡ pick z [] (key_at words i % 128 ∷ chain g words (key_at words i / 128))
      by true q rest = refl
      by false q rest =
          let there : 0 < i = positive i (eqb-false i 0 q) in
          let older = e.parent i there low in
          ap (λ (r : List ℕ). key_at words i % 128 ∷ r) (rest (omega arith) (omega arith) (omega arith))
        where
          positive : (i : ℕ) → (i ≡ 0 → ⊥) → 0 < i
          positive zero w = absurd (w refl)
          positive (suc i) w = omega arith

  chain-parent : (i : ℕ) → 0 < i → i < n → chain i words i ≡ key_at words i % 128 ∷ chain (key_at words i / 128) words (key_at words i / 128)
  chain-parent zero h low = absurd (omega arith)
  chain-parent (suc i) h low =
      let older = e.parent (suc i) h low in
      chain-step i (suc i) h
      ∙ ap (λ (r : List ℕ). key_at words (suc i) % 128 ∷ r)
      (chain-fuel i (key_at words (suc i) / 128) (key_at words (suc i) / 128) (omega arith) (omega arith) (omega arith))

  chained : (i : ℕ) → i < n → Chained codes words i
  chained i = strong (λ i. i < n → Chained codes words i) from i
    where
      from : (i : ℕ) → ((p : ℕ) → p < i → p < n → Chained codes words p) → i < n → Chained codes words i
      from zero before low = record { row = sym e.first; bytes = tt; short = omega arith }
      from (suc i) before low =
          let there : 0 < suc i = omega arith in
          let older = e.parent (suc i) there low in
          let c = before (key_at words (suc i) / 128) older (omega arith) in
          let made = chain-parent (suc i) there low in
          record {
            row =
                ap (row_backward codes) made
                ∙ ap (step_row codes (key_at words (suc i) % 128)) c.row
                ∙ sym (e.found (suc i) there low);
            bytes = rw made (e.byte (suc i) there low, c.bytes);
            short = omega (arith, ap length made, c.short);
          }

  -- Read off the keys, each row's string reaches it, is a string, and has at most as many bytes as the row's number.
  pub string-reaches : (i : ℕ) → i < n
      → (row_of codes (string_of words i) ≡ row_at words i) × (in_range (string_of words i) ≡ true) × (length (string_of words i) ≤ i)
  string-reaches i low =
      let c = chained i low in (
        row-forward codes (chain i words i) ∙ c.row,
        in-range (string_of words i) (ranged-forward (chain i words i) c.bytes),
        omega (arith, length-forward (chain i words i), c.short),
      )

  rank-parent : (i : ℕ) → 0 < i → i < n → rank_at words i ≡ rank_at words (key_at words i / 128) * 128 + key_at words i % 128
  rank-parent i h low = ap rank (chain-parent i h low)

  -- a lower key, by a parent's rank that is no higher
  rank-key : (i p c : ℕ) → 0 < i → i < n → c < 128 → key_at words i < p * 128 + c → ((q : ℕ) → q < p → rank_at words q < rank_at words p)
      → rank_at words i < rank_at words p * 128 + c
  rank-key i p c h low byte less up =
      by (compare (key_at words i / 128) p)
    where
      made : rank_at words i ≡ rank_at words (key_at words i / 128) * 128 + key_at words i % 128
      made = rank-parent i h low

      by : (key_at words i / 128 < p) ⊎ ((key_at words i / 128 ≡ p) ⊎ (p < key_at words i / 128)) → rank_at words i < rank_at words p * 128 + c
      by (inl q) = omega (arith, made, up (key_at words i / 128) q)
      by (inr (inl q)) = omega (arith, made, ap (rank_at words) q)
      by (inr (inr q)) = absurd (omega arith)

  -- ranks ascend with the rows
  rank-ascends : (j i : ℕ) → i < j → j < n → rank_at words i < rank_at words j
  rank-ascends j = strong (λ j. (i : ℕ) → i < j → j < n → rank_at words i < rank_at words j) from j
    where
      from : (j : ℕ) → ((p : ℕ) → p < j → (i : ℕ) → i < p → p < n → rank_at words i < rank_at words p)
          → (i : ℕ) → i < j → j < n → rank_at words i < rank_at words j
      from j before zero h low =
          let there : 0 < j = omega arith in
          omega (arith, rank-parent j there low, (e.byte j there low).0)
      from j before (suc i) h low =
          let there : 0 < j = omega arith in
          let older = e.parent j there low in
          let split = div-add-mod' (key_at words j) 128 in
          subst (λ (m : ℕ). rank_at words (suc i) < m) (sym (rank-parent j there low))
          (rank-key (suc i) (key_at words j / 128) (key_at words j % 128) (omega arith) (omega arith) (omega arith)
          (omega (arith, e.ascending (suc i) j (omega arith) h low))
          (λ q less. before (key_at words j / 128) older q less (omega arith)))

  -- The strings of the rows ascend.
  pub strings-ascend : (i j : ℕ) → i < j → j < n → Before (text (string_of words i)) (text (string_of words j))
  strings-ascend i j h low =
      rank-before (chain i words i) (chain j words j) (chained i (omega arith)).bytes (chained j low).bytes (rank-ascends j i h low)

module _ (codes words : List ℕ) (n : ℕ) (e : Explored codes words n) where
  -- what a step leads to, of a string whose front has a row
  next_row_lem : (i b : ℕ) (r : List ℕ) → i < n → IsByte b → row_at words i ≡ row_backward codes r
      → (j : ℕ) × (j < n) × (row_at words j ≡ row_backward codes (b ∷ r)) × ((j ≡ 0) ⊎ (key_at words j ≤ i * 128 + b))
  next_row_lem i b r low byte same =
      let small = byte.1 in
      let s = e.tried i b low byte (omega arith) in
      (s.0, s.1, s.2 ∙ ap (step_row codes b) same, s.3)

  reached-backward : (r : List ℕ) → Ranged r → (i : ℕ) × (i < n) × (row_at words i ≡ row_backward codes r)
  reached-backward [] h = (0, e.some, e.first)
  reached-backward (b ∷ r) h =
      let i = reached-backward r h.1 in
      let j = next_row_lem i.0 b r i.1 h.0 i.2 in
      (j.0, j.1, j.2)

  ranged-of : (s : List ℕ) → in_range s ≡ true → Ranged (backward s).0
  ranged-of s h = ranged-backward (backward s).0 (rw (backward s).1 (ranged s h))

  -- Every string's row is among the rows found.
  pub reached : (s : List ℕ) → in_range s ≡ true → (i : ℕ) × (i < n) × (row_at words i ≡ row_of codes s)
  reached s h =
      let i = reached-backward (backward s).0 (ranged-of s h) in
      (i.0, i.1, i.2 ∙ sym ((backward s).2 codes))

  -- the row that a step leads to was found by no later step, so by a string of no higher rank
  rank_step : (c k m i : ℕ) → IsByte c → k < n → i < n → (i ≡ 0) ⊎ (key_at words i ≤ k * 128 + c) → rank_at words k ≤ m
      → rank_at words i ≤ m * 128 + c
  rank_step c k m zero byte there low key most = omega arith
  rank_step c k m (suc i) byte there low (inl none) most = absurd (omega arith)
  rank_step c k m (suc i) byte there low (inr key) most =
      let small = byte.1 in
      omega (
        arith,
        rank-key codes words n (n * 128) e (suc i) k (c + 1) (omega arith) low (omega arith) (omega arith)
            (λ q less. rank-ascends codes words n (n * 128) e k q less there),
      )

  rank-first : (r : List ℕ) → Ranged r → (i : ℕ) → i < n → row_backward codes r ≡ row_at words i → rank_at words i ≤ rank r
  rank-first [] h i low same =
      let root = row-once codes words n (n * 128) e i 0 low e.some (sym same ∙ sym e.first) in
      omega (arith, ap (rank_at words) root)
  rank-first (c ∷ r) h i low same =
      let front = reached-backward r h.1 in
      let next = next_row_lem front.0 c r front.1 h.0 front.2 in
      let one = row-once codes words n (n * 128) e next.0 i next.1 low (next.2 ∙ same) in
      rank_step c front.0 (rank r) i h.0 front.1 low
      (subst (λ (j : ℕ). (j ≡ 0) ⊎ (key_at words j ≤ front.0 * 128 + c)) one next.3)
      (rank-first r h.1 front.0 front.1 (sym front.2))

  -- No string that reaches a row is before the string of that row or of an earlier one.
  pub string-behind : (i k : ℕ) → i < n → k ≤ i → (u : List ℕ) → in_range u ≡ true → row_of codes u ≡ row_at words i
      → Before (text u) (text (string_of words k)) → ⊥
  string-behind i k low up u h same before = by (compare k i)
    where
      bytes : Ranged (backward u).0
      bytes = ranged-of u h

      least : rank_at words i ≤ rank (backward u).0
      least = rank-first (backward u).0 bytes i low (sym ((backward u).2 codes) ∙ same)

      less : rank (backward u).0 < rank_at words k
      less =
          before-rank (backward u).0 (chain k words k) bytes (chained codes words n (n * 128) e k (omega arith)).bytes
          (subst (λ (s : List ℕ). Before (text s) (text (string_of words k))) (sym (backward u).1) before)

      by : (k < i) ⊎ ((k ≡ i) ⊎ (i < k)) → ⊥
      by (inl q) = omega (arith, least, less, rank-ascends codes words n (n * 128) e i k q low)
      by (inr (inl q)) = omega (arith, least, less, ap (rank_at words) q)
      by (inr (inr q)) = omega arith

  -- No string that reaches a row is before the row's string.
  pub string-first : (i : ℕ) → i < n → (u : List ℕ) → in_range u ≡ true → row_of codes u ≡ row_at words i
      → Before (text u) (text (string_of words i)) → ⊥
  string-first i low = string-behind i i low (omega arith)
