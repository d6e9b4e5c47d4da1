-- A search has one outcome. Row by row, two searches by the same codes have found the same row by the same step, since a step that one of
-- them has found a row by was tried by the other too, or comes later than those it was found by; and neither can stop before the other.
use Rattle.std.proofs.Common.{ℕ, zero, suc, ◌+◌, ◌-◌, ◌*◌, ◌/◌, ◌%◌, ◌≤◌, ◌<◌, ◌≡◌, refl, sym, ◌∙◌, ap, subst, List, ◌⊎◌, inl, inr, arith, length, get_or, get_or-drop, ext_get_or}
use Rattle.std.specs.Prelude.{Option, None, Some}
use Rattle.matching.specs.Machinery.Rows.{step_row}
use Rattle.states.specs.Machinery.Rows.{most_states, keys_at, codes_at, row_at, key_at, IsByte}
use Rattle.states.specs.Machinery.Search.{step_from, rows_laid, Partial, Explored, Exceeded, FoundAll, Explores}
use Rattle.states.proofs.Below.{below-or-from, below_next}
use Rattle.states.proofs.RowsInWords.{row_word}

-- row j and its key, where it has one, are the same
record Same (a b : List ℕ) (j : ℕ) : Type 0 where
  row : row_at a j ≡ row_at b j
  key : 0 < j → key_at a j ≡ key_at b j

module _ (codes a b : List ℕ) (n m t u : ℕ) (p : Partial codes a n t) (q : Partial codes b m u) (j : ℕ) (some : 0 < j) (low : j < n) (high : j < m)
    (rows : (i : ℕ) → i < j → row_at a i ≡ row_at b i) where
  -- the second search has found its next row by no later step than the first
  no-later : key_at b j ≤ key_at a j
  no-later = by (below-or-from (key_at a j) u)
    where
      parent : key_at a j / 128 < j
      parent = p.parent j some low

      -- it is the row that this step leads to, or stands before that one
      met : (k : ℕ) → k < m → row_at b k ≡ step_from codes b (key_at a j / 128) (key_at a j % 128)
          → (k ≡ 0) ⊎ (key_at b k ≤ key_at a j / 128 * 128 + key_at a j % 128) → (k < j) ⊎ (j ≤ k) → key_at b j ≤ key_at a j
      met k there leads key (inl less) =
          absurd
          (p.distinct k j less low
          (rows k less ∙ leads ∙ ap (step_row codes (key_at a j % 128)) (sym (rows (key_at a j / 128) parent)) ∙ sym (p.found j some low)))
      met k there leads (inl root) (inr from) = absurd (omega arith)
      met k there leads (inr early) (inr from) = order (below-or-from j k)
        where
          order : (j < k) ⊎ (k ≤ j) → key_at b j ≤ key_at a j
          order (inl less) = omega (arith, q.ascending j k some less there)
          order (inr one) =
              let same : k ≡ j = omega arith in
              omega (arith, ap (key_at b) same)

      by : (key_at a j < u) ⊎ (u ≤ key_at a j) → key_at b j ≤ key_at a j
      by (inl less) =
          let s = q.tried (key_at a j / 128) (key_at a j % 128) (omega (arith, parent)) (p.byte j some low) (omega arith) in
          met s.0 s.1 s.2 s.3 (below-or-from s.0 j)
      by (inr late) = omega (arith, q.early j some high)

module _ (codes a b : List ℕ) (n m t u : ℕ) (p : Partial codes a n t) (q : Partial codes b m u) where
  abbrev Agree : ℕ → Type 0
  Agree j = j < n → j < m → Same a b j

  agree-next : (j : ℕ) → ((i : ℕ) → i < j → Agree i) → Agree j
  agree-next zero before low high = record { row = p.first ∙ sym q.first; key = λ h. absurd (omega arith) }
  agree-next (suc j) before low high =
      record {
        row =
            p.found (suc j) some low
            ∙ ap (step_row codes (key_at a (suc j) % 128)) (rows (key_at a (suc j) / 128) (p.parent (suc j) some low))
            ∙ ap (λ (k : ℕ). step_from codes b (k / 128) (k % 128)) key
            ∙ sym (q.found (suc j) some high);
        key = λ h. key;
      }
    where
      some : 0 < suc j
      some = omega arith

      rows : (i : ℕ) → i < suc j → row_at a i ≡ row_at b i
      rows i h = (before i h (omega arith) (omega arith)).row

      key : key_at a (suc j) ≡ key_at b (suc j)
      key =
          omega (
            arith,
            no-later codes a b n m t u p q (suc j) some low high rows,
            no-later codes b a m n u t q p (suc j) some high low (λ i h. sym (rows i h)),
          )

  agree-below : (j i : ℕ) → i < j → Agree i
  agree-below zero i h = absurd (omega arith)
  agree-below (suc j) i h = below_next Agree j (agree-below j) (agree-next j (agree-below j)) i h

  -- rows that both have found are the same
  agree : (j : ℕ) → Agree j
  agree j = agree-below (suc j) j (omega arith)

module _ (codes a b : List ℕ) (n m u : ℕ) (e : Explored codes a n) (q : Partial codes b m u) where
  -- a search that has tried all steps has found where each one leads
  leads-there : n ≤ m → (i x : ℕ) → i < n → IsByte x → (k : ℕ) × (k < n) × (row_at b k ≡ step_from codes b i x)
  leads-there all i x low byte =
      let s = e.tried i x low byte (omega (arith, byte.1)) in
      let there = s.1 in (
        s.0,
        there,
        sym (agree codes a b n m (n * 128) u e q s.0 there (omega arith)).row
            ∙ s.2
            ∙ ap (step_row codes x) (agree codes a b n m (n * 128) u e q i low (omega arith)).row,
      )

  -- and no search finds more
  no_more : n < m → ⊥
  no_more less =
      let some = e.some in
      let k = leads-there (omega arith) (key_at b n / 128) (key_at b n % 128) (q.parent n some less) (q.byte n some less) in
      q.distinct k.0 n k.1 less (k.2 ∙ sym (q.found n some less))

-- a search that has found all rows, and one that has found too many
not-exceeded : (codes a b : List ℕ) (n : ℕ) → n ≤ most_states → Explored codes a n → Exceeded codes b → ⊥
not-exceeded codes a b n few e x = by (below-or-from n most_states)
  where
    by : (n < most_states) ⊎ (most_states ≤ n) → ⊥
    by (inl less) = no_more codes a b n most_states x.rest e x.full less
    by (inr from) =
        let low = x.low in
        let k = leads-there codes a b n most_states x.rest e x.full (omega arith) x.row x.by (omega arith) x.byte in
        x.new k.0 (omega (arith, k.1)) k.2

-- the answers are the same
same_answer : (codes a b : List ℕ) (r s : Option ℕ) → FoundAll codes a r → FoundAll codes b s → r ≡ s
same_answer codes a b (Some r) (Some s) e f = by (below-or-from r s) (below-or-from s r)
  where
    by : (r < s) ⊎ (s ≤ r) → (s < r) ⊎ (r ≤ s) → Some r ≡ Some s
    by (inl less) other = absurd (no_more codes a b r s (s * 128) e f less)
    by (inr from) (inl less) = absurd (no_more codes b a s r (r * 128) f e less)
    by (inr from) (inr to) = let one : r ≡ s = omega arith in ap Some one
same_answer codes a b (Some r) None e x = absurd (not-exceeded codes a b r e.few e x)
same_answer codes a b None (Some s) x e = absurd (not-exceeded codes b a s e.few e x)
same_answer codes a b None None x y = refl

-- the rows that are laid down, by the answer
found_rows : (codes words : List ℕ) (r : Option ℕ) → FoundAll codes words r → (t : ℕ) × Partial codes words (rows_laid r) t
found_rows codes words (Some n) e = (n * 128, e)
found_rows codes words None x = (x.rest, x.full)

-- and so are the words: rows and keys that were found, and those that stay
module _ (codes before a b : List ℕ) (r : Option ℕ) (e : Explores codes before a r) (f : Explores codes before b r) where
  same : (j : ℕ) → j < rows_laid r → Same a b j
  same j low =
      let p = found_rows codes a r e.answer in
      let q = found_rows codes b r f.answer in
      agree codes a b (rows_laid r) (rows_laid r) p.0 q.0 p.1 q.1 j low low

  row_words : (k : ℕ) → k < keys_at → get_or a k 0 ≡ get_or b k 0
  row_words k low = by (below-or-from k (rows_laid r * 8))
    where
      by : (k < rows_laid r * 8) ⊎ (rows_laid r * 8 ≤ k) → get_or a k 0 ≡ get_or b k 0
      by (inl less) =
          let place : k ≡ k / 8 * 8 + k % 8 = omega arith in
          ap (λ (i : ℕ). get_or a i 0) place
          ∙ sym (row_word a (k / 8) (k % 8) (omega arith))
          ∙ ap (λ (row : List ℕ). get_or row (k % 8) 0) (same (k / 8) (omega arith)).row
          ∙ row_word b (k / 8) (k % 8) (omega arith)
          ∙ ap (λ (i : ℕ). get_or b i 0) (sym place)
      by (inr from) = e.untouched.rows k from low ∙ sym (f.untouched.rows k from low)

  key-words : (j : ℕ) → j < most_states → key_at a j ≡ key_at b j
  key-words zero low = e.untouched.root ∙ sym f.untouched.root
  key-words (suc j) low = by (below-or-from (suc j) (rows_laid r))
    where
      by : (suc j < rows_laid r) ⊎ (rows_laid r ≤ suc j) → key_at a (suc j) ≡ key_at b (suc j)
      by (inl less) = (same (suc j) (omega arith)).key (omega arith)
      by (inr from) =
          e.untouched.keys (keys_at + suc j) (omega arith) (omega arith) ∙ sym (f.untouched.keys (keys_at + suc j) (omega arith) (omega arith))

  later-words : (k : ℕ) → get_or a (codes_at + k) 0 ≡ get_or b (codes_at + k) 0
  later-words k =
      sym (get_or-drop codes_at a k 0)
      ∙ ap (λ (l : List ℕ). get_or l k 0) (e.kept ∙ sym f.kept)
      ∙ get_or-drop codes_at b k 0

  all_words : (k : ℕ) → get_or a k 0 ≡ get_or b k 0
  all_words k = by (below-or-from k keys_at) (below-or-from k codes_at)
    where
      by : (k < keys_at) ⊎ (keys_at ≤ k) → (k < codes_at) ⊎ (codes_at ≤ k) → get_or a k 0 ≡ get_or b k 0
      by (inl low) other = row_words k low
      by (inr from) (inl low) =
          subst (λ (i : ℕ). get_or a i 0 ≡ get_or b i 0) {x = keys_at + (k - keys_at)} {y = k} (omega arith) (key-words (k - keys_at) (omega arith))
      by (inr from) (inr behind) =
          subst (λ (i : ℕ). get_or a i 0 ≡ get_or b i 0) {x = codes_at + (k - codes_at)} {y = k} (omega arith) (later-words (k - codes_at))

-- Two outcomes of a search that its contract permits are one: the answer, and every word of the workspace.
pub one-search : (codes before a b : List ℕ) (r s : Option ℕ) → length a ≡ length before → length b ≡ length before
    → Explores codes before a r → Explores codes before b s → (r ≡ s) × (a ≡ b)
one-search codes before a b r s long also e f =
    let one = same_answer codes a b r s e.answer f.answer in (
      one,
      ext_get_or 0 a b (long ∙ sym also)
          (λ k low. all_words codes before a b r e (subst (λ (answer : Option ℕ). Explores codes before b answer) (sym one) f) k),
    )
