-- One step of a search: it leads to a row that is there, or its row is laid down with the step's number as its key, or there is no room
-- left for it. In each case what a partial search promises holds for one step more.
use Rattle.std.proofs.Common.{ℕ, zero, suc, ◌+◌, ◌*◌, ◌/◌, ◌%◌, ◌≤◌, ◌<◌, ◌≡◌, refl, sym, ◌∙◌, ap, ap₂, subst, List, ◌⊎◌, inl, inr, arith, length, take, drop}
use Rattle.matching.specs.Machinery.Rows.{first_row, step_row, pack}
use Rattle.states.specs.Machinery.Rows.{most_states, codes_at, codes_laid, row_at, key_at, IsByte}
use Rattle.std.specs.Prelude.{Option}
use Rattle.states.specs.Machinery.Search.{step_from, Partial, Exceeded, FoundBefore, Searched}
use Rattle.states.proofs.Below.{below-or-from, below_next}
use Rattle.states.proofs.RowsInWords.{with_row, with-row, with-other-row, with-key, with-other-key}

-- a search that has tried no step
pub search-begins : (codes words : List ℕ) → row_at words 0 ≡ first_row codes → Partial codes words 1 0
search-begins codes words first =
    record {
      some = omega arith;
      few = omega arith;
      first = first;
      distinct = λ i j h k same. omega arith;
      parent = λ j h k. absurd (omega arith);
      byte = λ j h k. absurd (omega arith);
      found = λ j h k. absurd (omega arith);
      ascending = λ i j h k l. absurd (omega arith);
      early = λ j h k. absurd (omega arith);
      tried = λ i b h is k. absurd (omega arith);
    }

-- a search up to a later number, where no step lies between
pub search-later : (codes words : List ℕ) (n t u : ℕ) → Partial codes words n t → t ≤ u → ((i b : ℕ) → IsByte b → i * 128 + b < u → i * 128 + b < t) → Partial codes words n u
search-later codes words n t u p later none =
    record {
      some = p.some;
      few = p.few;
      first = p.first;
      distinct = p.distinct;
      parent = p.parent;
      byte = p.byte;
      found = p.found;
      ascending = p.ascending;
      early = λ j h k. let old = p.early j h k in omega arith;
      tried = λ i b h is k. p.tried i b h is (none i b is k);
    }

module _ (codes words : List ℕ) (n i b : ℕ) (p : Partial codes words n (i * 128 + b)) (low : i < n) (is : IsByte b) where
  -- the step leads to a row that is there
  pub step-known : (at : ℕ) → at < n → row_at words at ≡ step_from codes words i b → Partial codes words n (i * 128 + b + 1)
  step-known at there same =
      record {
        some = p.some;
        few = p.few;
        first = p.first;
        distinct = p.distinct;
        parent = p.parent;
        byte = p.byte;
        found = p.found;
        ascending = p.ascending;
        early = λ j h k. let old = p.early j h k in omega arith;
        tried = λ i' b' h is' k. by i' b' h is' k (below-or-from (i' * 128 + b') (i * 128 + b));
      }
    where
      key : (at : ℕ) → at < n → (at ≡ 0) ⊎ (key_at words at ≤ i * 128 + b)
      key zero h = inl refl
      key (suc at) h = let old = p.early (suc at) (omega arith) h in inr (omega arith)

      by : (i' b' : ℕ) → i' < n → IsByte b' → i' * 128 + b' < i * 128 + b + 1 → (i' * 128 + b' < i * 128 + b) ⊎ (i * 128 + b ≤ i' * 128 + b')
          → (j : ℕ) × (j < n) × (row_at words j ≡ step_from codes words i' b') × ((j ≡ 0) ⊎ (key_at words j ≤ i' * 128 + b'))
      by i' b' h is' k (inl less) = p.tried i' b' h is' less
      by i' b' h is' k (inr from) =
          let row : i ≡ i' = omega arith in
          let last : b ≡ b' = omega arith in
          (at, there, same ∙ ap₂ (step_from codes words) row last, subst (λ (m : ℕ). (at ≡ 0) ⊎ (key_at words at ≤ m)) {x = i * 128 + b} {y = i' * 128 + b'} (omega arith) (key at there))

  -- no row is left for where the step leads
  pub step-over : most_states ≤ n → ((j : ℕ) → j < n → row_at words j ≡ step_from codes words i b → ⊥) → Exceeded codes words
  step-over full new =
      let all : n ≡ most_states = omega (arith, p.few) in
      record {
        rest = i * 128 + b;
        full = subst (λ (m : ℕ). Partial codes words m (i * 128 + b)) all p;
        row = i;
        by = b;
        low = omega arith;
        byte = is;
        new = λ j h. new j (omega arith);
      }

  -- the step leads to a new row
  module _ (row : List ℕ) (leads : row ≡ step_from codes words i b) (eight : length row ≡ 8) (space : n < most_states) (room : 5120 ≤ length words)
      (new : (j : ℕ) → j < n → row_at words j ≡ row → ⊥) where
    abbrev after : List ℕ
    after = with_row words n row (i * 128 + b)

    rows : (j : ℕ) → j < n → row_at after j ≡ row_at words j
    rows j h = with-other-row words n row (i * 128 + b) eight space room j (omega arith) (λ w. omega arith)

    keys : (j : ℕ) → j < n → key_at after j ≡ key_at words j
    keys j h = with-other-key words n row (i * 128 + b) eight space room j (λ w. omega arith)

    last_row : row_at after n ≡ row
    last_row = with-row words n row (i * 128 + b) eight space room

    last-key : key_at after n ≡ i * 128 + b
    last-key = with-key words n row (i * 128 + b) eight space room

    distinct-next : (j : ℕ) → j < suc n → (k : ℕ) → k < j → row_at after k ≡ row_at after j → ⊥
    distinct-next =
        below_next (λ j. (k : ℕ) → k < j → row_at after k ≡ row_at after j → ⊥) n
        (λ j h k l same. p.distinct k j l h (sym (rows k (omega arith)) ∙ same ∙ rows j h))
        (λ k l same. new k l (sym (rows k l) ∙ same ∙ last_row))

    parent-next : (j : ℕ) → j < suc n → 0 < j → key_at after j / 128 < j
    parent-next =
        below_next (λ j. 0 < j → key_at after j / 128 < j) n
        (λ j h pos. subst (λ (k : ℕ). k / 128 < j) (sym (keys j h)) (p.parent j pos h))
        (λ pos. subst (λ (k : ℕ). k / 128 < n) (sym last-key) (omega arith))

    byte_next : (j : ℕ) → j < suc n → 0 < j → IsByte (key_at after j % 128)
    byte_next =
        below_next (λ j. 0 < j → IsByte (key_at after j % 128)) n
        (λ j h pos. subst (λ (k : ℕ). IsByte (k % 128)) (sym (keys j h)) (p.byte j pos h))
        (λ pos. subst (λ (k : ℕ). IsByte (k % 128)) (sym last-key) (omega arith))

    found-next : (j : ℕ) → j < suc n → 0 < j → row_at after j ≡ step_from codes after (key_at after j / 128) (key_at after j % 128)
    found-next =
        below_next (λ j. 0 < j → row_at after j ≡ step_from codes after (key_at after j / 128) (key_at after j % 128)) n
        (λ j h pos.
        let older = p.parent j pos h in
        rows j h
        ∙ p.found j pos h
        ∙ ap (step_row codes (key_at words j % 128)) (sym (rows (key_at words j / 128) (omega arith)))
        ∙ ap (λ (k : ℕ). step_from codes after (k / 128) (k % 128)) (sym (keys j h)))
        (λ pos.
        last_row
        ∙ leads
        ∙ ap (step_row codes b) (sym (rows i low))
        ∙ ap₂ (step_from codes after) {x = i} {y = (i * 128 + b) / 128} {u = b} {v = (i * 128 + b) % 128} (omega arith) (omega arith)
        ∙ ap (λ (k : ℕ). step_from codes after (k / 128) (k % 128)) (sym last-key))

    early-next : (j : ℕ) → j < suc n → 0 < j → key_at after j < i * 128 + b + 1
    early-next =
        below_next (λ j. 0 < j → key_at after j < i * 128 + b + 1) n
        (λ j h pos. let old = p.early j pos h in omega (arith, keys j h))
        (λ pos. omega (arith, last-key))

    ascending-next : (j : ℕ) → j < suc n → (k : ℕ) → 0 < k → k < j → key_at after k < key_at after j
    ascending-next =
        below_next (λ j. (k : ℕ) → 0 < k → k < j → key_at after k < key_at after j) n
        (λ j h k pos l. let old = p.ascending k j pos l h in omega (arith, keys j h, keys k (omega arith)))
        (λ k pos l. let old = p.early k pos l in omega (arith, keys k l, last-key))

    -- where a step leads that was tried before, or the new one
    abbrev Leads : ℕ → ℕ → Type 0
    Leads i' b' = (j : ℕ) × (j < suc n) × (row_at after j ≡ step_from codes after i' b') × ((j ≡ 0) ⊎ (key_at after j ≤ i' * 128 + b'))

    tried-next : (i' b' : ℕ) → i' < suc n → IsByte b' → i' * 128 + b' < i * 128 + b + 1 → Leads i' b'
    tried-next i' b' h is' k = by (below-or-from (i' * 128 + b') (i * 128 + b))
      where
        old-key : (j : ℕ) → j < n → (j ≡ 0) ⊎ (key_at words j ≤ i' * 128 + b') → (j ≡ 0) ⊎ (key_at after j ≤ i' * 128 + b')
        old-key j l (inl z) = inl z
        old-key j l (inr e) = inr (omega (arith, keys j l))

        by : (i' * 128 + b' < i * 128 + b) ⊎ (i * 128 + b ≤ i' * 128 + b') → Leads i' b'
        by (inl less) =
            let lower : i' < n = omega arith in
            let old = p.tried i' b' lower is' less in
            (old.0, omega arith, rows old.0 old.1 ∙ old.2 ∙ ap (step_row codes b') (sym (rows i' lower)), old-key old.0 old.1 old.3)
        by (inr from) =
            let same : i ≡ i' = omega arith in
            let last : b ≡ b' = omega arith in
            (n, omega arith, last_row ∙ leads ∙ ap (step_row codes b) (sym (rows i low)) ∙ ap₂ (step_from codes after) same last, inr (omega (arith, last-key)))

    pub step-new : Partial codes after (suc n) (i * 128 + b + 1)
    step-new =
        record {
          some = omega arith;
          few = omega arith;
          first = rows 0 p.some ∙ p.first;
          distinct = λ k j l h. distinct-next j h k l;
          parent = λ j pos h. parent-next j h pos;
          byte = λ j pos h. byte_next j h pos;
          found = λ j pos h. found-next j h pos;
          ascending = λ k j pos l h. ascending-next j h k pos l;
          early = λ j pos h. early-next j h pos;
          tried = tried-next;
        }

-- what a step or a row of steps answers holds for the search that it is a part of, which began before
pub search-answers : (positions : ℕ) (before words after : List ℕ) (n t : ℕ) (r : Option ℕ) → drop codes_at words ≡ drop codes_at before
    → Searched positions words after n t r → FoundBefore (codes_laid positions before) after t r
search-answers positions before words after n t r same s = subst (λ (codes : List ℕ). FoundBefore codes after t r) (ap (take positions) same) s.answer

-- a row that a step leads to has eight words
pub step-length : (codes : List ℕ) (b : ℕ) (row : List ℕ) → length (step_row codes b row) ≡ 8
unfolding step_row pack
step-length codes b row = refl

pub first-length : (codes : List ℕ) → length (first_row codes) ≡ 8
unfolding first_row pack
first-length codes = refl
