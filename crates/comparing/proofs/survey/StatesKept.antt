-- The rows and keys of a search are not touched by what is written behind them.
use Rattle.std.proofs.Common.{ℕ, ◌+◌, ◌*◌, ◌/◌, ◌%◌, ◌≤◌, ◌<◌, ◌≡◌, sym, ap, ◌∙◌, subst, List, ◌++◌, ◌⊎◌, inl, inr, arith, get_or, take, get_or-take}
use Rattle.stored.specs.Tables.{Statement}
use Rattle.matching.specs.Machinery.Codes.{codes_of}
use Rattle.matching.specs.Machinery.Rows.{step_row}
use Rattle.states.specs.Machinery.Rows.{most_states, keys_at, codes_at, row_at, key_at, IsByte}
use Rattle.states.specs.Machinery.Search.{step_from, Partial}
use Rattle.states.proofs.Parts.{part-kept}
use Rattle.columns.specs.Values.{values_in}
use Rattle.comparing.specs.Machinery.Survey.{HasStates}

module _ (words after : List ℕ) (same : take codes_at after ≡ take codes_at words) where
  pub row_stays : (i : ℕ) → i < most_states → row_at after i ≡ row_at words i
  row_stays i low = part-kept after words codes_at (i * 8) 8 same (omega arith)

  pub key-stays : (i : ℕ) → i < most_states → key_at after i ≡ key_at words i
  key-stays i low =
      sym (get_or-take codes_at after (keys_at + i) 0 (omega arith))
      ∙ ap (λ (l : List ℕ). get_or l (keys_at + i) 0) same
      ∙ get_or-take codes_at words (keys_at + i) 0 (omega arith)

  pub search-stays : (codes : List ℕ) (n t : ℕ) → Partial codes words n t → Partial codes after n t
  search-stays codes n t p =
      let few = p.few in
      record {
        some = p.some;
        few = few;
        first = row_stays 0 (omega arith) ∙ p.first;
        distinct = λ i j h low e. p.distinct i j h low (sym (row_stays i (omega arith)) ∙ e ∙ row_stays j (omega arith));
        parent = λ j h low. subst (λ (k : ℕ). k / 128 < j) (sym (key-stays j (omega arith))) (p.parent j h low);
        byte = λ j h low. subst (λ (k : ℕ). IsByte (k % 128)) (sym (key-stays j (omega arith))) (p.byte j h low);
        found = λ j h low.
            row_stays j (omega arith) ∙ p.found j h low
            ∙ ap (step_row codes (key_at words j % 128)) (sym (row_stays (key_at words j / 128) (omega (arith, p.parent j h low))))
            ∙ ap (λ (k : ℕ). step_from codes after (k / 128) (k % 128)) (sym (key-stays j (omega arith)));
        ascending = λ i j h less low.
            subst (λ (k : ℕ). k < key_at after j) (sym (key-stays i (omega arith)))
            (subst (λ (k : ℕ). key_at words i < k) (sym (key-stays j (omega arith))) (p.ascending i j h less low));
        early = λ j h low. subst (λ (k : ℕ). k < t) (sym (key-stays j (omega arith))) (p.early j h low);
        tried = λ i b low is before. by i b low (p.tried i b low is before);
      }
    where
      sooner : (i b j : ℕ) → j < most_states → (j ≡ 0) ⊎ (key_at words j ≤ i * 128 + b) → (j ≡ 0) ⊎ (key_at after j ≤ i * 128 + b)
      sooner i b j low (inl e) = inl e
      sooner i b j low (inr h) = inr (subst (λ (k : ℕ). k ≤ i * 128 + b) (sym (key-stays j low)) h)

      by : (i b : ℕ) → i < n
          → (j : ℕ) × (j < n) × (row_at words j ≡ step_from codes words i b) × ((j ≡ 0) ⊎ (key_at words j ≤ i * 128 + b))
          → (j : ℕ) × (j < n) × (row_at after j ≡ step_from codes after i b) × ((j ≡ 0) ⊎ (key_at after j ≤ i * 128 + b))
      by i b low r =
          let few = p.few in
          let under = r.1 in (
            r.0,
            r.1,
            row_stays r.0 (omega arith) ∙ r.2 ∙ ap (step_row codes b) (sym (row_stays i (omega arith))),
            sooner i b r.0 (omega arith) r.3,
          )

-- the states of a column stay found
pub states-kept : (first second : List Statement) (column : ℕ) (words after : List ℕ) (states : ℕ) → take codes_at after ≡ take codes_at words
    → HasStates first second column words states → HasStates first second column after states
states-kept first second column words after states same h =
    record {
      explored = search-stays words after same (codes_of (values_in column (first ++ second))) states _ h.explored;
      narrow = h.narrow;
    }
