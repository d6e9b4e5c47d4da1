-- A finished search counts the states of all strings, and a search that finds a row too many shows that there are more than 512: rows and
-- states are the same thing seen twice, and each row has a string of its own.
use Rattle.std.proofs.Common.{ℕ, zero, suc, ◌+◌, ◌≤◌, ◌<◌, ◌≡◌, refl, sym, ◌∙◌, ap, true, List, [], ◌∷◌, ◌++◌, ◌⊎◌, inl, inr, arith, length}
use Rattle.stored.proofs.Choosing.{never}
use Rattle.matching.specs.declared.reading.Reading.{Reading}
use Rattle.matching.specs.Matches.{is_empty, prefix_matches}
use Rattle.matching.specs.Machinery.Codes.{codes_of}
use Rattle.matching.specs.State.{state_of}
use Rattle.matching.specs.Machinery.Rows.{step_row, row_of}
use Rattle.matching.proofs.States.{row-empty, row_step}
use Rattle.matching.proofs.Columns.{same-state, same_row}
use Rattle.states.specs.Machinery.Rows.{most_states, row_at}
use Rattle.states.specs.Machinery.Search.{Partial, Explored, Exceeded, string_of}
use Rattle.comparing.specs.Order.{In}
use Rattle.comparing.specs.Counts.{Apart}
use Rattle.comparing.specs.Columns.{IsString, States, Few, TooMany}
use Rattle.comparing.proofs.Ranks.{ranged, in-range, ranged-append}
use Rattle.comparing.proofs.survey.Exploring.{reached, string-reaches}

split : (i k : ℕ) → i ≤ k → (k ≡ i) ⊎ (suc i ≤ k)
split zero zero h = inl refl
split zero (suc k) h = inr (omega arith)
split (suc i) zero h = absurd (omega arith)
split (suc i) (suc k) h = more (split i k (omega arith))
  where
    more : (k ≡ i) ⊎ (suc i ≤ k) → (suc k ≡ suc i) ⊎ (suc (suc i) ≤ suc k)
    more (inl e) = inl (ap suc e)
    more (inr l) = inr (omega arith)

-- the strings of m rows from row i on
abbrev strings_from : List ℕ → ℕ → ℕ → List (List ℕ)
strings_from words i zero = []
strings_from words i (suc m) = string_of words i ∷ strings_from words (suc i) m

module _ (words : List ℕ) where
  strings-size : (i m : ℕ) → length (strings_from words i m) ≡ m
  strings-size i zero = refl
  strings-size i (suc m) = ap suc (strings-size (suc i) m)

  in-strings : (s : List ℕ) (i m : ℕ) → In s (strings_from words i m) → (k : ℕ) × (i ≤ k) × (k < i + m) × (s ≡ string_of words k)
  in-strings s i zero h = absurd h
  in-strings s i (suc m) (inl e) = (i, omega arith, omega arith, e)
  in-strings s i (suc m) (inr h) = let r = in-strings s (suc i) m h in (r.0, omega (arith, r.1), omega (arith, r.2), r.3)

  strings-in : (k i m : ℕ) → i ≤ k → k < i + m → In (string_of words k) (strings_from words i m)
  strings-in k i zero h l = absurd (omega arith)
  strings-in k i (suc m) h l = by (split i k h) (strings-in k (suc i) m)
    where
      by : (k ≡ i) ⊎ (suc i ≤ k) → (suc i ≤ k → k < suc i + m → In (string_of words k) (strings_from words (suc i) m))
          → In (string_of words k) (strings_from words i (suc m))
      by (inl e) rest = inl (ap (string_of words) e)
      by (inr more) rest = inr (rest more (omega arith))

module _ (vs : List (Reading × List ℕ)) (few : length (codes_of vs) ≤ most_states) (words : List ℕ) where
  module _ (n t : ℕ) (e : Partial (codes_of vs) words n t) where
    -- a row's string has the state of no other row's string
    rows_apart : (i j : ℕ) → i < j → j < n → state_of vs (string_of words i) ≡ state_of vs (string_of words j) → ⊥
    rows_apart i j h low same =
        e.distinct i j h low
        (sym (string-reaches (codes_of vs) words n t e i (omega arith)).0
        ∙ same-state vs few (string_of words i) (string_of words j) same
        ∙ (string-reaches (codes_of vs) words n t e j low).0)

    strings-apart : (i m : ℕ) → i + m ≤ n → Apart (state_of vs) (strings_from words i m)
    strings-apart i zero h = tt
    strings-apart i (suc m) h =
        ((λ s inside same. by s (in-strings words s (suc i) m inside) same), strings-apart (suc i) m (omega arith))
      where
        by : (s : List ℕ) → (k : ℕ) × (suc i ≤ k) × (k < suc i + m) × (s ≡ string_of words k) → state_of vs (string_of words i) ≡ state_of vs s → ⊥
        by s k same = rows_apart i k.0 k.1 (omega (arith, k.2)) (same ∙ ap (state_of vs) k.3)

    strings-ranged : (m : ℕ) → m ≤ n → (s : List ℕ) → In s (strings_from words 0 m) → IsString s
    strings-ranged m h s inside =
        let k = in-strings words s 0 m inside in
        rw k.3 (string-reaches (codes_of vs) words n t e k.0 (omega (arith, k.2))).1

  -- Every string's state is among those explored, and they are all different.
  pub states-complete : (n : ℕ) → Explored (codes_of vs) words n → States vs n
  states-complete n e =
      record {
        list = strings_from words 0 n;
        size = strings-size words 0 n;
        all = strings-ranged n _ e n (omega arith);
        apart = strings-apart n _ e 0 n (omega arith);
        every = λ s h. by s (reached (codes_of vs) words n e s h);
      }
    where
      by : (s : List ℕ) → (i : ℕ) × (i < n) × (row_at words i ≡ row_of (codes_of vs) s)
          → (u : List ℕ) × In u (strings_from words 0 n) × (state_of vs s ≡ state_of vs u)
      by s i = (
        string_of words i.0,
        strings-in words i.0 0 n (omega arith) (omega (arith, i.1)),
        same_row vs few s (string_of words i.0) (sym i.2 ∙ sym (string-reaches (codes_of vs) words n _ e i.0 i.1).0),
      )

  pub states-few : (n : ℕ) → Explored (codes_of vs) words n → Few vs
  states-few n e = (n, states-complete n e, e.few)

  -- A row beyond 512 is a state too many.
  pub states-many : Exceeded (codes_of vs) words → TooMany vs
  states-many x =
      record {
        list = last ∷ strings_from words 0 most_states;
        size = ap suc (strings-size words 0 most_states);
        all = λ s h. all s h;
        apart = ((λ s inside same. by s (in-strings words s 0 most_states inside) same), strings-apart most_states x.rest x.full 0 most_states (omega arith));
      }
    where
      last : List ℕ
      last = string_of words x.row ++ (x.by ∷ [])

      row : row_of (codes_of vs) last ≡ step_row (codes_of vs) x.by (row_at words x.row)
      row =
          row_step (codes_of vs) (string_of words x.row) x.by
          ∙ ap (step_row (codes_of vs) x.by) (string-reaches (codes_of vs) words most_states x.rest x.full x.row x.low).0

      by : (s : List ℕ) → (k : ℕ) × (0 ≤ k) × (k < 0 + most_states) × (s ≡ string_of words k) → state_of vs last ≡ state_of vs s → ⊥
      by s k same =
          let low : k.0 < most_states = omega (arith, k.2) in
          x.new k.0 low
          (sym (string-reaches (codes_of vs) words most_states x.rest x.full k.0 low).0
          ∙ sym (same-state vs few last (string_of words k.0) (same ∙ ap (state_of vs) k.3))
          ∙ row)

      all : (s : List ℕ) → In s (last ∷ strings_from words 0 most_states) → IsString s
      all s (inl e) =
          rw e
          (in-range last
          (ranged-append (string_of words x.row) (x.by ∷ [])
          (ranged (string_of words x.row) (string-reaches (codes_of vs) words most_states x.rest x.full x.row x.low).1)
          (x.byte, tt)))
      all s (inr h) = strings-ranged most_states x.rest x.full most_states (omega arith) s h

-- Where a column has a value, no other string has the empty string's row.
pub empty-alone : (vs : List (Reading × List ℕ)) → 0 < length vs → length (codes_of vs) ≤ most_states
    → (s : List ℕ) → row_of (codes_of vs) s ≡ row_of (codes_of vs) [] → s ≡ []
unfolding prefix_matches
empty-alone [] some few s same = absurd (omega arith)
empty-alone (v ∷ vs) some few s same = by s (head (same_row (v ∷ vs) few s [] same))
  where
    head : state_of (v ∷ vs) s ≡ state_of (v ∷ vs) [] → is_empty s ≡ true
    head e = cc

    by : (s : List ℕ) → is_empty s ≡ true → s ≡ []
    by [] e = refl
    by (b ∷ s) e = let z : ◌≡◌ {A = ℕ} 0 1 = cc in never z

-- So a step leads away from the empty string's row, and there are two rows at least.
pub two-rows : (vs : List (Reading × List ℕ)) → 0 < length vs → length (codes_of vs) ≤ most_states
    → (words : List ℕ) (n : ℕ) → Explored (codes_of vs) words n → 2 ≤ n
two-rows vs some few words n e = by (reached (codes_of vs) words n e (0x21 ∷ []) refl)
  where
    by : (i : ℕ) × (i < n) × (row_at words i ≡ row_of (codes_of vs) (0x21 ∷ [])) → 2 ≤ n
    by i = from i.0 i.1 i.2
      where
        from : (i : ℕ) → i < n → row_at words i ≡ row_of (codes_of vs) (0x21 ∷ []) → 2 ≤ n
        from zero low same =
            let gone = empty-alone vs some few (0x21 ∷ []) (sym same ∙ e.first ∙ sym (row-empty (codes_of vs))) in
            absurd (omega (arith, ap length gone))
        from (suc i) low same = omega arith
