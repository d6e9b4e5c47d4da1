-- Rows and keys in the words of a workspace: a row or a key that is laid down is there, and every other one is as it was.
use Rattle.std.proofs.Common.{ℕ, zero, suc, ◌+◌, ◌-◌, ◌*◌, ◌/◌, ◌≤◌, ◌<◌, min, ◌≡◌, refl, sym, ◌∙◌, ap, true, false, List, [], ◌∷◌, ◌++◌, ◌⊎◌, inl, inr, arith, length, get_or, take, drop, set, length-take, length-drop, length-set, length-append, take-take, drop-drop, length-take-le, take_at, drop_at, get_or-take, get_or-drop, get_or-set_same, get_or-set_other, drop-set-lt, ext_get_or}
use mathlib.Core.Bool.{false≢true}
use Rattle.std.specs.Prelude.{Option, None, Some}
use Rattle.std.specs.Option.{is_some}
use lib.Arith.{lt_of_le-ne}
use Rattle.std.specs.Simd.{first_chunks}
use lib.Seq.{sets, sets-eq, length-sets, drop-append-le}
use Rattle.states.specs.Machinery.Rows.{most_states, keys_at, codes_at, row_at, key_at}
use Rattle.states.specs.Machinery.Search.{FirstAt, Untouched}
use Rattle.states.proofs.Below.{below-or-from}
use Rattle.states.proofs.Parts.{part-kept, sets_behind}

-- a run of stores leaves the elements before and behind it
pub sets-outside : (l vs : List ℕ) (at k : ℕ) → at + length vs ≤ k → get_or (sets l at vs) k 0 ≡ get_or l k 0
sets-outside l [] at k high = refl
sets-outside l (v ∷ vs) at k high =
    sets-outside (set l at v) vs (suc at) k (omega arith) ∙ get_or-set_other l at k v 0 (λ w. omega arith)

pub sets-before : (l vs : List ℕ) (at k : ℕ) → k < at → get_or (sets l at vs) k 0 ≡ get_or l k 0
sets-before l [] at k low = refl
sets-before l (v ∷ vs) at k low = sets-before (set l at v) vs (suc at) k (omega arith) ∙ get_or-set_other l at k v 0 (λ w. omega arith)

-- parts of lists that agree there are the same
pub part_same : (l m : List ℕ) (at n : ℕ) → length l ≡ length m → ((k : ℕ) → at ≤ k → k < at + n → get_or l k 0 ≡ get_or m k 0)
    → take n (drop at l) ≡ take n (drop at m)
part_same l m at n long same =
    ext_get_or 0 (take n (drop at l)) (take n (drop at m))
    (length-take n (drop at l) ∙ ap (min n) (length-drop at l ∙ ap (λ (k : ℕ). k - at) long ∙ sym (length-drop at m)) ∙ sym (length-take n (drop at m)))
    (λ k h.
    let inside : k < n = omega (arith, length-take n (drop at l)) in
    get_or-take n (drop at l) k 0 inside
    ∙ get_or-drop at l k 0
    ∙ same (at + k) (omega arith) (omega arith)
    ∙ sym (get_or-drop at m k 0)
    ∙ sym (get_or-take n (drop at m) k 0 inside))

-- a row has eight words, and these stand in the workspace
pub row-length : (words : List ℕ) (i : ℕ) → i * 8 + 8 ≤ length words → length (row_at words i) ≡ 8
row-length words i room = length-take-le 8 (drop (i * 8) words) (omega (arith, length-drop (i * 8) words))

pub row_word : (words : List ℕ) (i k : ℕ) → k < 8 → get_or (row_at words i) k 0 ≡ get_or words (i * 8 + k) 0
row_word words i k low = get_or-take 8 (drop (i * 8) words) k 0 low ∙ get_or-drop (i * 8) words k 0

-- words that were laid down, and a row that was

pub part_laid : (words : List ℕ) (at n : ℕ) (row : List ℕ) → length row ≡ n → at + n ≤ length words → take n (drop at (sets words at row)) ≡ row
part_laid words at n row long room =
    let front : length (take at words) ≡ at = length-take-le at words (omega arith) in
    ap (λ (l : List ℕ). take n (drop at l)) (sets-eq row words at (omega arith))
    ∙ ap (take n)
    (drop-append-le at (take at words ++ row) (drop (at + length row) words) (omega (arith, length-append (take at words) row))
    ∙ ap (λ (l : List ℕ). l ++ drop (at + length row) words) (drop_at (take at words) row at front))
    ∙ take_at row (drop (at + length row) words) n long

pub row_laid : (words : List ℕ) (i : ℕ) (row : List ℕ) → length row ≡ 8 → i * 8 + 8 ≤ length words → row_at (sets words (i * 8) row) i ≡ row
row_laid words i row eight room = part_laid words (i * 8) 8 row eight room

-- every other row
pub row_kept : (words : List ℕ) (i j : ℕ) (row : List ℕ) → length row ≡ 8 → (j ≡ i → ⊥) → row_at (sets words (i * 8) row) j ≡ row_at words j
row_kept words i j row eight other =
    part_same (sets words (i * 8) row) words (j * 8) 8 (length-sets words (i * 8) row) (λ k low high. by k low high (below-or-from j i))
  where
    by : (k : ℕ) → j * 8 ≤ k → k < j * 8 + 8 → (j < i) ⊎ (i ≤ j) → get_or (sets words (i * 8) row) k 0 ≡ get_or words k 0
    by k low high (inl h) = sets-before words row (i * 8) k (omega arith)
    by k low high (inr h) = let later : i < j = lt_of_le-ne h (λ w. other (sym w)) in sets-outside words row (i * 8) k (omega arith)

-- the words from a place on that is behind the row
pub behind-kept : (words : List ℕ) (i n : ℕ) (row : List ℕ) → length row ≡ 8 → i * 8 + 8 ≤ n → drop n (sets words (i * 8) row) ≡ drop n words
behind-kept words i n row eight room = sets_behind words row (i * 8) n (omega arith)

-- the rows of the first words

chunk-at : (k i : ℕ) (words d : List ℕ) → i < k → get_or (first_chunks 8 k words) i d ≡ row_at words i
chunk-at zero i words d low = absurd (omega arith)
chunk-at (suc k) zero words d low = refl
chunk-at (suc k) (suc i) words d low =
    chunk-at k i (drop 8 words) d (omega arith)
    ∙ ap (take 8) (drop-drop (i * 8) 8 words ∙ ap (λ (n : ℕ). drop n words) (omega arith))

pub chunks-few : (n i m : ℕ) (words : List ℕ) → n * 8 ≤ length words → m ≡ length (take (n * 8) words) / 8 → i < m → i < n
chunks-few n i m words room e low = omega (arith, length-take-le (n * 8) words room)

pub row-of_chunks : (n i : ℕ) (words d : List ℕ) {rows : List (List ℕ)} → n * 8 ≤ length words
    → rows ≡ first_chunks 8 (length (take (n * 8) words) / 8) (take (n * 8) words) → i < n → get_or rows i d ≡ row_at words i
row-of_chunks n i words d room e low =
    let count : length (take (n * 8) words) / 8 ≡ n = omega (arith, length-take-le (n * 8) words room) in
    ap (λ (rows : List (List ℕ)). get_or rows i d) e
    ∙ chunk-at (length (take (n * 8) words) / 8) i (take (n * 8) words) d (omega arith)
    ∙ part-kept (take (n * 8) words) words (n * 8) (i * 8) 8 (take-take (n * 8) (n * 8) words (omega arith)) (omega arith)

-- what a search for a row answers: one of the rows, or that none is it

pub row_met : (words : List ℕ) (n : ℕ) (row : List ℕ) (r : Option ℕ) → FirstAt words n row r → is_some r ≡ true → (i : ℕ) × (i < n) × (row_at words i ≡ row)
row_met words n row (Some i) first some = (i, first.0, first.1)
row_met words n row None first some = absurd (false≢true some)

pub row_new : (words : List ℕ) (n : ℕ) (row : List ℕ) (r : Option ℕ) → FirstAt words n row r → is_some r ≡ false → (j : ℕ) → j < n → row_at words j ≡ row → ⊥
row_new words n row (Some i) first none = absurd (false≢true (sym none))
row_new words n row None first none = first

-- words that no row and no key is laid in

pub untouched-same : (words : List ℕ) (n : ℕ) → Untouched words words n
untouched-same words n = record { rows = λ k from to. refl; root = refl; keys = λ k from to. refl }

-- by fewer rows first, then by all
pub untouched-both : (before words after : List ℕ) (n r : ℕ) → n ≤ r → Untouched before words n → Untouched words after r → Untouched before after r
untouched-both before words after n r fewer old new =
    record {
      rows = λ k from to. new.rows k from to ∙ old.rows k (omega arith) to;
      root = new.root ∙ old.root;
      keys = λ k from to. new.keys k from to ∙ old.keys k (omega arith) to;
    }

-- by the first row, which has no key
pub untouched-first : (words row : List ℕ) → length row ≡ 8 → Untouched words (sets words (0 * 8) row) 1
untouched-first words row eight =
    record {
      rows = λ k from to. sets-outside words row (0 * 8) k (omega arith);
      root = sets-outside words row (0 * 8) keys_at (omega arith);
      keys = λ k from to. sets-outside words row (0 * 8) k (omega arith);
    }

-- row n and its key laid down
abbrev pub with_row : List ℕ → ℕ → List ℕ → ℕ → List ℕ
with_row words n row key = set (sets words (n * 8) row) (keys_at + n) key

module _ (words : List ℕ) (n : ℕ) (row : List ℕ) (key : ℕ) (eight : length row ≡ 8) (low : n < most_states) (room : 5120 ≤ length words) where
  -- a key changes no row
  rows_stay : (j : ℕ) → j < most_states → row_at (with_row words n row key) j ≡ row_at (sets words (n * 8) row) j
  rows_stay j h =
      part_same (with_row words n row key) (sets words (n * 8) row) (j * 8) 8 (length-set (sets words (n * 8) row) (keys_at + n) key)
      (λ k from to. get_or-set_other (sets words (n * 8) row) (keys_at + n) k key 0 (λ w. omega arith))

  pub with-row : row_at (with_row words n row key) n ≡ row
  with-row = rows_stay n low ∙ row_laid words n row eight (omega arith)

  pub with-other-row : (j : ℕ) → j < most_states → (j ≡ n → ⊥) → row_at (with_row words n row key) j ≡ row_at words j
  with-other-row j h other = rows_stay j h ∙ row_kept words n j row eight other

  pub with-key : key_at (with_row words n row key) n ≡ key
  with-key = get_or-set_same (sets words (n * 8) row) (keys_at + n) key 0 (omega (arith, length-sets words (n * 8) row))

  pub with-other-key : (j : ℕ) → (j ≡ n → ⊥) → key_at (with_row words n row key) j ≡ key_at words j
  with-other-key j other =
      get_or-set_other (sets words (n * 8) row) (keys_at + n) (keys_at + j) key 0 (λ w. other (omega arith))
      ∙ sets-outside words row (n * 8) (keys_at + j) (omega arith)

  pub with-kept : drop codes_at (with_row words n row key) ≡ drop codes_at words
  with-kept = drop-set-lt codes_at (sets words (n * 8) row) (keys_at + n) key (omega arith) ∙ behind-kept words n codes_at row eight (omega arith)

  -- by a row and its key
  with-outside : (k : ℕ) → n * 8 + 8 ≤ k → (k ≡ keys_at + n → ⊥) → get_or (with_row words n row key) k 0 ≡ get_or words k 0
  with-outside k behind other =
      get_or-set_other (sets words (n * 8) row) (keys_at + n) k key 0 other ∙ sets-outside words row (n * 8) k (omega arith)

  pub with-untouched : 0 < n → Untouched words (with_row words n row key) (n + 1)
  with-untouched some =
      record {
        rows = λ k from to. with-outside k (omega arith) (λ w. omega arith);
        root = with-outside keys_at (omega arith) (λ w. omega arith);
        keys = λ k from to. with-outside k (omega arith) (λ w. omega arith);
      }
