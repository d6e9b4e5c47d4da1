-- The string of a row, read off the keys: it is the older row's string and one byte more, however much the reading may take; and it can be
-- laid down from its last byte on.
use Rattle.std.proofs.Common.{ℕ, zero, suc, ◌+◌, ◌/◌, ◌%◌, ◌≤◌, ◌<◌, ◌≡◌, add-zero, refl, sym, ◌∙◌, ap, Bool, true, false, List, [], ◌∷◌, ◌++◌, arith, eqb, length, set, length-append, ne_eqb}
use Rattle.std.proofs.lemmas.Bool.{eqb-false}
use Rattle.std.proofs.lemmas.List.{set_comm}
use Rattle.std.proofs.lemmas.List.Edits.{sets}
use Rattle.stored.specs.Choice.{pick}
use Rattle.matching.specs.Machinery.Rows.{forward}
use Rattle.states.specs.Machinery.Rows.{key_at}
use Rattle.states.specs.Machinery.Search.{Partial, Keyed, HasString, chain}

-- the rows of a search have strings
pub keyed : (codes words : List ℕ) (n t : ℕ) → Partial codes words n t → Keyed words n
keyed codes words n t p = record { parent = p.parent; byte = p.byte }

-- the string of a row is read off its own key and those of older rows
pub own-string : (words : List ℕ) (i n : ℕ) → HasString words i n → HasString words i (i + 1)
own-string words i n has =
    record {
      keyed = record { parent = λ j h low. has.keyed.parent j h (omega (arith, has.low)); byte = λ j h low. has.keyed.byte j h (omega (arith, has.low)) };
      low = omega arith;
      few = omega (arith, has.low, has.few);
      room = has.room;
    }

-- a row that is not the first has an older one, whose string can be read off too
pub older-string : (words : List ℕ) (i n : ℕ) → HasString words i n → 0 < i → HasString words (key_at words i / 128) (key_at words i / 128 + 1)
older-string words i n has h =
    own-string words (key_at words i / 128) n
    (record { keyed = has.keyed; low = omega (arith, has.low, has.keyed.parent i h has.low); few = has.few; room = has.room })

-- the first row's string is empty
pub chain_first : (words : List ℕ) (fuel : ℕ) → chain fuel words 0 ≡ []
chain_first words zero = refl
chain_first words (suc fuel) = refl

chain-step : (words : List ℕ) (fuel i : ℕ) → 0 < i → chain (suc fuel) words i ≡ key_at words i % 128 ∷ chain fuel words (key_at words i / 128)
chain-step words fuel i h =
    ap (λ (z : Bool). pick z [] (key_at words i % 128 ∷ chain fuel words (key_at words i / 128))) (ne_eqb i 0 (λ w. omega arith))

-- a string is no longer than its row's number says
pub chain-short : (words : List ℕ) (fuel i : ℕ) → length (chain fuel words i) ≤ fuel
chain-short words zero i = omega arith
chain-short words (suc fuel) i = by (eqb i 0) (chain-short words fuel (key_at words i / 128))
  where
    by : (z : Bool) → length (chain fuel words (key_at words i / 128)) ≤ fuel → length (pick z [] (key_at words i % 128 ∷ chain fuel words (key_at words i / 128))) ≤ suc fuel
    by true rest = omega arith
    by false rest = omega arith

module _ (words : List ℕ) (n : ℕ) (keys : Keyed words n) where
  positive : (i : ℕ) → (i ≡ 0 → ⊥) → 0 < i
  positive zero w = absurd (w refl)
  positive (suc i) w = omega arith

  chain-fuel : (f g i : ℕ) → i ≤ f → i ≤ g → i < n → chain f words i ≡ chain g words i
  chain-fuel zero g i h k low =
      let none : i ≡ 0 = omega arith in
      sym (ap (chain g words) none ∙ chain_first words g)
  chain-fuel (suc f) zero i h k low =
      let none : i ≡ 0 = omega arith in
      ap (chain (suc f) words) none
  chain-fuel (suc f) (suc g) i h k low = by (eqb i 0) refl (chain-fuel f g (key_at words i / 128))
    where
      by : (z : Bool) → eqb i 0 ≡ z
          → (key_at words i / 128 ≤ f → key_at words i / 128 ≤ g → key_at words i / 128 < n → chain f words (key_at words i / 128) ≡ chain g words (key_at words i / 128))
          → pick z [] (key_at words i % 128 ∷ chain f words (key_at words i / 128)) ≡ pick z [] (key_at words i % 128 ∷ chain g words (key_at words i / 128))
      by true q rest = refl
      by false q rest =
          let older = keys.parent i (positive i (eqb-false i 0 q)) low in
          ap (λ (r : List ℕ). key_at words i % 128 ∷ r) (rest (omega arith) (omega arith) (omega arith))

  -- the string of a row, last byte first: the byte that found it, and the older row's string
  pub chain-parent : (i : ℕ) → 0 < i → i < n → chain i words i ≡ key_at words i % 128 ∷ chain (key_at words i / 128) words (key_at words i / 128)
  chain-parent zero h low = absurd (omega arith)
  chain-parent (suc i) h low =
      let older = keys.parent (suc i) h low in
      chain-step words i (suc i) h
      ∙ ap (λ (r : List ℕ). key_at words (suc i) % 128 ∷ r)
      (chain-fuel i (key_at words (suc i) / 128) (key_at words (suc i) / 128) (omega arith) (omega arith) (omega arith))

pub length-forward : (r : List ℕ) → length (forward r) ≡ length r
length-forward [] = refl
length-forward (b ∷ r) = omega (arith, length-append (forward r) (b ∷ []), length-forward r)

-- a string laid down: its last byte first
pub sets_last : (l : List ℕ) (at : ℕ) (xs : List ℕ) (b : ℕ) → sets l at (xs ++ (b ∷ [])) ≡ sets (set l (at + length xs) b) at xs
sets_last l at [] b = ap (λ (k : ℕ). set l k b) (sym (add-zero at))
sets_last l at (x ∷ xs) b =
    sets_last (set l at x) (suc at) xs b
    ∙ ap (λ (m : List ℕ). sets m (suc at) xs)
    (ap (λ (k : ℕ). set (set l at x) k b) {x = suc at + length xs} {y = at + suc (length xs)} (omega arith)
    ∙ set_comm l at (at + suc (length xs)) x b (λ w. omega arith))
