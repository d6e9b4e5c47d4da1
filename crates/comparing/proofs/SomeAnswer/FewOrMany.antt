-- A column has at most 512 different states, or more. Strings whose states differ are gathered, the empty one first; each next one is a
-- string in hand with a byte behind it. Where none of these has a new state the strings in hand show every state, since the state of a
-- string with a byte behind it follows from the state and the byte.
use Rattle.std.proofs.Common.{ℕ, zero, suc, ◌+◌, ◌≤◌, ◌<◌, ◌≡◌, refl, subst, ◌∙◌, Bool, true, false, List, [], ◌∷◌, ◌++◌, ◌⊎◌, inl, inr, arith, eqb, length, eqb-true}
use borrow.Author.Tests.{eqb-false}
use Rattle.stored.specs.Tables.{Statement}
use Rattle.matching.specs.declared.reading.Reading.{Reading}
use Rattle.matching.specs.Machinery.Codes.{codes_of}
use Rattle.matching.specs.State.{state_of}
use Rattle.matching.specs.Machinery.Rows.{forward}
use Rattle.matching.proofs.States.{backward}
use Rattle.states.specs.Machinery.Rows.{most_states}
use Rattle.columns.specs.Values.{values_in}
use Rattle.comparing.specs.Order.{In}
use Rattle.comparing.specs.Counts.{Apart}
use Rattle.comparing.specs.Columns.{IsString, States, Few, TooMany}
use Rattle.comparing.specs.Compared.{Crowded}
use Rattle.comparing.proofs.Ranks.{Ranged, ranged, in-range, ranged-append, ranged-backward}
use Rattle.comparing.proofs.SameBehind.{state-more}
use Rattle.comparing.proofs.SomeAnswer.Pairs.{pairs, in_pairs, pairs-in}
use Rattle.comparing.proofs.SomeAnswer.AllStrings.{all_bytes, all-bytes-in, in-all-bytes}
use Rattle.comparing.proofs.SomeAnswer.OneOfEach.{Like, New, like-or-new}

-- a byte behind a string
abbrev pub with_byte : ℕ → List ℕ → List ℕ
with_byte b s = s ++ (b ∷ [])

module _ (vs : List (Reading × List ℕ)) (narrow : length (codes_of vs) ≤ most_states) where
  -- strings with the same state have the same state with a byte behind them
  pub state-behind : (b : ℕ) (s u : List ℕ) → state_of vs s ≡ state_of vs u → state_of vs (with_byte b s) ≡ state_of vs (with_byte b u)
  state-behind b s u = state-more vs narrow s u (b ∷ [])

  -- a list of strings, the empty one among them, whose states differ
  record ApartStrings (list : List (List ℕ)) : Type 0 where
    start : In [] list
    all : (s : List ℕ) → In s list → Ranged s
    apart : Apart (state_of vs) list

  module _ (list : List (List ℕ)) (g : ApartStrings list) where
    -- where a byte behind a string of the list leads to no new state, the list shows every state
    closed : ((s : List ℕ) → In s (pairs with_byte all_bytes list) → Like (state_of vs) list s) → (r : List ℕ) → Ranged r → Like (state_of vs) list (forward r)
    closed none [] h = ([], g.start, refl)
    closed none (b ∷ r) h =
        let (w, i, e) = closed none r h.1 in
        let (y, j, f) = none (with_byte b w) (pairs-in with_byte all_bytes list b w (all-bytes-in b h.0) i) in
        (y, j, state-behind b (forward r) w e ∙ f)

    -- turned round: any string
    shown : ((s : List ℕ) → In s (pairs with_byte all_bytes list) → Like (state_of vs) list s) → (s : List ℕ) → IsString s → Like (state_of vs) list s
    shown none s h =
        let (r, e, row) = backward s in
        subst (Like (state_of vs) list) e (closed none r (ranged-backward r (rw e (ranged s h))))

    -- a string with a new state joins them
    joined : (u : List ℕ) → In u (pairs with_byte all_bytes list) → New (state_of vs) list u → ApartStrings (u ∷ list)
    joined u i new = record { start = inr g.start; all = all; apart = (new, g.apart) }
      where
        all : (s : List ℕ) → In s (u ∷ list) → Ranged s
        all s (inl e) =
            let (b, w, j, k, f) = in_pairs with_byte all_bytes list u i in
            rw (e ∙ f) (ranged-append w (b ∷ []) (g.all w k) (in-all-bytes b j, tt))
        all s (inr k) = g.all s k

  -- they are complete, or one more joins them, until they are too many
  find-states : (fuel : ℕ) (list : List (List ℕ)) → length list + fuel ≡ suc most_states → ApartStrings list → Few vs ⊎ TooMany vs
  find-states zero list size g = inr (record { list = list; size = omega arith; all = λ s i. in-range s (g.all s i); apart = g.apart })
  find-states (suc fuel) list size g = by (find-states fuel) (like-or-new (state_of vs) list (pairs with_byte all_bytes list))
    where
      by : ((l : List (List ℕ)) → length l + fuel ≡ suc most_states → ApartStrings l → Few vs ⊎ TooMany vs)
          → ((s : List ℕ) → In s (pairs with_byte all_bytes list) → Like (state_of vs) list s)
          ⊎ ((s : List ℕ) × In s (pairs with_byte all_bytes list) × New (state_of vs) list s)
          → Few vs ⊎ TooMany vs
      by more (inl none) =
          let states : States vs (length list) = record { list = list; size = refl; all = λ s i. in-range s (g.all s i); apart = g.apart; every = shown list g none } in
          inl (length list, states, omega arith)
      by more (inr (u, i, new)) = more (u ∷ list) (omega arith) (joined list g u i new)

  -- there are at most 512 states, or more
  pub few-else-many : Few vs ⊎ TooMany vs
  few-else-many = find-states most_states ([] ∷ []) refl (record { start = inl refl; all = all; apart = ((λ s i. absurd i), tt) })
    where
      all : (s : List ℕ) → In s ([] ∷ []) → Ranged s
      all s (inl e) = rw e tt
      all s (inr i) = absurd i

-- of the lowest n text columns one is the lowest with more than 512 states, or each has at most 512
pub crowded-or-few : (rows : List Statement) → ((d : ℕ) → d < 7 → Few (values_in d rows) ⊎ TooMany (values_in d rows))
    → (n : ℕ) → n ≤ 7 → ((c : ℕ) × Crowded rows c) ⊎ ((d : ℕ) → d < n → Few (values_in d rows))
crowded-or-few rows decide zero h = inr (λ d l. absurd (omega arith))
crowded-or-few rows decide (suc n) h = by (crowded-or-few rows decide n (omega arith)) (decide n (omega arith))
  where
    by : ((c : ℕ) × Crowded rows c) ⊎ ((d : ℕ) → d < n → Few (values_in d rows)) → Few (values_in n rows) ⊎ TooMany (values_in n rows)
        → ((c : ℕ) × Crowded rows c) ⊎ ((d : ℕ) → d < suc n → Few (values_in d rows))
    by (inl crowded) here = inl crowded
    by (inr below) (inr many) = inl (n, record { low = h; many = many; below = below })
    by (inr below) (inl few) = inr (λ d l. at d l (eqb d n) refl)
      where
        at : (d : ℕ) → d < suc n → (t : Bool) → eqb d n ≡ t → Few (values_in d rows)
        at d l true e = rw (eqb-true d n e) few
        at d l false e = let ne = eqb-false d n e in below d (omega arith)
