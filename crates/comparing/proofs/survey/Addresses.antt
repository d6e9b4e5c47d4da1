-- The first values of column 7, gathered from edge to edge: absence, then address 0 and the ends of networks in their order. An address
-- between two edges is like the edge below it, so every address is like one that was looked at.
use Rattle.std.proofs.Common.{ℕ, zero, suc, ◌+◌, ◌*◌, ◌^◌, ◌≤◌, ◌<◌, ◌≡◌, refl, sym, ap, subst, Bool, true, false, List, [], ◌∷◌, ◌++◌, map, ◌⊎◌, inl, inr, arith, ltb, length, ne_eqb, ltb-true, ltb-false}
use Rattle.stored.specs.Choice.{pick}
use Rattle.stored.specs.Tables.{Statement}
use Rattle.judging.specs.Requests.{Value, absent, text, number}
use Rattle.columns.specs.Values.{networks_in}
use Rattle.columns.specs.Machinery.Edges.{next_edge}
use Rattle.columns.proofs.Edges.{edge-high, next-edge-above}
use Rattle.comparing.specs.Order.{Before, In}
use Rattle.comparing.specs.Requests.{Admitted}
use Rattle.comparing.specs.Gaps.{Alike}
use Rattle.comparing.specs.Machinery.Product.{Firsts, print_of}
use Rattle.comparing.specs.Machinery.Adding.{address_at, adding, adding_edges}
use Rattle.comparing.proofs.survey.Gathering.{Upto, Next, none_yet, printed-all, gathered-firsts, adding-next}
use Rattle.comparing.proofs.survey.EdgeSteps.{alike-between, ends_above, ends-few, ends-fall, edges-all, edges_few, edges_some}

-- What is found in column 7: its first values in order, the words of their footprints, as many as fit; each is shown by an address or by 2 ^ 32.
pub record AddressesFound (first second : List Statement) (print : ℕ → ℕ) (found : List ℕ) : Type 0 where
  pub firsts : Firsts first second 7 (map address_at found)
  pub prints : map print found ≡ map (print_of first second 7) (map address_at found)
  pub some : 0 < length found
  pub few : length found ≤ 2 * length (networks_in (first ++ second)) + 2
  pub inside : (a : ℕ) → In a found → a ≤ 2 ^ 32

-- an address shows itself
shown : (x : ℕ) → x < 2 ^ 32 → address_at x ≡ number x
shown x low = ap (λ (t : Bool). pick t absent (number x)) (ne_eqb x (2 ^ 32) (λ w. omega arith))

-- the candidates that were looked at: absence and the addresses below x
abbrev Looked : ℕ → ℕ → Type 0
Looked x a = (a ≡ 2 ^ 32) ⊎ (a < x)

-- the values that are like one of them
abbrev Below : ℕ → Value → Type 0
Below x absent = Unit {0}
Below x (text s) = ⊥
Below x (number m) = m < x

module _ (first second : List Statement) (print : ℕ → ℕ)
    (printed : (a : ℕ) → a ≤ 2 ^ 32 → print a ≡ print_of first second 7 (address_at a)) where
  abbrev At : ℕ → List ℕ → Type 0
  At x found = Upto first second 7 address_at print (Looked x) (Below x) found

  -- absence comes first
  start : At 0 (2 ^ 32 ∷ [])
  start =
      adding-next first second 7 address_at print (λ x. ⊥) (Looked 0) (λ v. ⊥) (Below 0) [] (2 ^ 32) (none_yet first second 7 address_at print)
      (record { printed = printed (2 ^ 32) (omega arith); ok = tt; behind = λ y h. absurd h; earlier = λ v ok h. earlier v h })
      (λ y h. absurd h) (inl refl) (λ v ok h. covers v h)
    where
      earlier : (v : Value) → Before v absent → ⊥
      earlier absent h = h
      earlier (text s) h = h
      earlier (number m) h = h

      covers : (v : Value) → Below 0 v → ⊥ ⊎ Alike first second 7 v absent
      covers absent h = inr refl
      covers (text s) h = absurd h
      covers (number m) h = absurd (omega arith)

  -- an address can be looked at next when all below it were
  next : (x : ℕ) → x < 2 ^ 32 → Next first second 7 address_at print (Looked x) (Below x) x
  next x low =
      record {
        printed = printed x (omega arith);
        ok = subst (λ (v : Value). Admitted 7 v) (sym (shown x low)) low;
        behind = λ y h. subst (λ (v : Value). Before (address_at y) v) (sym (shown x low)) (behind y h);
        earlier = λ v ok h. earlier v ok (subst (λ (w : Value). Before v w) (shown x low) h);
      }
    where
      behind : (y : ℕ) → Looked x y → Before (address_at y) (number x)
      behind y (inl h) = subst (λ (a : ℕ). Before (address_at a) (number x)) (sym h) tt
      behind y (inr h) = subst (λ (v : Value). Before v (number x)) (sym (shown y (omega arith))) h

      earlier : (v : Value) → Admitted 7 v → Before v (number x) → Below x v
      earlier absent ok h = tt
      earlier (text s) ok h = ok
      earlier (number m) ok h = h

  step : (x : ℕ) (found : List ℕ) → x < 2 ^ 32 → At x found → At (next_edge (networks_in (first ++ second)) x) (adding print found x)
  step x found low u =
      adding-next first second 7 address_at print (Looked x) (Looked edge) (Below x) (Below edge) found x u (next x low) grows (inr above) (λ v ok h. covers v h)
    where
      edge : ℕ
      edge = next_edge (networks_in (first ++ second)) x

      above : x < edge
      above = next-edge-above (networks_in (first ++ second)) x low

      grows : (y : ℕ) → Looked x y → Looked edge y
      grows y (inl h) = inl h
      grows y (inr h) = inr (omega (arith, above))

      covers : (v : Value) → Below edge v → Below x v ⊎ Alike first second 7 v (address_at x)
      covers absent h = inl tt
      covers (text s) h = absurd h
      covers (number m) h = by (ltb m x) refl
        where
          by : (t : Bool) → ltb m x ≡ t → (m < x) ⊎ Alike first second 7 (number m) (address_at x)
          by true e = inl (ltb-true m x e)
          by false e =
              inr (subst (λ (v : Value). Alike first second 7 (number m) v) (sym (shown x low))
              (alike-between x m (ltb-false m x e) first second h))

  -- from edge to edge up to the last
  edges-from : (fuel x : ℕ) (found : List ℕ) → x ≤ 2 ^ 32 → (x < 2 ^ 32 → ends_above (networks_in (first ++ second)) x < fuel) → At x found
      → At (2 ^ 32) (adding_edges fuel (networks_in (first ++ second)) print found x)
  edges-from zero x found low enough u = by (ltb x (2 ^ 32)) refl
    where
      by : (t : Bool) → ltb x (2 ^ 32) ≡ t → At (2 ^ 32) found
      by true e = absurd (omega (arith, enough (ltb-true x (2 ^ 32) e)))
      by false e =
          let last : x ≡ 2 ^ 32 = omega (arith, ltb-false x (2 ^ 32) e) in
          subst (λ (y : ℕ). At y found) last u
  edges-from (suc fuel) x found low enough u =
      by (ltb x (2 ^ 32)) refl
      (edges-from fuel (next_edge (networks_in (first ++ second)) x) (adding print found x) (edge-high (networks_in (first ++ second)) x))
    where
      ns : List (ℕ × ℕ)
      ns = networks_in (first ++ second)

      by : (t : Bool) → ltb x (2 ^ 32) ≡ t
          → ((next_edge ns x < 2 ^ 32 → ends_above ns (next_edge ns x) < fuel) → At (next_edge ns x) (adding print found x)
          → At (2 ^ 32) (adding_edges fuel ns print (adding print found x) (next_edge ns x)))
          → At (2 ^ 32) (pick t (adding_edges fuel ns print (adding print found x) (next_edge ns x)) found)
      by true e rest =
          let here = ltb-true x (2 ^ 32) e in
          let left = enough here in
          rest (λ h. omega (arith, ends-fall x (next_edge ns x) (next-edge-above ns x here) h ns (omega arith))) (step x found here u)
      by false e rest =
          let last : x ≡ 2 ^ 32 = omega (arith, ltb-false x (2 ^ 32) e) in
          subst (λ (y : ℕ). At y found) last u

  -- every admitted value is like one of those that were looked at
  whole : (v : Value) → Admitted 7 v → Below (2 ^ 32) v
  whole absent ok = tt
  whole (text s) ok = ok
  whole (number m) ok = ok

  -- Column 7: absence, then the addresses from edge to edge.
  pub gather-addresses : (fuel : ℕ) → 2 * length (networks_in (first ++ second)) + 1 ≤ fuel
      → AddressesFound first second print (adding_edges fuel (networks_in (first ++ second)) print (2 ^ 32 ∷ []) 0)
  gather-addresses fuel enough =
      record {
        firsts = gathered-firsts first second 7 address_at print (Looked (2 ^ 32)) (Below (2 ^ 32)) found last whole;
        prints = printed-all first second 7 address_at print (Looked (2 ^ 32)) (Below (2 ^ 32)) found last;
        some = edges_some fuel ns print (2 ^ 32 ∷ []) 0 (omega arith);
        few =
            subst (λ (l : List ℕ). length l ≤ 2 * length ns + 2) (sym (edges-all fuel ns print (2 ^ 32 ∷ []) 0 enough))
            (omega (arith, edges_few (2 * length ns + 1) ns print (2 ^ 32 ∷ []) 0));
        inside = λ a h. by a (last.seen a h);
      }
    where
      ns : List (ℕ × ℕ)
      ns = networks_in (first ++ second)

      found : List ℕ
      found = adding_edges fuel ns print (2 ^ 32 ∷ []) 0

      last : At (2 ^ 32) found
      last = edges-from fuel 0 (2 ^ 32 ∷ []) (omega arith) (λ h. omega (arith, ends-few ns 0)) start

      by : (a : ℕ) → Looked (2 ^ 32) a → a ≤ 2 ^ 32
      by a (inl h) = omega arith
      by a (inr h) = omega arith
