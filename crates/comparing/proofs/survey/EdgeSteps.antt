-- The steps from edge to edge end: each passes an end of a network, so twice the number of networks and one more are enough, and more change
-- nothing. With just so many the loop's invariant is one equation: what is left to gather is what was to be gathered.
use Rattle.std.proofs.Common.{ℕ, zero, suc, ◌+◌, ◌*◌, ◌^◌, ◌≤◌, ◌<◌, ◌≡◌, refl, sym, ◌∙◌, Bool, true, false, List, [], ◌∷◌, ◌++◌, arith, leb, ltb, length, ltb-true, ltb-false, lt-ltb, le-ltb, leb-true, leb-false}
use Rattle.stored.specs.Choice.{pick}
use Rattle.stored.specs.Tables.{Statement}
use Rattle.matching.specs.Machinery.Ranges.{network_low, network_high}
use Rattle.judging.specs.Requests.{number}
use Rattle.judging.specs.Machinery.Rows.{bit_of}
use Rattle.columns.specs.Values.{networks_in}
use Rattle.columns.specs.Machinery.Edges.{above, next_edge}
use Rattle.columns.proofs.Edges.{next-edge-above, between-edges}
use Rattle.comparing.specs.Gaps.{footprint, Alike}
use Rattle.comparing.specs.Machinery.Adding.{adding, adding_edges}
use Rattle.comparing.proofs.survey.Gathering.{adding-some, adding-few}

-- the ends of networks above an address
abbrev pub ends_above : List (ℕ × ℕ) → ℕ → ℕ
ends_above [] x = 0
ends_above (n ∷ ns) x = (bit_of (ltb x (network_low n.0 n.1)) + bit_of (ltb x (network_high n.0 n.1 + 1))) + ends_above ns x

bit-few : (t : Bool) → bit_of t ≤ 1
bit-few true = omega arith
bit-few false = omega arith

-- at most two for each network
pub ends-few : (ns : List (ℕ × ℕ)) (x : ℕ) → ends_above ns x ≤ 2 * length ns
ends-few [] x = omega arith
ends-few (n ∷ ns) x =
    omega (arith, ends-few ns x, bit-few (ltb x (network_low n.0 n.1)), bit-few (ltb x (network_high n.0 n.1 + 1)))

module _ (x y : ℕ) (up : x < y) (low : y < 2 ^ 32) where
  -- an end above y is above x
  end_kept : (end : ℕ) → bit_of (ltb y end) ≤ bit_of (ltb x end)
  end_kept end = by (ltb y end) refl
    where
      by : (t : Bool) → ltb y end ≡ t → bit_of t ≤ bit_of (ltb x end)
      by true e =
          let front = ltb-true y end e in
          rw (lt-ltb x end (omega arith)) (omega arith)
      by false e = omega arith

  -- an end above x that is not above y
  end-passed : (end : ℕ) → above end x ≤ y → suc (bit_of (ltb y end)) ≤ bit_of (ltb x end)
  end-passed end = by (ltb x end) refl
    where
      by : (t : Bool) → ltb x end ≡ t → pick t end (2 ^ 32) ≤ y → suc (bit_of (ltb y end)) ≤ bit_of t
      by true e h = rw (le-ltb y end h) (omega arith)
      by false e h = absurd (omega arith)

  ends-kept : (ns : List (ℕ × ℕ)) → ends_above ns y ≤ ends_above ns x
  ends-kept [] = omega arith
  ends-kept (n ∷ ns) = omega (arith, ends-kept ns, end_kept (network_low n.0 n.1), end_kept (network_high n.0 n.1 + 1))

  -- from x to its next edge or further, an end is passed
  pub ends-fall : (ns : List (ℕ × ℕ)) → next_edge ns x ≤ y → ends_above ns y < ends_above ns x
  ends-fall [] h = absurd (omega arith)
  ends-fall (n ∷ ns) h = by (leb (above begin x) y) refl (leb (above behind x) y) refl (ends-fall ns)
    where
      begin : ℕ
      begin = network_low n.0 n.1

      behind : ℕ
      behind = network_high n.0 n.1 + 1

      by : (t : Bool) → leb (above begin x) y ≡ t → (u : Bool) → leb (above behind x) y ≡ u
          → (next_edge ns x ≤ y → ends_above ns y < ends_above ns x) → ends_above (n ∷ ns) y < ends_above (n ∷ ns) x
      by true e u f more = omega (arith, end-passed begin (leb-true (above begin x) y e), end_kept behind, ends-kept ns)
      by false e true f more = omega (arith, end_kept begin, end-passed behind (leb-true (above behind x) y f), ends-kept ns)
      by false e false f more =
          let a = leb-false (above begin x) y e in
          let b = leb-false (above behind x) y f in
          omega (arith, end_kept begin, end_kept behind, more (omega arith))

-- from 2 ^ 32 on nothing is added
pub edges-past : (fuel : ℕ) (ns : List (ℕ × ℕ)) (print : ℕ → ℕ) (found : List ℕ) (x : ℕ) → 2 ^ 32 ≤ x → adding_edges fuel ns print found x ≡ found
edges-past zero ns print found x h = refl
edges-past (suc fuel) ns print found x h = rw (le-ltb x (2 ^ 32) h)

-- enough steps for the ends above an address, and more, are the same
pub edges-enough : (f g : ℕ) (ns : List (ℕ × ℕ)) (print : ℕ → ℕ) (found : List ℕ) (x : ℕ) → ends_above ns x < f → ends_above ns x < g
    → adding_edges f ns print found x ≡ adding_edges g ns print found x
edges-enough zero g ns print found x hf hg = absurd (omega arith)
edges-enough (suc f) zero ns print found x hf hg = absurd (omega arith)
edges-enough (suc f) (suc g) ns print found x hf hg =
    by (ltb x (2 ^ 32)) refl (edges-enough f g ns print (adding print found x) (next_edge ns x))
  where
    more : List ℕ
    more = adding print found x

    next : ℕ
    next = next_edge ns x

    by : (t : Bool) → ltb x (2 ^ 32) ≡ t
        → (ends_above ns next < f → ends_above ns next < g → adding_edges f ns print more next ≡ adding_edges g ns print more next)
        → pick t (adding_edges f ns print more next) found ≡ pick t (adding_edges g ns print more next) found
    by true e rest = at (ltb next (2 ^ 32)) refl
      where
        at : (u : Bool) → ltb next (2 ^ 32) ≡ u → adding_edges f ns print more next ≡ adding_edges g ns print more next
        at true l =
            let fall = ends-fall x next (next-edge-above ns x (ltb-true x (2 ^ 32) e)) (ltb-true next (2 ^ 32) l) ns (omega arith) in
            rest (omega arith) (omega arith)
        at false l =
            let end = ltb-false next (2 ^ 32) l in
            edges-past f ns print more next end ∙ sym (edges-past g ns print more next end)
    by false e rest = refl

-- the steps that are enough for all networks, from any address
pub edges-all : (fuel : ℕ) (ns : List (ℕ × ℕ)) (print : ℕ → ℕ) (found : List ℕ) (x : ℕ) → 2 * length ns + 1 ≤ fuel
    → adding_edges fuel ns print found x ≡ adding_edges (2 * length ns + 1) ns print found x
edges-all fuel ns print found x h =
    let few = ends-few ns x in
    edges-enough fuel (2 * length ns + 1) ns print found x (omega arith) (omega arith)

-- one address: what is left to gather from x is what is left from the next edge, with x looked at
pub edges-on : (ns : List (ℕ × ℕ)) (print : ℕ → ℕ) (found : List ℕ) (x : ℕ) → x < 2 ^ 32
    → adding_edges (2 * length ns + 1) ns print found x ≡ adding_edges (2 * length ns + 1) ns print (adding print found x) (next_edge ns x)
edges-on ns print found x h =
    sym (edges-all (suc (2 * length ns + 1)) ns print found x (omega arith)) ∙ rw (lt-ltb x (2 ^ 32) h)

-- how many are gathered: at most one for each step, and never none
pub edges_few : (fuel : ℕ) (ns : List (ℕ × ℕ)) (print : ℕ → ℕ) (found : List ℕ) (x : ℕ)
    → length (adding_edges fuel ns print found x) ≤ length found + fuel
edges_few zero ns print found x = omega arith
edges_few (suc fuel) ns print found x = by (ltb x (2 ^ 32)) (edges_few fuel ns print (adding print found x) (next_edge ns x))
  where
    by : (t : Bool) → length (adding_edges fuel ns print (adding print found x) (next_edge ns x)) ≤ length (adding print found x) + fuel
        → length (pick t (adding_edges fuel ns print (adding print found x) (next_edge ns x)) found) ≤ length found + suc fuel
    by true h = omega (arith, adding-few print found x)
    by false h = omega arith

pub edges_some : (fuel : ℕ) (ns : List (ℕ × ℕ)) (print : ℕ → ℕ) (found : List ℕ) (x : ℕ) → 0 < length found
    → 0 < length (adding_edges fuel ns print found x)
edges_some zero ns print found x h = h
edges_some (suc fuel) ns print found x h =
    by (ltb x (2 ^ 32)) (edges_some fuel ns print (adding print found x) (next_edge ns x) (adding-some print found x))
  where
    by : (t : Bool) → 0 < length (adding_edges fuel ns print (adding print found x) (next_edge ns x))
        → 0 < length (pick t (adding_edges fuel ns print (adding print found x) (next_edge ns x)) found)
    by true more = more
    by false more = h

-- addresses between two edges are alike
pub alike-between : (x y : ℕ) → x ≤ y → (first second : List Statement) → y < next_edge (networks_in (first ++ second)) x
    → Alike first second 7 (number y) (number x)
unfolding footprint
alike-between x y up first second h = between-edges x y up (first ++ second) h
