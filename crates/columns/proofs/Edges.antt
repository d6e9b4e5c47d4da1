-- Between two edges of the networks nothing changes: from an address up to below the next end of a network, every statement holds in column
-- 7 as it does at the address.
use Rattle.std.proofs.Common.{ℕ, ◌+◌, ◌^◌, ◌≤◌, ◌<◌, min, ◌≡◌, refl, sym, ap, ap₂, ◌∙◌, Bool, true, false, ◌&&◌, ◌||◌, List, [], ◌∷◌, ◌++◌, map, arith, eqb, leb, ltb, ltb-true, ltb-false, le-leb, ne_eqb}
use borrow.Author.Tests.{lt-leb}
use Rattle.stored.specs.Choice.{pick, some, every}
use Rattle.stored.specs.Items.{column_place}
use Rattle.stored.specs.Operators.{row_of}
use Rattle.stored.specs.Tables.{Listed, Element, Condition, Statement}
use Rattle.matching.specs.declared.reading.Reading.{Reading}
use Rattle.matching.specs.Network.{agree}
use Rattle.matching.specs.Machinery.Ranges.{network_low, network_high}
use Rattle.matching.proofs.Networks.{in-range}
use Rattle.judging.specs.Requests.{Value, number}
use Rattle.judging.specs.Meaning.{listed_matches, sense, operator_reading, condition_holds, condition_column, element_in, condition_in, holds}
use Rattle.columns.specs.Values.{networks_of, condition_networks, networks_in}
use Rattle.columns.specs.Machinery.Edges.{above, next_edge}
use Rattle.columns.proofs.ColumnContents.{place-low}

-- an end above x is above x, and x is below what is taken for none
above-past : (end x : ℕ) → x < 2 ^ 32 → x < above end x
above-past end x h = by (ltb x end) refl
  where
    by : (t : Bool) → ltb x end ≡ t → x < pick t end (2 ^ 32)
    by true e = ltb-true x end e
    by false e = h

-- the next edge is at most 2 ^ 32
pub edge-high : (ns : List (ℕ × ℕ)) (x : ℕ) → next_edge ns x ≤ 2 ^ 32
edge-high [] x = omega arith
edge-high (n ∷ ns) x = omega (arith, edge-high ns x)

-- the next edge lies above an address
pub next-edge-above : (ns : List (ℕ × ℕ)) (x : ℕ) → x < 2 ^ 32 → x < next_edge ns x
next-edge-above [] x h = h
next-edge-above (n ∷ ns) x h =
    omega (arith, next-edge-above ns x h, above-past (network_low n.0 n.1) x h, above-past (network_high n.0 n.1 + 1) x h)

-- the next edge of both tables is the lower of the two
pub edge-append : (ms ns : List (ℕ × ℕ)) (x : ℕ) → next_edge (ms ++ ns) x ≡ min (next_edge ms x) (next_edge ns x)
edge-append [] ns x = omega (arith, edge-high ns x)
edge-append (m ∷ ms) ns x = omega (arith, edge-append ms ns x)

-- up to below the next edge

module _ (x y : ℕ) (up : x ≤ y) where
  low_same : (end : ℕ) → y < above end x → leb end y ≡ leb end x
  low_same end = by (ltb x end) refl
    where
      by : (t : Bool) → ltb x end ≡ t → y < pick t end (2 ^ 32) → leb end y ≡ leb end x
      by true e h = lt-leb end y h ∙ sym (lt-leb end x (ltb-true x end e))
      by false e h =
          let behind = ltb-false x end e in
          le-leb end y (omega arith) ∙ sym (le-leb end x behind)

  high_same : (end : ℕ) → y < above (end + 1) x → leb y end ≡ leb x end
  high_same end = by (ltb x (end + 1)) refl
    where
      by : (t : Bool) → ltb x (end + 1) ≡ t → y < pick t (end + 1) (2 ^ 32) → leb y end ≡ leb x end
      by true e h =
          let front = ltb-true x (end + 1) e in
          le-leb y end (omega arith) ∙ sym (le-leb x end (omega arith))
      by false e h =
          let behind = ltb-false x (end + 1) e in
          lt-leb y end (omega arith) ∙ sym (lt-leb x end (omega arith))

  network-same : (n l : ℕ) → y < above (network_low n l) x → y < above (network_high n l + 1) x → agree n y l ≡ agree n x l
  network-same n l low high =
      sym (in-range n y l) ∙ ap₂ ◌&&◌ (low_same (network_low n l) low) (high_same (network_high n l) high) ∙ in-range n x l

  list_same : (reading : Reading) (l : List Listed) → y < next_edge (networks_of l) x
      → some (listed_matches reading (number y)) l ≡ some (listed_matches reading (number x)) l
  list_same reading [] h = refl
  list_same reading (Listed.text v ∷ l) h = list_same reading l h
  list_same reading (Listed.range n k ∷ l) h =
      ap₂ ◌||◌ (network-same n k (omega arith) (omega arith)) (list_same reading l (omega arith))

  condition-same : (d : Condition) → y < next_edge (pick (eqb (condition_column d) 7) (networks_of d.values) []) x
      → condition_in 7 (number y) d ≡ condition_in 7 (number x) d
  condition-same d = by (eqb (condition_column d) 7)
    where
      by : (t : Bool) → y < next_edge (pick t (networks_of d.values) []) x
          → pick t (condition_holds (number y) d) true ≡ pick t (condition_holds (number x) d) true
      by true h = ap (sense (row_of d.operator).negated) (list_same (operator_reading d.operator) d.values h)
      by false h = refl

  conditions-same : (ds : List Condition) → y < next_edge (condition_networks ds) x
      → every (condition_in 7 (number y)) ds ≡ every (condition_in 7 (number x)) ds
  conditions-same [] h = refl
  conditions-same (d ∷ ds) h =
      let parts = edge-append (pick (eqb (condition_column d) 7) (networks_of d.values) []) (condition_networks ds) x in
      ap₂ ◌&&◌ (condition-same d (omega arith)) (conditions-same ds (omega arith))

  -- no element speaks of column 7
  elements-hold : (v : Value) (es : List Element) → every (element_in 7 v) es ≡ true
  elements-hold v [] = refl
  elements-hold v (e ∷ es) =
      let low = place-low e.name in
      rw (ne_eqb (column_place e.name) 7 (λ same. omega arith)) (elements-hold v es)

  -- a statement holds as it does at x, up to below the next edge of its own networks
  pub statement-between : (s : Statement) → y < next_edge (condition_networks s.conditions) x → holds 7 (number y) s ≡ holds 7 (number x) s
  unfolding holds
  statement-between s h =
      ap₂ ◌&&◌ (elements-hold (number y) s.elements ∙ sym (elements-hold (number x) s.elements)) (conditions-same s.conditions h)

  -- and every statement does, up to below the next edge of all networks
  pub between-edges : (rows : List Statement) → y < next_edge (networks_in rows) x → map (holds 7 (number y)) rows ≡ map (holds 7 (number x)) rows
  between-edges [] h = refl
  between-edges (s ∷ rows) h =
      let parts = edge-append (condition_networks s.conditions) (networks_in rows) x in
      ap₂ ◌∷◌ (statement-between s (omega arith)) (between-edges rows (omega arith))
