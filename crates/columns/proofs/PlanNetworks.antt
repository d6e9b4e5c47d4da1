-- The networks of column 7 in its plan: a word holds the address and the bits behind the prefix, and the least end of a network above an address
-- can be read off the plan.
use Rattle.std.proofs.Common.{ℕ, ◌+◌, ◌-◌, ◌*◌, ◌/◌, ◌%◌, ◌^◌, ◌≤◌, min, ◌≡◌, refl, ap, ap₂, ◌∙◌, Bool, true, false, List, [], ◌∷◌, arith, eqb, length, pow_pos, le-ltb}
use Rattle.stored.specs.Items.{column_place, column_negated, key_code}
use Rattle.stored.specs.Operators.{row_of}
use Rattle.stored.specs.Entries.{Entry}
use Rattle.stored.specs.Machinery.Following.{Accepted}
use Rattle.stored.specs.Tables.{table_of}
use Rattle.matching.specs.Machinery.Ranges.{network_low, network_high}
use Rattle.matching.specs.declared.reading.Reading.{Reading}
use Rattle.matching.specs.declared.reading.Reading.TheVariants as R
use Rattle.judging.specs.Meaning.{element_reading, operator_reading}
use Rattle.columns.specs.Values.{networks_in}
use Rattle.columns.specs.Machinery.Contents.{networks, contents_from}
use Rattle.columns.specs.Machinery.Edges.{above, next_edge}
use Rattle.columns.specs.Machinery.Plan.{list_word, with_word, plan_from, plan_of, edge_of, edge_in}
use Rattle.columns.proofs.ColumnContents.{walk-contents, networks-in}

-- the address and the bits behind the prefix
pub network-address : (a n : ℕ) → (a * 64 + (32 - n)) / 64 ≡ a
network-address a n = omega arith

pub network-bits : (a n : ℕ) → (a * 64 + (32 - n)) % 64 ≡ 32 - n
network-bits a n = omega arith

-- the ends of a network
network-edge : (a n x : ℕ) → edge_of (a * 64 + (32 - n)) x ≡ min (above (network_low a n) x) (above (network_high a n + 1) x)
network-edge a n x =
    ap₂ (λ (m k : ℕ). min (above (m / 2 ^ k * 2 ^ k) x) (above (m / 2 ^ k * 2 ^ k + 2 ^ k) x)) (network-address a n) (network-bits a n)
    ∙ ap (λ (end : ℕ). min (above (network_low a n) x) (above end x)) {x = network_low a n + 2 ^ (32 - n)} {y = network_high a n + 1} (omega (arith, pow_pos (32 - n)))

module _ (x : ℕ) where
  pub edge-most : (plan : List ℕ) → edge_in plan x ≤ 2 ^ 32
  edge-most [] = omega arith
  edge-most (word ∷ plan) = omega (arith, edge-most plan)

  -- a word that is no network
  list-passed : (here negated : Bool) (plan : List ℕ) → edge_in (with_word here (list_word negated) plan) x ≡ edge_in plan x
  list-passed true true plan = omega (arith, edge-most plan)
  list-passed true false plan = omega (arith, edge-most plan)
  list-passed false negated plan = refl

  network-found : (a n : ℕ) (plan : List ℕ)
      → edge_in ((4 + (a * 64 + (32 - n))) ∷ plan) x ≡ min (min (above (network_low a n) x) (above (network_high a n + 1) x)) (edge_in plan x)
  network-found a n plan =
      rw (le-ltb (4 + (a * 64 + (32 - n))) 4 (omega arith))
      (ap (λ (q : ℕ). min (edge_of q x) (edge_in plan x)) {x = 4 + (a * 64 + (32 - n)) - 4} {y = a * 64 + (32 - n)} (omega arith)
      ∙ ap (λ (m : ℕ). min m (edge_in plan x)) (network-edge a n x))

  edges : (es : List Entry) (here : Bool) (reading : Reading) (p : ℕ)
      → edge_in (plan_from 7 false here p es) x ≡ next_edge (networks (contents_from 7 here reading es)) x
  edges [] here reading p = refl
  edges (Entry.start n ∷ es) here reading p = edges es here reading p
  edges (Entry.statement e ∷ es) here reading p = omega (arith, edge-most (plan_from 7 false false p es)) ∙ edges es false reading p
  edges (Entry.column c ∷ es) here reading p =
      list-passed (eqb (column_place c) 7) (column_negated c) (plan_from 7 false (eqb (column_place c) 7) p es) ∙ edges es (eqb (column_place c) 7) (element_reading c) p
  edges (Entry.condition o k ∷ es) here reading p =
      list-passed (eqb (3 + key_code k) 7) (row_of o).negated (plan_from 7 false (eqb (3 + key_code k) 7) p es) ∙ edges es (eqb (3 + key_code k) 7) (operator_reading o) p
  edges (Entry.network a n ∷ es) true reading p =
      network-found a n (plan_from 7 false true p es)
      ∙ ap (min (min (above (network_low a n) x) (above (network_high a n + 1) x))) (edges es true reading p)
  edges (Entry.network a n ∷ es) false reading p = edges es false reading p
  edges (Entry.value bs ∷ es) true reading p = edges es true reading (p + (length bs + 1))
  edges (Entry.value bs ∷ es) false reading p = edges es false reading p
  edges (Entry.end ∷ es) here reading p = edges es here reading p

-- the least end above an address of the networks of an accepted table
pub plan-edge : (x from : ℕ) (es : List Entry) → Accepted es → edge_in (plan_of 7 false from es) x ≡ next_edge (networks_in (table_of es)) x
plan-edge x from es ok =
    edges x es false R.Literal from
    ∙ ap (λ (ns : List (ℕ × ℕ)). next_edge ns x) (ap networks (walk-contents 7 R.Literal es ok) ∙ networks-in (table_of es))
