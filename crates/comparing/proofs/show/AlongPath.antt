-- The footprints found on the way to gap k are those of its values, and each of its values is the first of its column.
use Rattle.std.proofs.Common.{ℕ, zero, suc, ◌+◌, ◌-◌, ◌^◌, ◌≤◌, ◌<◌, ◌≡◌, refl, sym, ap₂, subst, List, [], ◌∷◌, map, arith, bit_and, length, get_or}
use Rattle.stored.specs.Tables.{Statement}
use Rattle.judging.specs.Requests.{Value, absent, columns, column_of}
use Rattle.comparing.specs.Requests.{Each}
use Rattle.comparing.specs.Gaps.{FirstOf, IsGap}
use Rattle.comparing.specs.Machinery.Kinds.{count_of, steps_to, left_of, path_of, prints_along}
use Rattle.comparing.specs.Machinery.Product.{AllFirsts, print_of, prints_from, SidesOf, values_at, Inside}
use Rattle.comparing.specs.Machinery.ShownValues.{FirstWith, prints_of, RequestWith}
use Rattle.comparing.specs.declared.sides.Sides.{Sides}
use Rattle.comparing.proofs.Members.{in-at, mapped_at}
use Rattle.comparing.proofs.kinds.Product.{firsts-length}
use Rattle.comparing.proofs.kinds.Counting as counting

along-path : (first second : List Statement) (sides : Sides) (column : ℕ) (lists : List (List Value)) (rows k : ℕ)
    → Inside lists (path_of sides (prints_from first second column lists) rows k)
    → prints_along sides (prints_from first second column lists) rows k
    ≡ prints_of first second column (values_at lists (path_of sides (prints_from first second column lists) rows k))
along-path first second sides column [] rows k inside = refl
along-path first second sides column (list ∷ lists) rows k inside =
    ap₂ ◌∷◌ (mapped_at (print_of first second column) list (steps_to among (map (print_of first second column) list) k) absent 0 inside.0)
    (along-path first second sides (suc column) lists
    (bit_and rows (get_or (map (print_of first second column) list) (steps_to among (map (print_of first second column) list) k) 0))
    (left_of among (map (print_of first second column) list) k) inside.1)
  where
    among : ℕ → ℕ
    among f = count_of sides (prints_from first second (suc column) lists) (bit_and rows f)

-- gap k is a request of first values with the footprints along its path
pub gap-request : (first second : List Statement) (sides : Sides) → SidesOf first second sides → length first + length second ≤ 64
    → (lists : List (List Value)) → AllFirsts first second 0 lists → (k : ℕ) → k < count_of sides (prints_from first second 0 lists) (2 ^ 64 - 1)
    → RequestWith first second (prints_along sides (prints_from first second 0 lists) (2 ^ 64 - 1) k)
    (values_at lists (path_of sides (prints_from first second 0 lists) (2 ^ 64 - 1) k))
gap-request first second sides told few lists firsts k low =
    record {
      firsts =
          subst (λ (r : List Value). Each (FirstOf first second) 0 r) (sym gap.here) (gap.gaps.firsts (get_or gap.list k []) (in-at gap.list k [] gap.low));
      printed =
          along-path first second sides 0 lists (2 ^ 64 - 1) k
          (counting.path-shows first second sides told few lists (omega (arith, firsts-length first second 0 lists firsts)) k low).1;
    }
  where
    gap : IsGap first second k (values_at lists (path_of sides (prints_from first second 0 lists) (2 ^ 64 - 1) k))
    gap = counting.found first second sides told few lists firsts k low

module _ (first second : List Statement) where
  value-at : (request : List Value) (column i : ℕ) → Each (FirstOf first second) column request → column + i < columns
      → FirstWith first second (column + i) (get_or (prints_of first second column request) i 0) (column_of request i)
  value-at [] column i f low = absurd (omega arith)
  value-at (v ∷ request) column zero f low =
      subst (λ (c : ℕ). FirstWith first second c (print_of first second column v) v) {x = column} {y = column + 0} (omega arith)
      (record { least = f.0; printed = refl })
  value-at (v ∷ request) column (suc i) f low =
      subst (λ (c : ℕ). FirstWith first second c (get_or (prints_of first second (suc column) request) i 0) (column_of request i))
      {x = suc column + i} {y = column + suc i} (omega arith)
      (value-at request (suc column) i f.1 (omega arith))

  -- each value of such a request is the first of its column with its footprint
  pub first-at : (prints : List ℕ) (request : List Value) → RequestWith first second prints request → (i : ℕ) → i < columns
      → FirstWith first second i (get_or prints i 0) (column_of request i)
  first-at prints request w i low =
      subst (λ (p : List ℕ). FirstWith first second i (get_or p i 0) (column_of request i)) (sym w.printed)
      (subst (λ (c : ℕ). FirstWith first second c (get_or (prints_of first second 0 request) i 0) (column_of request i)) {x = 0 + i} {y = i} (omega arith)
      (value-at request 0 i w.firsts (omega arith)))
