-- What the two questions answer once both tables were accepted and their columns surveyed.
use Rattle.std.proofs.Common.{ℕ, suc, ◌+◌, ◌-◌, ◌^◌, ◌≤◌, ◌<◌, ◌≡◌, refl, sym, ◌∙◌, ap, ap₂, subst, List, [], ◌∷◌, ◌++◌, map, inr, length, lt-ltb, le-ltb}
use Rattle.std.proofs.Math.ListN.{length-map}
use Rattle.stored.specs.Reading.{reading}
use Rattle.stored.specs.Tables.{Statement}
use Rattle.judging.specs.Requests.{Value, columns}
use Rattle.judging.specs.Judging.{rows_of}
use Rattle.comparing.specs.Gaps.{Counted}
use Rattle.comparing.specs.Compared.{most_kinds, first_wide, product, FromWidths, FromTables, IsAnswer}
use Rattle.comparing.specs.Outcomes.{IsTable}
use Rattle.comparing.specs.Machinery.Kinds.{count_of, prints_in, prints_along, path_of}
use Rattle.comparing.specs.Machinery.Product.{prints_from, SidesOf, values_at}
use Rattle.comparing.specs.Machinery.ShownValues.{RequestWith, LaysGap}
use Rattle.comparing.specs.Machinery.Survey.{Listed}
use Rattle.comparing.specs.Answers.{Shape, Showing as S, as_shape}
use Rattle.comparing.specs.declared.answers.Shape.{Shape as Told}
use Rattle.comparing.specs.declared.sides.Sides.{Sides}
use Rattle.comparing.proofs.show.AlongPath.{gap-request}
use Rattle.comparing.proofs.kinds.Product.{counts-from}
use Rattle.comparing.proofs.kinds.Counting as counting

module _ {R : Type 0} (no : ℕ → ℕ → ℕ → R) (Yes : List Statement → List Statement → R → Type 0) (first second : List Statement) (r : R) where
  -- no refusal up to 12
  pub answer-yes : columns ≤ first_wide (first ++ second) → (words bounds : List ℕ) → Listed first second words bounds → Yes first second r
      → FromWidths no Yes first second r
  answer-yes narrow words bounds l y =
      rw (le-ltb (first_wide (first ++ second)) columns narrow)
      (inr (l.uncrowded, (map length l.lists, counts-from first second 0 l.lists l.firsts, rw (le-ltb most_kinds (product (map length l.lists)) l.few) y)))

module _ {R : Type 0} (no : ℕ → ℕ → ℕ → R) (Yes : List Statement → List Statement → R → Type 0) (a b : List ℕ) (r : R) where
  -- both tables were accepted, as a struct holds them
  pub answer-tables : (x y : List ℕ) → x ≡ a → y ≡ b → IsTable x → IsTable y → FromWidths no Yes (rows_of x) (rows_of y) r
      → FromTables no Yes (reading a) (reading b) (rows_of a) (rows_of b) r
  answer-tables x y e f (m, one) (n, two) h =
      subst (λ (l : List ℕ). FromTables no Yes (reading a) (reading l) (rows_of a) (rows_of l) r) f
      (subst (λ (l : List ℕ). FromTables no Yes (reading l) (reading y) (rows_of l) (rows_of y) r) e (rw (one, two) h))

prints-sizes : (first second : List Statement) (column : ℕ) (lists : List (List Value)) → map length (prints_from first second column lists) ≡ map length lists
prints-sizes first second column [] = refl
prints-sizes first second column (list ∷ lists) = ap₂ ◌∷◌ (length-map list _) (prints-sizes first second (suc column) lists)

-- what counting asks
pub within-kinds : (first second : List Statement) (words bounds : List ℕ) → Listed first second words bounds
    → product (map length (prints_in words bounds 0)) ≤ most_kinds
within-kinds first second words bounds l =
    subst (λ (n : List ℕ). product n ≤ most_kinds) (sym (ap (map length) l.prints ∙ prints-sizes first second 0 l.lists)) l.few

module _ (first second : List Statement) (sides : Sides) (told : SidesOf first second sides) (words bounds : List ℕ) (l : Listed first second words bounds) where
  module _ (few : length first + length second ≤ 64) where
    -- the footprints laid down count the gaps
    pub counts-gaps : Counted first second (count_of sides (prints_in words bounds 0) (2 ^ 64 - 1))
    counts-gaps =
        subst (λ (p : List (List ℕ)). Counted first second (count_of sides p (2 ^ 64 - 1))) (sym l.prints)
        (counting.counted first second sides told few l.lists l.firsts)

    module _ (k : ℕ) (low : k < count_of sides (prints_in words bounds 0) (2 ^ 64 - 1)) where
      within : k < count_of sides (prints_from first second 0 l.lists) (2 ^ 64 - 1)
      within = subst (λ (p : List (List ℕ)). k < count_of sides p (2 ^ 64 - 1)) l.prints low

      abbrev request : List Value
      request = values_at l.lists (path_of sides (prints_from first second 0 l.lists) (2 ^ 64 - 1) k)

      -- gap k has the footprints found along its path
      with-prints : (prints : List ℕ) → prints ≡ prints_along sides (prints_in words bounds 0) (2 ^ 64 - 1) k
          → RequestWith first second prints request
      with-prints prints e =
          subst (λ (p : List ℕ). RequestWith first second p request)
          (sym (e ∙ ap (λ (p : List (List ℕ)). prints_along sides p (2 ^ 64 - 1) k) l.prints))
          (gap-request first second sides told few l.lists l.firsts k within)

      pub shows-gap : (prints : List ℕ) → prints ≡ prints_along sides (prints_in words bounds 0) (2 ^ 64 - 1) k
          → (r : List Value) × RequestWith first second prints r
      shows-gap prints e = (request, with-prints prints e)

      -- and its values are the answer
      pub answer-shown : (prints : List ℕ) → prints ≡ prints_along sides (prints_in words bounds 0) (2 ^ 64 - 1) k
          → (buffer after : List ℕ) (shape : Told) → LaysGap first second prints buffer after shape
          → IsAnswer k buffer first second (S.Shown (as_shape shape), after)
      answer-shown prints e buffer after shape lays =
          let gap = lays request (with-prints prints e) in (
            count_of sides (prints_in words bounds 0) (2 ^ 64 - 1),
            counts-gaps,
            rw (lt-ltb k (count_of sides (prints_in words bounds 0) (2 ^ 64 - 1)) low) (
              request,
              counting.found first second sides told few l.lists l.firsts k within,
              rw gap.short (ap₂ (λ (s : Shape) (b : List ℕ). (S.Shown s, b)) gap.shape gap.bytes),
            ),
          )

    -- 13
    pub answer-none : (k : ℕ) → count_of sides (prints_in words bounds 0) (2 ^ 64 - 1) ≤ k → (buffer : List ℕ)
        → IsAnswer k buffer first second (S.Refused 13 0 0, buffer)
    answer-none k high buffer =
        (count_of sides (prints_in words bounds 0) (2 ^ 64 - 1), counts-gaps, rw (le-ltb k (count_of sides (prints_in words bounds 0) (2 ^ 64 - 1)) high) refl)
