-- Footprints in the workspace, from one bound to another: one after the other, one more behind them, and as the footprints of what was found.
use Rattle.std.proofs.Common.{ℕ, zero, suc, ◌+◌, ◌-◌, ◌≤◌, ◌≡◌, refl, sym, ap, ap₂, ◌∙◌, Bool, true, false, ◌||◌, List, [], ◌∷◌, ◌++◌, map, arith, eqb, length, take, drop, length-drop, length-take-le}
use Rattle.stored.specs.Choice.{pick, some}
use Rattle.states.specs.Machinery.Rows.{prints_at}
use Rattle.comparing.specs.Machinery.Adding.{adding, adding_rows}
use Rattle.comparing.specs.Machinery.Survey.{prints_between, add_print, Added}

-- none
pub prints-none : (words : List ℕ) (from : ℕ) → prints_between words from from ≡ []
prints-none words from = ap (λ (n : ℕ). take n (drop (prints_at + from) words)) {x = from - from} {y = 0} (omega arith)

-- how many
pub prints-length : (words : List ℕ) (from to : ℕ) → from ≤ to → prints_at + to ≤ length words → length (prints_between words from to) ≡ to - from
prints-length words from to low room =
    length-take-le (to - from) (drop (prints_at + from) words) (omega (arith, length-drop (prints_at + from) words))

-- one more footprint of what was found
module _ (print : ℕ → ℕ) where
  same_test : (p : ℕ) (found : List ℕ) → some (λ y. eqb y p) (map print found) ≡ some (λ y. eqb (print y) p) found
  same_test p [] = refl
  same_test p (x ∷ found) = ap (λ (t : Bool). eqb (print x) p || t) (same_test p found)

  map_more : (found : List ℕ) (x : ℕ) → map print found ++ (print x ∷ []) ≡ map print (found ++ (x ∷ []))
  map_more [] x = refl
  map_more (y ∷ found) x = ap (print y ∷◌) (map_more found x)

  pub adding-printed : (found : List ℕ) (x : ℕ) → add_print (map print found) (print x) ≡ map print (adding print found x)
  adding-printed found x =
      ap (λ (t : Bool). pick t (map print found) (map print found ++ (print x ∷ []))) (same_test (print x) found)
      ∙ by (some (λ y. eqb (print y) (print x)) found)
    where
      by : (t : Bool) → pick t (map print found) (map print found ++ (print x ∷ [])) ≡ map print (pick t found (found ++ (x ∷ [])))
      by true = refl
      by false = map_more found x

  -- one row more
  pub rows_more : (n row : ℕ) (found : List ℕ) → adding_rows print found row (suc n) ≡ adding print (adding_rows print found row n) (row + n)
  rows_more zero row found = ap (adding print found) {x = row} {y = row + 0} (omega arith)
  rows_more (suc n) row found =
      rows_more n (suc row) (adding print found row)
      ∙ ap (adding print (adding_rows print (adding print found row) (suc row) n)) {x = suc row + n} {y = row + suc n} (omega arith)

-- a footprint laid down is that of one row more
pub row-added : (print : ℕ → ℕ) (words after : List ℕ) (from to last row i p : ℕ) (found : List ℕ) → row ≤ i → p ≡ print i
    → prints_between words from to ≡ map print (adding_rows print found row (i - row)) → Added words after from to p last
    → prints_between after from last ≡ map print (adding_rows print found row (i + 1 - row))
row-added print words after from to last row i p found low is there added =
    added.prints
    ∙ ap₂ add_print there is
    ∙ adding-printed print (adding_rows print found row (i - row)) i
    ∙ ap (map print)
    (ap (adding print (adding_rows print found row (i - row))) {x = i} {y = row + (i - row)} (omega arith)
    ∙ sym (rows_more print (i - row) row found)
    ∙ ap (adding_rows print found row) {x = suc (i - row)} {y = i + 1 - row} (omega arith))
