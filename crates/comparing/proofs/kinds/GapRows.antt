-- Gaps by sets of rows are gaps by statements: of a word of both tables' rows the low bits are the first table's and the high bits the
-- second's, and a table allows where some row is left and all that are left allow.
use Rattle.std.proofs.Common.{ℕ, suc, ◌+◌, ◌*◌, ◌/◌, ◌%◌, ◌^◌, ◌<◌, ◌≤◌, ◌≡◌, refl, sym, ◌∙◌, ap, ap₂, Bool, true, false, not, ◌&&◌, ◌||◌, List, [], ◌∷◌, ◌++◌, map, mul_comm, add_comm, arith, bit_and, eqb, length, ne_eqb}
use Rattle.std.proofs.Math.Bool.{and_comm}
use Rattle.std.proofs.Math.Arith.{bin_ind}
use Rattle.std.specs.Int.Bits.{and_step, and_shr, and_mod, and_zero_l}
use Rattle.std.proofs.Math.ListN.{length-map}
use Rattle.std.proofs.Math.Pow.{low, high}
use borrow.Author.Tests.{eqb-false}
use Rattle.stored.specs.Choice.{some}
use Rattle.stored.specs.Tables.{Statement}
use Rattle.judging.specs.Requests.{Value}
use Rattle.judging.specs.Meaning.{is_allow}
use Rattle.judging.specs.Machinery.Rows.{bit_of, rows_word}
use Rattle.judging.proofs.RowSets.{below, none, all_of, joined, some-split}
use Rattle.comparing.specs.Compared.{product}
use Rattle.comparing.specs.Machinery.Kinds.{allowed_rows, is_gap_rows, count_of}
use Rattle.comparing.specs.Machinery.Product.{print_of, prints_from, SidesOf}
use Rattle.comparing.specs.declared.sides.Sides.{Sides}
use Rattle.comparing.proofs.Members.{some_same}
use Rattle.comparing.proofs.kinds.Sums.{total-none, total-most}

-- some of the rows that pass allow, and none denies
abbrev pub allows_by : (Statement → Bool) → List Statement → Bool
allows_by p rows = some (λ s. is_allow s.effect && p s) rows && not (some (λ s. not (is_allow s.effect) && p s) rows)

-- the same, of the rows as words
pub allowed-rows : (p : Statement → Bool) (rows : List Statement)
    → allowed_rows (rows_word p rows) (rows_word (λ s. is_allow s.effect) rows) ≡ allows_by p rows
allowed-rows p rows =
    ap₂ (λ (t u : Bool). t && not u)
    (all_of p allow rows
    ∙ ap not (some_same (λ s. p s && not (allow s)) (λ s. not (allow s) && p s) rows (λ s i. and_comm (p s) (not (allow s)))))
    (none p rows ∙ ap not (some-split p allow rows))
    ∙ by (some (λ s. not (allow s) && p s) rows) (some (λ s. allow s && p s) rows)
  where
    allow : Statement → Bool
    allow s = is_allow s.effect

    by : (d a : Bool) → (not d && not (not (d || a))) ≡ (a && not d)
    by true true = refl
    by true false = refl
    by false true = refl
    by false false = refl

-- the rows of both tables in one word
module _ (p : Statement → Bool) (first second : List Statement) where
  turned : rows_word p (first ++ second) ≡ rows_word p second * 2 ^ length first + rows_word p first
  turned =
      joined p first second
      ∙ add_comm (rows_word p first) (2 ^ length first * rows_word p second)
      ∙ ap (λ (n : ℕ). n + rows_word p first) (mul_comm (2 ^ length first) (rows_word p second))

  fits : rows_word p first < 2 ^ length first
  fits = below p first (length first) (omega arith)

  low_rows : rows_word p (first ++ second) % 2 ^ length first ≡ rows_word p first
  low_rows = ap (λ (n : ℕ). n % 2 ^ length first) turned ∙ low (rows_word p second) (length first) fits

  high-rows : rows_word p (first ++ second) / 2 ^ length first ≡ rows_word p second
  high-rows = ap (λ (n : ℕ). n / 2 ^ length first) turned ∙ high (rows_word p second) (length first) fits

-- the first table allows by the rows that pass, and the second does not
abbrev pub only_first_by : List Statement → List Statement → (Statement → Bool) → Bool
only_first_by first second p = allows_by p first && not (allows_by p second)

pub gap-rows : (first second : List Statement) (sides : Sides) → SidesOf first second sides → (p : Statement → Bool)
    → is_gap_rows sides (rows_word p (first ++ second)) ≡ only_first_by first second p
gap-rows first second sides told p =
    ap₂ (λ (t u : Bool). t && not u)
    (ap₂ allowed_rows (ap (λ (n : ℕ). rows_word p (first ++ second) % 2 ^ n) told.size ∙ low_rows p first second) told.allow ∙ allowed-rows p first)
    (ap₂ allowed_rows (ap (λ (n : ℕ). rows_word p (first ++ second) / 2 ^ n) told.size ∙ high-rows p first second) told.other ∙ allowed-rows p second)

-- a meet only loses rows
pub and-loses : (x y z : ℕ) → bit_and (bit_and x y) z ≤ bit_and x z
and-loses = bin_ind (λ (x : ℕ). (y z : ℕ) → bit_and (bit_and x y) z ≤ bit_and x z) base step
  where
    base : (y z : ℕ) → bit_and (bit_and 0 y) z ≤ bit_and 0 z
    base y z =
        let e : bit_and (bit_and 0 y) z ≡ 0 = ap (λ (n : ℕ). bit_and n z) (and_zero_l y) ∙ and_zero_l z in
        omega arith

    step : (x : ℕ) → ((y z : ℕ) → bit_and (bit_and (x / 2) y) z ≤ bit_and (x / 2) z) → (y z : ℕ) → bit_and (bit_and x y) z ≤ bit_and x z
    step x more y z =
        let half : bit_and (bit_and x y / 2) (z / 2) ≡ bit_and (bit_and (x / 2) (y / 2)) (z / 2) = ap (λ (n : ℕ). bit_and n (z / 2)) (and_shr x y 1) in
        let here = and_step x y in
        let left = and_step (bit_and x y) z in
        let right = and_step x z in
        let rest = more (y / 2) (z / 2) in
        omega arith

pub none_left : (x y z : ℕ) → bit_and x z ≡ 0 → bit_and (bit_and x y) z ≡ 0
none_left x y z e = omega (arith, and-loses x y z)

-- where no allow row of the first table is left there is no gap
pub no_gap : (sides : Sides) (rows : ℕ) → bit_and (rows % 2 ^ sides.size) sides.allow ≡ 0 → is_gap_rows sides rows ≡ false
no_gap sides rows e =
    ap (λ (n : ℕ). (eqb n left && not (eqb left 0)) && not (allowed_rows (rows / 2 ^ sides.size) sides.other)) e
    ∙ ap (λ (t : Bool). t && not (allowed_rows (rows / 2 ^ sides.size) sides.other)) (by (eqb left 0) refl)
  where
    left : ℕ
    left = rows % 2 ^ sides.size

    by : (t : Bool) → eqb left 0 ≡ t → (eqb 0 left && not t) ≡ false
    by true f = last (eqb 0 left)
      where
        last : (t : Bool) → (t && false) ≡ false
        last true = refl
        last false = refl
    by false f = ap (λ (t : Bool). t && true) (ne_eqb 0 left (λ e. eqb-false left 0 f (sym e)))

-- the shortcut: such a branch counts 0, whatever the footprints of the columns left
pub shortcut : (sides : Sides) (prints : List (List ℕ)) (rows : ℕ)
    → bit_and (rows % 2 ^ sides.size) sides.allow ≡ 0 → count_of sides prints rows ≡ 0
shortcut sides [] rows e = ap bit_of (no_gap sides rows e)
shortcut sides (p ∷ prints) rows e =
    total-none (λ (f : ℕ). count_of sides prints (bit_and rows f)) p
    (λ f. shortcut sides prints (bit_and rows f)
    (ap (λ (n : ℕ). bit_and n sides.allow) (and_mod rows f sides.size)
    ∙ none_left (rows % 2 ^ sides.size) (f % 2 ^ sides.size) sides.allow e))

-- there are at most as many gaps as kinds
pub count_most : (sides : Sides) (prints : List (List ℕ)) (rows : ℕ) → count_of sides prints rows ≤ product (map length prints)
count_most sides [] rows = by (is_gap_rows sides rows)
  where
    by : (t : Bool) → bit_of t ≤ 1
    by true = omega arith
    by false = omega arith
count_most sides (p ∷ prints) rows =
    total-most (λ (f : ℕ). count_of sides prints (bit_and rows f)) (product (map length prints)) p (λ f. count_most sides prints (bit_and rows f))

-- a column has as many footprints as values
pub prints-lengths : (first second : List Statement) (column : ℕ) (lists : List (List Value))
    → map length (prints_from first second column lists) ≡ map length lists
prints-lengths first second column [] = refl
prints-lengths first second column (list ∷ lists) =
    ap₂ ◌∷◌ (length-map list (print_of first second column)) (prints-lengths first second (suc column) lists)
