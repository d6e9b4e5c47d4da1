-- Where all rows left are in every footprint of the columns ahead, all kinds there have the same rows, and so the same verdict.
use Rattle.std.proofs.Common.{ℕ, zero, suc, ◌+◌, ◌-◌, ◌*◌, ◌/◌, ◌%◌, ◌^◌, ◌<◌, ◌≤◌, ◌≡◌, refl, sym, ◌∙◌, ap, ap₂, Bool, true, false, ◌||◌, List, [], ◌∷◌, map, suc-mul, mul_assoc, mul-add, mul_comm, mod-eq_of_lt, div-add-mod', add-one, arith, bit_and, eqb, ltb, length, get_or, set, length-set, get_or-set_same, get_or-set_other, eqb-true, ltb-true, ltb-false}
use Rattle.std.proofs.Math.Nat.{mul-add-mod_self_right}
use Rattle.std.specs.Int.Bits.{and_comm, and_le_r}
use Rattle.judging.specs.Machinery.Rows.{bit_of}
use Rattle.comparing.specs.Compared.{product, most_kinds}
use Rattle.comparing.specs.Machinery.Kinds.{is_gap_rows, total, count_of, meet_all, meet_of, is_settled, prints_from, prints_in, Bounded, kinds_from, KindsAhead}
use Rattle.comparing.specs.declared.kinds.Footprints.{Footprints}
use Rattle.comparing.specs.declared.sides.Sides.{Sides}
use Rattle.comparing.proofs.kinds.GapRows.{and-loses, no_gap, shortcut}
use Rattle.comparing.proofs.kinds.KindsInWords.{prints-length, next-bound, gaps_behind}

-- rows that are in a meet of two sets are in both
in-first : (rows x y : ℕ) → bit_and rows (bit_and x y) ≡ rows → bit_and rows x ≡ rows
in-first rows x y e =
    let turned : bit_and (bit_and x y) rows ≡ rows = and_comm (bit_and x y) rows ∙ e in
    let more = and-loses x y rows in
    let most = and_le_r x rows in
    let both : bit_and x rows ≡ rows = omega arith in
    and_comm rows x ∙ both

in-second : (rows x y : ℕ) → bit_and rows (bit_and x y) ≡ rows → bit_and rows y ≡ rows
in-second rows x y e = in-first rows y x (ap (bit_and rows) (and_comm y x) ∙ e)

-- rows that are in all of some footprints
abbrev InAll : ℕ → List ℕ → Type 0
InAll rows [] = Unit {0}
InAll rows (f ∷ prints) = (bit_and rows f ≡ rows) × InAll rows prints

in_meet : (rows meet : ℕ) (prints : List ℕ) → bit_and rows (meet_all meet prints) ≡ rows → (bit_and rows meet ≡ rows) × InAll rows prints
in_meet rows meet [] e = (e, tt)
in_meet rows meet (f ∷ prints) e =
    let more = in_meet rows (bit_and meet f) prints e in
    (in-first rows meet f more.0, (in-second rows meet f more.0, more.1))

-- each footprint leaves all of them
same-part : (part : ℕ → ℕ) (rows : ℕ) (prints : List ℕ) → InAll rows prints
    → total (λ f. part (bit_and rows f)) prints ≡ length prints * part rows
same-part part rows [] all = omega arith
same-part part rows (f ∷ prints) all =
    let here : part (bit_and rows f) ≡ part rows = ap part all.0 in
    let more = same-part part rows prints all.1 in
    omega (arith, suc-mul (length prints) (part rows))

at_once : (sides : Sides) (lists : List (List ℕ)) (rows : ℕ) → bit_and rows (meet_of lists) ≡ rows
    → count_of sides lists rows ≡ product (map length lists) * bit_of (is_gap_rows sides rows)
at_once sides [] rows e = omega arith
at_once sides (prints ∷ lists) rows e =
    let in_both = in_meet rows (meet_of lists) prints e in
    same-part (count_of sides lists) rows prints in_both.1
    ∙ ap (λ (n : ℕ). length prints * n) (at_once sides lists rows in_both.0)
    ∙ sym (mul_assoc (length prints) (product (map length lists)) (bit_of (is_gap_rows sides rows)))

pub none_of : (n : ℕ) → n * 0 ≡ 0
none_of n = omega arith

-- a settled branch has as many gaps as kinds, or none
pub settled-once : (sides : Sides) (lists : List (List ℕ)) (rows meet : ℕ) → meet ≡ meet_of lists → is_settled sides meet rows ≡ true
    → count_of sides lists rows ≡ product (map length lists) * bit_of (is_gap_rows sides rows)
settled-once sides lists rows meet m e = by (eqb (bit_and (rows % 2 ^ sides.size) sides.allow) 0) refl e
  where
    by : (t : Bool) → eqb (bit_and (rows % 2 ^ sides.size) sides.allow) 0 ≡ t → (t || eqb (bit_and rows meet) rows) ≡ true
        → count_of sides lists rows ≡ product (map length lists) * bit_of (is_gap_rows sides rows)
    by true none e =
        let no = eqb-true (bit_and (rows % 2 ^ sides.size) sides.allow) 0 none in
        shortcut sides lists rows no
        ∙ sym (ap (λ (t : Bool). product (map length lists) * bit_of t) (no_gap sides rows no) ∙ none_of (product (map length lists)))
    by false none e = at_once sides lists rows (ap (bit_and rows) (sym m) ∙ eqb-true (bit_and rows meet) rows e)

-- a remainder may be taken before a product
pub times-remainder : (a b m : ℕ) → a * (b % m) % m ≡ a * b % m
times-remainder a b m =
    sym (ap (λ (n : ℕ). n % m) (sym (ap (a *◌) (div-add-mod' b m)) ∙ mul-add a (b / m * m) (b % m) ∙ ap (λ (n : ℕ). n + a * (b % m)) (sym (mul_assoc a (b / m) m)))
    ∙ mul-add-mod_self_right (a * (b / m)) m (a * (b % m)))

pub remainder-times : (a b m : ℕ) → a % m * b % m ≡ a * b % m
remainder-times a b m =
    ap (λ (n : ℕ). n % m) (mul_comm (a % m) b) ∙ times-remainder b a m ∙ ap (λ (n : ℕ). n % m) (mul_comm b a)

-- the number of kinds is the product of the numbers of footprints
kinds-from : {words bounds : List ℕ} → Bounded words bounds → (n column : ℕ) → column + n ≡ 8
    → kinds_from n bounds column ≡ product (map length (prints_from n words bounds column))
kinds-from bounded zero column e = refl
kinds-from {words} {bounds} bounded (suc n) column e =
    let low : column < 8 = omega arith in
    ap₂ ◌*◌ (ap (λ (k : ℕ). k - get_or bounds column 0) (sym (next-bound words bounds column low)) ∙ sym (prints-length bounded column low))
    (kinds-from bounded n (suc column) (omega arith))

pub kinds-ahead : {words bounds kinds : List ℕ} → Bounded words bounds → KindsAhead bounds kinds → (column : ℕ) → column ≤ 8
    → product (map length (prints_in words bounds column)) ≤ most_kinds
    → get_or kinds column 0 ≡ product (map length (prints_in words bounds column))
kinds-ahead {words} {bounds} bounded told column low few =
    let all = kinds-from bounded (8 - column) column (omega arith) in
    told.at column low
    ∙ mod-eq_of_lt {n = kinds_from (8 - column) bounds column} (omega arith)
    ∙ all

-- so what is counted at once for a footprint is the gaps behind it
pub settled-gaps : (f : Footprints) (column rows print n : ℕ) → column < 8
    → product (map length (prints_in f.words.now f.bounds (column + 1))) ≤ most_kinds
    → n ≡ get_or f.kinds (column + 1) 0 * bit_of (is_gap_rows f.sides (bit_and rows print))
    → is_settled f.sides (get_or f.meets (column + 1) 0) (bit_and rows print) ≡ true
    → n ≡ gaps_behind f.sides f.words.now f.bounds column rows print
settled-gaps f column rows print n low few is settled =
    is
    ∙ ap (λ (m : ℕ). m * bit_of (is_gap_rows f.sides (bit_and rows print))) (kinds-ahead f.bounded f.kinds_ahead (column + 1) (omega arith) few)
    ∙ sym (settled-once f.sides (prints_in f.words.now f.bounds (column + 1)) (bit_and rows print) (get_or f.meets (column + 1) 0)
    (f.meets_ahead.at (column + 1) (omega arith)) settled)

-- nine numbers that are right from a column on
abbrev pub RightFrom : (ℕ → ℕ) → List ℕ → ℕ → Type 0
RightFrom f found behind = (length found ≡ 9) × ((c : ℕ) → behind ≤ c → c ≤ 8 → get_or found c 0 ≡ f c)

-- one column more
pub right-more : (f : ℕ → ℕ) (found : List ℕ) (behind v : ℕ) → 0 < behind → behind ≤ 8 → RightFrom f found behind → v ≡ f (behind - 1)
    → RightFrom f (set found (behind - 1) v) (behind - 1)
right-more f found behind v some low right e =
    (length-set found (behind - 1) v ∙ right.0, λ c from to. by c from to (ltb c behind) refl)
  where
    by : (c : ℕ) → behind - 1 ≤ c → c ≤ 8 → (t : Bool) → ltb c behind ≡ t → get_or (set found (behind - 1) v) c 0 ≡ f c
    by c from to true under =
        let low = ltb-true c behind under in
        let here : c ≡ behind - 1 = omega arith in
        ap (λ (n : ℕ). get_or (set found (behind - 1) v) n 0) here
        ∙ get_or-set_same found (behind - 1) v 0 (omega (arith, right.0))
        ∙ e
        ∙ sym (ap f here)
    by c from to false past =
        let high = ltb-false c behind past in
        get_or-set_other found (behind - 1) c v 0 (λ w. omega arith) ∙ right.1 c high to

-- the number of kinds from a column on, by that from the next one on
abbrev pub kinds_on : List ℕ → ℕ → ℕ
kinds_on bounds column = kinds_from (8 - column) bounds column % 2 ^ 32

pub kinds-step : (bounds : List ℕ) (column : ℕ) → column < 8
    → kinds_on bounds column ≡ (get_or bounds (column + 1) 0 - get_or bounds column 0) * kinds_on bounds (column + 1) % 2 ^ 32
kinds-step bounds column low =
    let less : 8 - column ≡ suc (8 - suc column) = omega arith in
    ap (λ (n : ℕ). kinds_from n bounds column % 2 ^ 32) less
    ∙ sym (times-remainder (get_or bounds (suc column) 0 - get_or bounds column 0) (kinds_from (8 - suc column) bounds (suc column)) (2 ^ 32))
    ∙ sym (ap (λ (n : ℕ). (get_or bounds n 0 - get_or bounds column 0) * kinds_on bounds n % 2 ^ 32) (add-one column))
