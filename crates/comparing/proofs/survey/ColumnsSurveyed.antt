-- The columns one after the other: a list of first values for each of those so far, their product as far as it is counted, and their
-- footprints in the workspace as long as there are not too many kinds.
use Rattle.std.proofs.Common.{ℕ, zero, suc, ◌+◌, ◌-◌, ◌*◌, ◌≤◌, ◌<◌, min, ◌≡◌, refl, sym, ap, ap₂, ◌∙◌, subst, inr, Bool, true, false, List, [], ◌∷◌, ◌++◌, map, arith, ltb, length, get_or, take, drop, set, get_or-set_same, get_or-set_other, lt-ltb, le-ltb, ltb-true, ltb-false}
use Rattle.std.proofs.Math.Nat.{mul_assoc, mul-le-mul_left}
use Rattle.std.proofs.Math.ListN.{length-set}
use Rattle.std.proofs.Math.Seq.{drop-drop}
use Rattle.stored.specs.Choice.{pick}
use Rattle.stored.specs.Tables.{Statement}
use Rattle.judging.specs.Requests.{Value}
use Rattle.comparing.specs.Compared.{Uncrowded, product, most_kinds}
use Rattle.comparing.specs.Machinery.Kinds as kinds
use Rattle.states.specs.Machinery.Rows.{prints_at}
use Rattle.comparing.specs.Machinery.Kinds.{column_prints}
use Rattle.states.proofs.Parts.{part-kept}
use Rattle.states.proofs.Below.{below_next}
use Rattle.comparing.specs.Machinery.Product.{Firsts, AllFirsts, print_of, prints_from}
use Rattle.comparing.specs.Machinery.Survey.{prints_between, FewIn, Gathered, Listed}
use Rattle.comparing.specs.Answers.{Counting as C}
use Rattle.comparing.specs.Machinery.Refusing.{RefusesStates}
use Rattle.comparing.proofs.kinds.Product.{counts-from}
use Rattle.comparing.proofs.survey.Room.{Room, room-start, room-more, room_fits}

-- a property of each list, from a column up to another
abbrev Along : (ℕ → List Value → Type 0) → ℕ → ℕ → List (List Value) → Type 0
Along P end column [] = column ≡ end
Along P end column (list ∷ lists) = P column list × Along P end (suc column) lists

along-more : (P : ℕ → List Value → Type 0) (end column : ℕ) (lists : List (List Value)) (list : List Value) → Along P end column lists
    → P end list → Along P (suc end) column (lists ++ (list ∷ []))
along-more P end column [] list e h = (subst (λ (c : ℕ). P c list) (sym e) h, ap suc e)
along-more P end column (l ∷ lists) list a h = (a.0, along-more P end (suc column) lists list a.1 h)

along-low : (P : ℕ → List Value → Type 0) (end column : ℕ) (lists : List (List Value)) → Along P end column lists → column ≤ end
along-low P end column [] e = omega arith
along-low P end column (l ∷ lists) a = omega (arith, along-low P end (suc column) lists a.1)

along-same : (P Q : ℕ → List Value → Type 0) (end column : ℕ) (lists : List (List Value))
    → ((c : ℕ) (l : List Value) → c < end → P c l → Q c l) → Along P end column lists → Along Q end column lists
along-same P Q end column [] f e = e
along-same P Q end column (l ∷ lists) f a =
    (f column l (omega (arith, along-low P end (suc column) lists a.1)) a.0, along-same P Q end (suc column) lists f a.1)

product-more : (lists : List (List Value)) (list : List Value)
    → product (map length (lists ++ (list ∷ []))) ≡ product (map length lists) * length list
product-more [] list = omega arith
product-more (l ∷ lists) list =
    ap (λ (n : ℕ). length l * n) (product-more lists list) ∙ sym (mul_assoc (length l) (product (map length lists)) (length list))

-- a product is cut off where it passes the limit
capped : (p m : ℕ) → 0 < m → min (most_kinds + 1) (min (most_kinds + 1) p * m) ≡ min (most_kinds + 1) (p * m)
capped p m some = by (ltb most_kinds p) refl
  where
    by : (t : Bool) → ltb most_kinds p ≡ t → min (most_kinds + 1) (min (most_kinds + 1) p * m) ≡ min (most_kinds + 1) (p * m)
    by true e =
        let over = ltb-true most_kinds p e in
        let top : min (most_kinds + 1) p ≡ most_kinds + 1 = omega arith in
        ap (λ (n : ℕ). min (most_kinds + 1) (n * m)) top ∙ omega (arith, mul-le-mul_left {m = 1} {n = m} p some)
    by false e =
        let under = ltb-false most_kinds p e in
        let whole : min (most_kinds + 1) p ≡ p = omega arith in
        ap (λ (n : ℕ). min (most_kinds + 1) (n * m)) whole

-- footprints between bounds below which nothing changed
prints-kept : (words after : List ℕ) (from d e : ℕ) → take from (drop prints_at after) ≡ take from (drop prints_at words) → d ≤ e → e ≤ from
    → prints_between after d e ≡ prints_between words d e
prints-kept words after from d e kept low high =
    ap (take (e - d)) (sym (drop-drop d prints_at after))
    ∙ part-kept (drop prints_at after) (drop prints_at words) from d (e - d) kept (omega arith)
    ∙ ap (take (e - d)) (drop-drop d prints_at words)

-- the footprints of a column between its bounds
abbrev Printed : List Statement → List Statement → List ℕ → List ℕ → ℕ → List Value → Type 0
Printed first second words bounds column list = column_prints words bounds column ≡ map (print_of first second column) list

-- the columns below one were surveyed
pub record ColumnsUpto (first second : List Statement) (words bounds : List ℕ) (from count column : ℕ) : Type 0 where
  pub few : (d : ℕ) → d < column → FewIn (first ++ second) d
  pub lists : List (List Value)
  pub firsts : Along (Firsts first second) column 0 lists
  pub counted : count ≡ min (most_kinds + 1) (product (map length lists))
  pub some : 0 < product (map length lists)
  pub nine : length bounds ≡ 9
  pub next : get_or bounds column 0 ≡ from
  pub ascends : (d : ℕ) → d < column → (get_or bounds d 0 ≤ get_or bounds (suc d) 0) × (get_or bounds (suc d) 0 ≤ from)
  pub prints : count ≤ most_kinds → Along (Printed first second words bounds) column 0 lists
  pub room : count ≤ most_kinds → (s : ℕ) × Room s count × (from ≡ s + column)
  pub low : from ≤ 1094
  pub within : prints_at + from ≤ length words

module _ (first second : List Statement) where
  -- before the first column
  pub columns-begin : (words bounds : List ℕ) → 8192 ≤ length words → length bounds ≡ 9 → get_or bounds 0 0 ≡ 0
      → ColumnsUpto first second words bounds 0 1 0
  columns-begin words bounds room nine none =
      record {
        few = λ d h. absurd (omega arith);
        lists = [];
        firsts = refl;
        counted = omega arith;
        some = omega arith;
        nine = nine;
        next = none;
        ascends = λ d h. absurd (omega arith);
        prints = λ h. refl;
        room = λ h. (0, room-start, omega arith);
        low = omega arith;
        within = omega arith;
      }

  -- one column more
  module _ (words after bounds : List ℕ) (from to count column more next : ℕ) (u : ColumnsUpto first second words bounds from count column)
      (low : column < 8) (few : FewIn (first ++ second) column) (g : Gathered first second column words after from to)
      (times : more ≡ min (most_kinds + 1) (count * (to - from))) (goes : next ≡ pick (ltb most_kinds more) from to) (room : 8192 ≤ length words) where
    size : to - from ≡ length g.list
    size = omega (arith, g.size)

    -- the counted product
    now-counted : more ≡ min (most_kinds + 1) (product (map length (u.lists ++ (g.list ∷ []))))
    now-counted =
        times
        ∙ ap₂ (λ (n m : ℕ). min (most_kinds + 1) (n * m)) u.counted size
        ∙ capped (product (map length u.lists)) (length g.list) g.some
        ∙ ap (min (most_kinds + 1)) (sym (product-more u.lists g.list))

    now-some : 0 < product (map length (u.lists ++ (g.list ∷ [])))
    now-some =
        omega
        (arith, product-more u.lists g.list, u.some, mul-le-mul_left {m = 1} {n = length g.list} (product (map length u.lists)) g.some)

    -- while it is within the limit, so was the one before
    was : more ≤ most_kinds → (count ≤ most_kinds) × (more ≡ count * length g.list) × (next ≡ to)
    was h =
        let grown = mul-le-mul_left {m = 1} {n = length g.list} count g.some in
        let sized : more ≡ min (most_kinds + 1) (count * length g.list) = times ∙ ap (λ (m : ℕ). min (most_kinds + 1) (count * m)) size in
        (omega arith, omega arith, goes ∙ ap (λ (t : Bool). pick t from to) (le-ltb most_kinds more h))

    up : from ≤ next
    up = by (ltb most_kinds more) refl
      where
        by : (t : Bool) → ltb most_kinds more ≡ t → from ≤ next
        by true e = let stays = goes ∙ ap (λ (t : Bool). pick t from to) e in omega arith
        by false e = let moves = goes ∙ ap (λ (t : Bool). pick t from to) e in omega (arith, g.size)

    now-room : more ≤ most_kinds → (s : ℕ) × Room s more × (next ≡ s + suc column)
    now-room h =
        let before = was h in
        let r = u.room before.0 in (
          r.0 + (length g.list - 1),
          subst (λ (p : ℕ). Room (r.0 + (length g.list - 1)) p) (sym before.1) (room-more r.0 count (length g.list) r.1 g.some g.few),
          omega (arith, before.2, r.2, g.size, g.some),
        )

    now-low : next ≤ 1094
    now-low = by (ltb most_kinds more) refl
      where
        by : (t : Bool) → ltb most_kinds more ≡ t → next ≤ 1094
        by true e = let stays = goes ∙ ap (λ (t : Bool). pick t from to) e in omega (arith, u.low)
        by false e =
            let under = ltb-false most_kinds more e in
            let r = now-room under in
            omega (arith, r.2, room_fits r.0 more r.1 under)

    -- the bounds so far stay, and there is one more
    other : (d : ℕ) → d < suc column → get_or (set bounds (suc column) next) d 0 ≡ get_or bounds d 0
    other d h = get_or-set_other bounds (suc column) d next 0 (λ w. omega arith)

    last : get_or (set bounds (suc column) next) (suc column) 0 ≡ next
    last = get_or-set_same bounds (suc column) next 0 (omega (arith, u.nine))

    now-ascends : (d : ℕ) → d < suc column
        → (get_or (set bounds (suc column) next) d 0 ≤ get_or (set bounds (suc column) next) (suc d) 0) × (get_or (set bounds (suc column) next) (suc d) 0 ≤ next)
    now-ascends =
        below_next
        (λ d. (get_or (set bounds (suc column) next) d 0 ≤ get_or (set bounds (suc column) next) (suc d) 0) × (get_or (set bounds (suc column) next) (suc d) 0 ≤ next))
        column
        (λ d h.
        let old = u.ascends d h in
        (omega (arith, other d (omega arith), other (suc d) (omega arith), old.0), omega (arith, other (suc d) (omega arith), old.1, up)))
        (omega (arith, other column (omega arith), last, u.next, up), omega (arith, last))

    now-prints : more ≤ most_kinds → Along (Printed first second after (set bounds (suc column) next)) (suc column) 0 (u.lists ++ (g.list ∷ []))
    now-prints h =
        along-more (Printed first second after (set bounds (suc column) next)) column 0 u.lists g.list
        (along-same (Printed first second words bounds) (Printed first second after (set bounds (suc column) next)) column 0 u.lists
        (λ d l under is.
        ap₂ (prints_between after) (other d (omega arith)) (other (suc d) (omega arith))
        ∙ prints-kept words after from (get_or bounds d 0) (get_or bounds (suc d) 0) g.kept (u.ascends d under).0 (u.ascends d under).1
        ∙ is)
        (u.prints (was h).0))
        (ap₂ (prints_between after) (other column (omega arith) ∙ u.next) (last ∙ (was h).2) ∙ g.prints)

    pub columns-on : ColumnsUpto first second after (set bounds (suc column) next) next more (suc column)
    columns-on =
        record {
          few = below_next (FewIn (first ++ second)) column u.few few;
          lists = u.lists ++ (g.list ∷ []);
          firsts = along-more (Firsts first second) column 0 u.lists g.list u.firsts g.firsts;
          counted = now-counted;
          some = now-some;
          nine = length-set bounds (suc column) next ∙ u.nine;
          next = last;
          ascends = now-ascends;
          prints = now-prints;
          room = now-room;
          low = now-low;
          within = omega (arith, now-low, g.same, room);
        }

  all_firsts : (column : ℕ) (lists : List (List Value)) → Along (Firsts first second) 8 column lists → AllFirsts first second column lists
  all_firsts column [] e = e
  all_firsts column (l ∷ lists) a = (a.0, all_firsts (suc column) lists a.1)

  all-prints : (words bounds : List ℕ) (n column : ℕ) (lists : List (List Value)) → column + n ≡ 8 → Along (Printed first second words bounds) 8 column lists
      → kinds.prints_from n words bounds column ≡ prints_from first second column lists
  all-prints words bounds zero column [] e a = refl
  all-prints words bounds (suc n) column [] e a = absurd (omega arith)
  all-prints words bounds zero column (l ∷ lists) e a = absurd (omega (arith, along-low (Printed first second words bounds) 8 (suc column) lists a.1))
  all-prints words bounds (suc n) column (l ∷ lists) e a =
      ap₂ ◌∷◌ a.0 (all-prints words bounds n (suc column) lists (omega arith) a.1)

  -- all eight, and not too many kinds
  module _ (words bounds : List ℕ) (from count : ℕ) (u : ColumnsUpto first second words bounds from count 8) where
    uncrowded : Uncrowded (first ++ second)
    uncrowded d h = u.few d (omega arith) h

    pub columns-end : count ≤ most_kinds → Listed first second words bounds
    columns-end few =
        record {
          uncrowded = uncrowded;
          lists = u.lists;
          firsts = all_firsts 0 u.lists u.firsts;
          few = omega (arith, u.counted);
          bounded = record { ascends = λ d h. (u.ascends d h).0; within = omega (arith, u.next, u.within) };
          prints = all-prints words bounds 8 0 u.lists refl (u.prints few);
        }

    -- or too many
    pub columns-over : most_kinds < count → RefusesStates first second (C.Refused 12 0 0)
    columns-over many =
        inr (
          uncrowded,
          (
            map length u.lists,
            counts-from first second 0 u.lists (all_firsts 0 u.lists u.firsts),
            rw (lt-ltb most_kinds (product (map length u.lists)) (omega (arith, u.counted))) refl,
          ),
        )
