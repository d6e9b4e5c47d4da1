-- The recursion over the columns counts the gaps and finds gap k: the rows still left are those that hold in every column passed, so with
-- each value it goes on to the requests that have this value in front.
use Rattle.std.proofs.Common.{ℕ, zero, suc, ◌+◌, ◌-◌, ◌^◌, ◌<◌, ◌≤◌, ◌≡◌, refl, sym, ◌∙◌, ap, ap₂, subst, Bool, true, false, ◌&&◌, List, [], ◌∷◌, ◌++◌, map, mod-eq_of_lt, not-suc-le-zero, arith, bit_and, ltb, length, get_or, length-append, get_or-append-add, ltb-true, ltb-false}
use Rattle.std.proofs.Math.Path.{fun_ext}
use Rattle.std.proofs.Math.Bool.{and-true, and_assoc}
use Rattle.std.specs.Int.Bits.{and_comm, and_mask}
use Rattle.std.proofs.Math.ListN.{length-map, get_or-append}
use Rattle.stored.specs.Choice.{pick}
use Rattle.stored.specs.Tables.{Statement}
use Rattle.judging.specs.Requests.{Value, absent, columns}
use Rattle.judging.specs.Meaning.{holds}
use Rattle.judging.specs.Machinery.Rows.{bit_of, rows_word}
use Rattle.judging.proofs.RowSets.{meet, below}
use Rattle.comparing.specs.Gaps.{Counted, IsGap}
use Rattle.comparing.specs.Machinery.Kinds.{is_gap_rows, total, count_of, steps_to, left_of, path_of}
use Rattle.comparing.specs.Machinery.Product.{AllFirsts, in_front, product_of, keep, only_first, gaps_among, print_of, prints_from, SidesOf, values_at, Inside}
use Rattle.comparing.specs.declared.sides.Sides.{Sides}
use Rattle.comparing.proofs.Members.{keep-joined, keep_same, keep-mapped, mapped_at}
use Rattle.comparing.proofs.Alike.{holds_from, applies-from}
use Rattle.comparing.proofs.kinds.Product.{product-length, firsts-length, product-gaps}
use Rattle.comparing.proofs.kinds.GapRows.{only_first_by, gap-rows}
use Rattle.comparing.proofs.kinds.Sums.{steps_low, left-low}

-- each value in front of its own requests
abbrev blocks : (Value → List (List Value)) → List Value → List (List Value)
blocks part [] = []
blocks part (v ∷ list) = map (λ (r : List Value). v ∷ r) (part v) ++ blocks part list

keep-front : (test : List Value → Bool) (list : List Value) (requests : List (List Value))
    → keep test (in_front list requests) ≡ blocks (λ v. keep (λ r. test (v ∷ r)) requests) list
keep-front test [] requests = refl
keep-front test (v ∷ list) requests =
    keep-joined test (map (λ (r : List Value). v ∷ r) requests) (in_front list requests)
    ∙ ap₂ ◌++◌ (keep-mapped (λ (r : List Value). v ∷ r) test requests) (keep-front test list requests)

-- a sum over the values whose parts are the sizes of the blocks
module _ (f : ℕ → ℕ) (print : Value → ℕ) (part : Value → List (List Value)) (sizes : (v : Value) → f (print v) ≡ length (part v)) where
  blocks-total : (list : List Value) → total f (map print list) ≡ length (blocks part list)
  blocks-total [] = refl
  blocks-total (v ∷ list) =
      ap₂ ◌+◌ (sizes v ∙ sym (length-map (part v) (λ (r : List Value). v ∷ r))) (blocks-total list)
      ∙ sym (length-append (map (λ (r : List Value). v ∷ r) (part v)) (blocks part list))

  abbrev Found : List Value → ℕ → ℕ → ℕ → Type 0
  Found list k i j = get_or (blocks part list) k [] ≡ get_or list i absent ∷ get_or (part (get_or list i absent)) j []

  block_at : (list : List Value) (k : ℕ) → k < total f (map print list)
      → Found list k (steps_to f (map print list) k) (left_of f (map print list) k)
  block_at [] k h = absurd (not-suc-le-zero h)
  block_at (v ∷ list) k h = by (ltb k (f (print v))) refl (block_at list (k - f (print v)))
    where
      front : List (List Value)
      front = map (λ (r : List Value). v ∷ r) (part v)

      size : length front ≡ f (print v)
      size = length-map (part v) (λ (r : List Value). v ∷ r) ∙ sym (sizes v)

      by : (t : Bool) → ltb k (f (print v)) ≡ t
          → (k - f (print v) < total f (map print list)
          → Found list (k - f (print v)) (steps_to f (map print list) (k - f (print v))) (left_of f (map print list) (k - f (print v))))
          → Found (v ∷ list) k (pick t 0 (suc (steps_to f (map print list) (k - f (print v))))) (pick t k (left_of f (map print list) (k - f (print v))))
      by true e more =
          let low = ltb-true k (f (print v)) e in
          get_or-append front (blocks part list) [] k (omega (arith, size))
          ∙ mapped_at (λ (r : List Value). v ∷ r) (part v) k [] [] (omega (arith, sizes v))
      by false e more =
          let past = ltb-false k (f (print v)) e in
          let place : k ≡ length front + (k - f (print v)) = omega (arith, size) in
          ap (λ (n : ℕ). get_or (front ++ blocks part list) n []) place
          ∙ get_or-append-add front (blocks part list) (k - f (print v)) []
          ∙ more (omega arith)

module _ (first second : List Statement) (sides : Sides) (told : SidesOf first second sides) where
  -- the rows left hold so far, and the request goes on from a column
  abbrev goes_on : ℕ → (Statement → Bool) → List Value → Bool
  goes_on column left r = only_first_by first second (λ s. left s && holds_from column r s)

  -- the word w stands for the rows that are left
  abbrev Meets : ℕ → (Statement → Bool) → Type 0
  Meets w left = (p : Statement → Bool) → bit_and w (rows_word p (first ++ second)) ≡ rows_word (λ s. left s && p s) (first ++ second)

  -- one value more in front
  one_more : (column : ℕ) (left : Statement → Bool) (v : Value) (requests : List (List Value))
      → keep (goes_on (suc column) (λ s. left s && holds column v s)) requests ≡ keep (λ r. goes_on column left (v ∷ r)) requests
  one_more column left v requests =
      keep_same (goes_on (suc column) (λ s. left s && holds column v s)) (λ r. goes_on column left (v ∷ r)) requests
      (λ r i. ap (only_first_by first second) (fun_ext (λ s. and_assoc (left s) (holds column v s) (holds_from (suc column) r s))))

  last_one : (column : ℕ) (left : Statement → Bool) → is_gap_rows sides (rows_word left (first ++ second)) ≡ goes_on column left []
  last_one column left =
      gap-rows first second sides told left ∙ ap (only_first_by first second) (fun_ext (λ s. sym (and-true (left s))))

  -- counting

  abbrev Counts : ℕ → List (List Value) → Type 0
  Counts column lists =
      (left : Statement → Bool)
      → count_of sides (prints_from first second column lists) (rows_word left (first ++ second)) ≡ length (keep (goes_on column left) (product_of lists))

  count-part : (column : ℕ) (lists : List (List Value)) → Counts (suc column) lists → (left : Statement → Bool) (w : ℕ) → Meets w left → (v : Value)
      → count_of sides (prints_from first second (suc column) lists) (bit_and w (print_of first second column v))
      ≡ length (keep (λ r. goes_on column left (v ∷ r)) (product_of lists))
  count-part column lists more left w met v =
      ap (count_of sides (prints_from first second (suc column) lists)) (met (holds column v))
      ∙ more (λ s. left s && holds column v s)
      ∙ ap length (one_more column left v (product_of lists))

  count-step : (column : ℕ) (list : List Value) (lists : List (List Value)) → Counts (suc column) lists → (left : Statement → Bool) (w : ℕ) → Meets w left
      → count_of sides (prints_from first second column (list ∷ lists)) w ≡ length (keep (goes_on column left) (product_of (list ∷ lists)))
  count-step column list lists more left w met =
      blocks-total (λ (f : ℕ). count_of sides (prints_from first second (suc column) lists) (bit_and w f)) (print_of first second column)
      (λ v. keep (λ r. goes_on column left (v ∷ r)) (product_of lists)) (count-part column lists more left w met) list
      ∙ ap length (sym (keep-front (goes_on column left) list (product_of lists)))

  count-from : (column : ℕ) (lists : List (List Value)) → Counts column lists
  count-from column [] left = ap bit_of (last_one column left) ∙ by (goes_on column left [])
    where
      by : (t : Bool) → bit_of t ≡ length (pick {A = List (List Value)} t ([] ∷ []) [])
      by true = refl
      by false = refl
  count-from column (list ∷ lists) left =
      count-step column list lists (count-from (suc column) lists) left (rows_word left (first ++ second)) (λ p. meet left p (first ++ second))

  -- finding

  abbrev Shows : ℕ → List (List Value) → (Statement → Bool) → ℕ → ℕ → Type 0
  Shows column lists left w k =
      (values_at lists (path_of sides (prints_from first second column lists) w k) ≡ get_or (keep (goes_on column left) (product_of lists)) k [])
      × Inside lists (path_of sides (prints_from first second column lists) w k)

  abbrev ShowsAll : ℕ → List (List Value) → Type 0
  ShowsAll column lists =
      (left : Statement → Bool) (k : ℕ) → k < count_of sides (prints_from first second column lists) (rows_word left (first ++ second))
      → Shows column lists left (rows_word left (first ++ second)) k

  module _ (column : ℕ) (list : List Value) (lists : List (List Value)) (more : ShowsAll (suc column) lists)
      (left : Statement → Bool) (w : ℕ) (met : Meets w left) (k : ℕ)
      (low : k < count_of sides (prints_from first second column (list ∷ lists)) w) where
    abbrev among : ℕ → ℕ
    among f = count_of sides (prints_from first second (suc column) lists) (bit_and w f)

    abbrev prints : List ℕ
    prints = map (print_of first second column) list

    abbrev i : ℕ
    i = steps_to among prints k

    abbrev j : ℕ
    j = left_of among prints k

    abbrev v : Value
    v = get_or list i absent

    inside : i < length list
    inside = subst (λ (n : ℕ). i < n) (length-map list (print_of first second column)) (steps_low among prints k low)

    rows_left : bit_and w (get_or prints i 0) ≡ rows_word (λ s. left s && holds column v s) (first ++ second)
    rows_left =
        ap (bit_and w) (mapped_at (print_of first second column) list i absent 0 inside) ∙ met (holds column v)

    shown : Shows (suc column) lists (λ s. left s && holds column v s) (bit_and w (get_or prints i 0)) j
    shown =
        subst (λ (n : ℕ). Shows (suc column) lists (λ s. left s && holds column v s) n j) (sym rows_left)
        (more (λ s. left s && holds column v s) j
        (subst (λ (n : ℕ). j < count_of sides (prints_from first second (suc column) lists) n) rows_left (left-low among prints k low)))

    path-step : Shows column (list ∷ lists) left w k
    path-step = (
      ap (λ (r : List Value). v ∷ r) (shown.0 ∙ ap (λ (l : List (List Value)). get_or l j []) (one_more column left v (product_of lists)))
          ∙ sym (block_at among (print_of first second column) (λ v. keep (λ r. goes_on column left (v ∷ r)) (product_of lists))
          (count-part column lists (count-from (suc column) lists) left w met) list k low)
          ∙ sym (ap (λ (l : List (List Value)). get_or l k []) (keep-front (goes_on column left) list (product_of lists))),
      (inside, shown.1),
    )

  path-from : (column : ℕ) (lists : List (List Value)) → ShowsAll column lists
  path-from column [] left k low = (by (goes_on column left []) k, tt)
    where
      by : (t : Bool) (k : ℕ) → [] ≡ get_or (pick {A = List (List Value)} t ([] ∷ []) []) k []
      by true zero = refl
      by true (suc k) = refl
      by false k = refl
  path-from column (list ∷ lists) left k low =
      path-step column list lists (path-from (suc column) lists) left (rows_word left (first ++ second)) (λ p. meet left p (first ++ second)) k low

  -- all eight columns, with all rows left

  module _ (few : length first + length second ≤ 64) (lists : List (List Value)) (eight : length lists ≡ columns) where
    all-rows : Meets (2 ^ 64 - 1) (λ s. true)
    all-rows p =
        and_comm (2 ^ 64 - 1) (rows_word p (first ++ second))
        ∙ and_mask (rows_word p (first ++ second)) 64
        ∙ mod-eq_of_lt (below p (first ++ second) 64 (omega (arith, length-append first second)))

    whole : keep (goes_on 0 (λ s. true)) (product_of lists) ≡ gaps_among first second lists
    whole =
        keep_same (goes_on 0 (λ s. true)) (only_first first second) (product_of lists)
        (λ r i. ap (only_first_by first second) (fun_ext (λ s. sym (applies-from r (product-length lists r i ∙ eight) s))))

  -- the recursion counts the gaps
  pub count-gaps : length first + length second ≤ 64 → (lists : List (List Value)) → length lists ≡ columns
      → count_of sides (prints_from first second 0 lists) (2 ^ 64 - 1) ≡ length (gaps_among first second lists)
  count-gaps few [] eight = absurd (omega arith)
  count-gaps few (list ∷ lists) eight =
      count-step 0 list lists (count-from 1 lists) (λ s. true) (2 ^ 64 - 1) (all-rows few (list ∷ lists) eight)
      ∙ ap length (whole few (list ∷ lists) eight)

  -- the values at the path to gap k are gap k, and each index lies in its list
  pub path-shows : length first + length second ≤ 64 → (lists : List (List Value)) → length lists ≡ columns
      → (k : ℕ) → k < count_of sides (prints_from first second 0 lists) (2 ^ 64 - 1)
      → (values_at lists (path_of sides (prints_from first second 0 lists) (2 ^ 64 - 1) k) ≡ get_or (gaps_among first second lists) k [])
      × Inside lists (path_of sides (prints_from first second 0 lists) (2 ^ 64 - 1) k)
  path-shows few [] eight k low = absurd (omega arith)
  path-shows few (list ∷ lists) eight k low =
      let p = path-step 0 list lists (path-from 1 lists) (λ s. true) (2 ^ 64 - 1) (all-rows few (list ∷ lists) eight) k low in
      (p.0 ∙ ap (λ (l : List (List Value)). get_or l k []) (whole few (list ∷ lists) eight), p.1)

  -- so for lists of first values it is the number of gaps, and the values are gap k
  module _ (few : length first + length second ≤ 64) (lists : List (List Value)) (firsts : AllFirsts first second 0 lists) where
    eight : length lists ≡ columns
    eight = omega (arith, firsts-length first second 0 lists firsts)

    pub counted : Counted first second (count_of sides (prints_from first second 0 lists) (2 ^ 64 - 1))
    counted =
        record {
          list = gaps_among first second lists;
          gaps = product-gaps first second lists firsts;
          size = count-gaps few lists eight;
        }

    pub found : (k : ℕ) → k < count_of sides (prints_from first second 0 lists) (2 ^ 64 - 1)
        → IsGap first second k (values_at lists (path_of sides (prints_from first second 0 lists) (2 ^ 64 - 1) k))
    found k low =
        record {
          list = gaps_among first second lists;
          gaps = product-gaps first second lists firsts;
          low = subst (λ (n : ℕ). k < n) (count-gaps few lists eight) low;
          here = (path-shows few lists eight k low).0;
        }
