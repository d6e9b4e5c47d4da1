-- There are no more gaps than kinds of request: the footprints of its columns tell two listed gaps apart, and each listed gap has the
-- footprints of a request made of one value for each footprint of each column; there are as many of these as the product of the counts.
use Rattle.std.proofs.Common.{ℕ, suc, ◌*◌, ◌≤◌, ◌≡◌, refl, sym, ◌∙◌, ap₂, subst, Bool, List, [], ◌∷◌, map, inl, inr, arith, length, length-append}
use Rattle.std.proofs.Math.ListN.{length-map}
use Rattle.stored.specs.Tables.{Statement}
use Rattle.stored.proofs.Choosing.{never}
use Rattle.judging.specs.Requests.{Value}
use Rattle.judging.specs.Judging.{rows_of}
use Rattle.comparing.specs.Order.{Earlier, In, Ascending}
use Rattle.comparing.specs.Requests.{Admitted, Each}
use Rattle.comparing.specs.Gaps.{footprint, AlikeFrom, FirstOf, Counted}
use Rattle.comparing.specs.Counts.{Apart}
use Rattle.comparing.specs.Compared.{most_kinds, CountsFrom, product, Compared}
use Rattle.comparing.specs.Machinery.Product.{in_front, product_of}
use Rattle.comparing.specs.Outcomes.{short, first_table, second_table, wide, crowded, many_kinds, answered, CountOutcome}
use Rattle.comparing.specs.Answers.{Counting as C}
use Rattle.comparing.proofs.Order.{earlier-asym}
use Rattle.comparing.proofs.Unique.{firsts-unique, firsts-admitted}
use Rattle.comparing.proofs.Pigeonhole.{fits}
use Rattle.comparing.proofs.kinds.Product.{front-in}
use Rattle.comparing.proofs.OneAnswer.{counts-length}
use Rattle.comparing.proofs.Alike.{each-length}
use Rattle.comparing.proofs.Outcomes.{compared-exactly}

-- each value in front of each request makes their product
front_length : (values : List Value) (requests : List (List Value)) → length (in_front values requests) ≡ length values * length requests
front_length [] requests = omega arith
front_length (v ∷ values) requests =
    length-append (map (λ (r : List Value). v ∷ r) requests) (in_front values requests)
    ∙ omega (arith, length-map requests (λ (r : List Value). v ∷ r), front_length values requests)

module _ (first second : List Statement) where
  -- the footprint of each column of a request, from a column on
  abbrev footprints : ℕ → List Value → List (List Bool)
  footprints column [] = []
  footprints column (v ∷ r) = footprint first second column v ∷ footprints (suc column) r

  -- requests with the same footprints are alike
  same_alike : (column : ℕ) (r s : List Value) → footprints column r ≡ footprints column s → AlikeFrom first second column r s
  same_alike column [] [] e = tt
  same_alike column [] (w ∷ s) e = never (cc)
  same_alike column (v ∷ r) [] e = never (cc)
  same_alike column (v ∷ r) (w ∷ s) e = (cc, same_alike (suc column) r s (cc))

  -- requests of first values that ascend have different footprints
  gaps-apart : (list : List (List Value)) → Ascending Earlier list → ((r : List Value) → In r list → Each (FirstOf first second) 0 r)
      → Apart (footprints 0) list
  gaps-apart [] up firsts = tt
  gaps-apart (r ∷ list) up firsts = (
    λ s i e. apart s (up.0 s i) (firsts-unique first second 0 r s (firsts r (inl refl)) (firsts s (inr i)) (same_alike 0 r s e)),
    gaps-apart list up.1 (λ s i. firsts s (inr i)),
  )
    where
      apart : (s : List Value) → Earlier r s → r ≡ s → ⊥
      apart s p e =
          let q : Earlier r r = subst (λ (x : List Value). Earlier r x) (sym e) p in
          earlier-asym r r q q

  -- a value for each footprint of each column
  abbrev values_for : (column : ℕ) (counts : List ℕ) → CountsFrom first second column counts → List (List Value)
  values_for column [] are = []
  values_for column (n ∷ counts) are = are.0.list ∷ values_for (suc column) counts are.1

  -- they make as many requests as the product of the counts
  kinds-length : (column : ℕ) (counts : List ℕ) (are : CountsFrom first second column counts)
      → length (product_of (values_for column counts are)) ≡ product counts
  kinds-length column [] are = refl
  kinds-length column (n ∷ counts) are =
      front_length are.0.list (product_of (values_for (suc column) counts are.1))
      ∙ ap₂ ◌*◌ are.0.size (kinds-length (suc column) counts are.1)

  -- and every request has the footprints of one of them
  kinds-complete : (column : ℕ) (counts : List ℕ) (are : CountsFrom first second column counts) (r : List Value) → Each Admitted column r
      → (s : List Value) × In s (product_of (values_for column counts are)) × (footprints column r ≡ footprints column s)
  kinds-complete column [] are [] e = ([], inl refl, refl)
  kinds-complete column [] are (v ∷ r) e = absurd (omega (arith, each-length Admitted (suc column) r e.1))
  kinds-complete column (n ∷ counts) are [] e = absurd (omega (arith, counts-length first second (suc column) counts are.1))
  kinds-complete column (n ∷ counts) are (v ∷ r) e =
      let here = are.0.every v e.0 in
      let more = kinds-complete (suc column) counts are.1 r e.1 in (
        here.0 ∷ more.0,
        front-in are.0.list (product_of (values_for (suc column) counts are.1)) here.0 more.0 here.1 more.1,
        ap₂ ◌∷◌ here.2 more.2,
      )

  -- the number of gaps is at most the product of the numbers of footprints
  pub few-gaps : (n : ℕ) (counts : List ℕ) → Counted first second n → CountsFrom first second 0 counts → n ≤ product counts
  few-gaps n counts c are =
      omega (
        arith,
        c.size,
        kinds-length 0 counts are,
        fits (footprints 0) c.list (product_of (values_for 0 counts are)) (gaps-apart c.list c.gaps.order c.gaps.firsts)
            (λ r i. kinds-complete 0 counts are r (firsts-admitted first second 0 r (c.gaps.firsts r i))),
      )

-- so a number of gaps that is answered is at most 16,777,216
pub count_low : (room : ℕ) (a b : List ℕ) (n : ℕ) → Compared room a b (C.Gaps n) → n ≤ most_kinds
count_low room a b n c = by ((compared-exactly room a b (C.Gaps n)).0 c)
  where
    by : CountOutcome room a b (C.Gaps n) → n ≤ most_kinds
    by (short s e) = never (cc)
    by (first_table long m place f e) = never (cc)
    by (second_table long table m place f e) = never (cc)
    by (wide both d w e) = never (cc)
    by (crowded both narrow d k e) = never (cc)
    by (many_kinds both counts passed over e) = never (cc)
    by (answered both counts passed within (m, counted, e)) =
        let same : m ≡ n = cc in
        omega (arith, few-gaps (rows_of a) (rows_of b) m counts counted passed.footprints)
