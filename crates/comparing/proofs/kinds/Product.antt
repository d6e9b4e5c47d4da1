-- The requests made of the first values of eight columns, those kept that only the first table allows, are the gaps.
use Rattle.std.proofs.Common.{ℕ, suc, ◌+◌, ◌≡◌, refl, sym, ◌∙◌, ap, ap₂, subst, Bool, true, false, not, ◌&&◌, List, [], ◌∷◌, map, ◌⊎◌, inl, inr, arith, length}
use Rattle.std.proofs.Math.Bool.{false≢true}
use borrow.Author.Tests.{not-true}
use Rattle.stored.specs.Tables.{Statement}
use Rattle.judging.specs.Requests.{Value, columns}
use Rattle.judging.specs.Meaning.{is_allowed}
use Rattle.comparing.specs.Order.{Before, Earlier, In, Ascending}
use Rattle.comparing.specs.Requests.{Admitted, Each, IsRequest}
use Rattle.comparing.specs.Gaps.{footprint, AlikeFrom, FirstOf, Gap, Gaps}
use Rattle.comparing.specs.Counts.{Apart}
use Rattle.comparing.specs.Columns.{Footprints}
use Rattle.comparing.specs.Compared.{CountsFrom}
use Rattle.comparing.specs.Machinery.Product.{Firsts, AllFirsts, in_front, product_of, only_first, gaps_among}
use Rattle.comparing.proofs.Order.{before-irrefl}
use Rattle.comparing.proofs.Unique.{first-unique}
use Rattle.comparing.proofs.Members.{in-joined, in_left, in_right, ascending-joined, in_kept, kept_in, ascending-kept, in-mapped, mapped_in, ascending-mapped}
use Rattle.comparing.proofs.Alike.{each-length, alike-first, alike-second}

-- members of the product

in-front : (values : List Value) (requests : List (List Value)) (r : List Value) → In r (in_front values requests)
    → (v : Value) × (s : List Value) × In v values × In s requests × (r ≡ v ∷ s)
in-front [] requests r i = elim i [ ]
in-front (v ∷ values) requests r i = by (in-joined r (map (λ (s : List Value). v ∷ s) requests) (in_front values requests) i) (in-front values requests r)
  where
    by : In r (map (λ (s : List Value). v ∷ s) requests) ⊎ In r (in_front values requests)
        → (In r (in_front values requests) → (w : Value) × (s : List Value) × In w values × In s requests × (r ≡ w ∷ s))
        → (w : Value) × (s : List Value) × ((w ≡ v) ⊎ In w values) × In s requests × (r ≡ w ∷ s)
    by (inl j) more = let m = in-mapped (λ (s : List Value). v ∷ s) r requests j in (v, m.0, inl refl, m.1, m.2)
    by (inr j) more = let m = more j in (m.0, m.1, inr m.2, m.3, m.4)

pub front-in : (values : List Value) (requests : List (List Value)) (v : Value) (s : List Value)
    → In v values → In s requests → In (v ∷ s) (in_front values requests)
front-in [] requests v s x'' j = elim x'' [ ]
front-in (w ∷ values) requests v s (inl e) j =
    in_left (v ∷ s) (map (λ (r : List Value). w ∷ r) requests) (in_front values requests)
    (subst (λ (x : Value). In (x ∷ s) (map (λ (r : List Value). w ∷ r) requests)) (sym e) (mapped_in (λ (r : List Value). w ∷ r) s requests j))
front-in (w ∷ values) requests v s (inr i) j =
    in_right (v ∷ s) (map (λ (r : List Value). w ∷ r) requests) (in_front values requests) (front-in values requests v s i j)

-- a request of the product has a value for each list
pub product-length : (lists : List (List Value)) (r : List Value) → In r (product_of lists) → length r ≡ length lists
product-length [] r (inl e) = ap length e
product-length [] r (inr i) = absurd i
product-length (list ∷ lists) r i =
    let m = in-front list (product_of lists) r i in
    ap length m.4 ∙ ap suc (product-length lists m.1 m.3)

-- order of the product

front-ascending : (values : List Value) (requests : List (List Value)) → Ascending Before values → Ascending Earlier requests
    → Ascending Earlier (in_front values requests)
front-ascending [] requests a b = tt
front-ascending (v ∷ values) requests a b =
    ascending-joined Earlier (map (λ (r : List Value). v ∷ r) requests) (in_front values requests)
    (ascending-mapped (λ (r : List Value). v ∷ r) Earlier Earlier (λ r s p. inr (refl, p)) requests b)
    (front-ascending values requests a.1 b)
    across
  where
    across : (r s : List Value) → In r (map (λ (r : List Value). v ∷ r) requests) → In s (in_front values requests) → Earlier r s
    across r s i j =
        let m = in-mapped (λ (r : List Value). v ∷ r) r requests i in
        let n = in-front values requests s j in
        subst (λ (x : List Value). Earlier x s) (sym m.2)
        (subst (λ (x : List Value). Earlier (v ∷ m.0) x) (sym n.4) (inl (a.0 n.0 n.2)))

module _ (first second : List Statement) where
  product-firsts : (column : ℕ) (lists : List (List Value)) → AllFirsts first second column lists
      → (r : List Value) → In r (product_of lists) → Each (FirstOf first second) column r
  product-firsts column [] f r (inl e) = subst (λ (x : List Value). Each (FirstOf first second) column x) (sym e) f
  product-firsts column [] f r (inr i) = absurd i
  product-firsts column (list ∷ lists) f r i =
      let m = in-front list (product_of lists) r i in
      subst (λ (x : List Value). Each (FirstOf first second) column x) (sym m.4)
      (f.0.all m.0 m.2, product-firsts (suc column) lists f.1 m.1 m.3)

  product-ascending : (column : ℕ) (lists : List (List Value)) → AllFirsts first second column lists → Ascending Earlier (product_of lists)
  product-ascending column [] f = (λ r i. absurd i, tt)
  product-ascending column (list ∷ lists) f =
      front-ascending list (product_of lists) f.0.order (product-ascending (suc column) lists f.1)

  -- there is a list for each of the eight columns
  pub firsts-length : (column : ℕ) (lists : List (List Value)) → AllFirsts first second column lists → column + length lists ≡ columns
  firsts-length column [] f = omega (arith, f)
  firsts-length column (list ∷ lists) f = omega (arith, firsts-length (suc column) lists f.1)

  product-complete : (column : ℕ) (lists : List (List Value)) → AllFirsts first second column lists
      → (r : List Value) → Each Admitted column r → (s : List Value) × In s (product_of lists) × AlikeFrom first second column r s
  product-complete column [] f [] e = ([], inl refl, tt)
  product-complete column [] f (v ∷ r) e = absurd (omega (arith, f, each-length Admitted (suc column) r e.1))
  product-complete column (list ∷ lists) f [] e = absurd (omega (arith, e, firsts-length (suc column) lists f.1))
  product-complete column (list ∷ lists) f (v ∷ r) e =
      let here = f.0.complete v e.0 in
      let more = product-complete (suc column) lists f.1 r e.1 in
      (here.0 ∷ more.0, front-in list (product_of lists) here.0 more.0 here.1 more.1, (here.2, more.2))

  -- the requests of first values that only the first table allows are the gaps
  pub product-gaps : (lists : List (List Value)) → AllFirsts first second 0 lists → Gaps first second (gaps_among first second lists)
  product-gaps lists f =
      record {
        firsts = λ r i. product-firsts 0 lists f r (in_kept test r (product_of lists) i).0;
        gap = λ r i. told r (in_kept test r (product_of lists) i).1;
        order = ascending-kept Earlier test (product_of lists) (product-ascending 0 lists f);
        complete = complete;
      }
    where
      test : List Value → Bool
      test = only_first first second

      both : (t u : Bool) → (t && not u) ≡ true → (t ≡ true) × (u ≡ false)
      both true u e = (refl, not-true u e)
      both false u e = absurd (false≢true e)

      told : (r : List Value) → only_first first second r ≡ true → Gap first second r
      told r e =
          let p = both (is_allowed r first) (is_allowed r second) e in
          record { allowed = p.0; missed = p.1 }

      complete : (r : List Value) → IsRequest r → Gap first second r
          → (s : List Value) × In s (gaps_among first second lists) × AlikeFrom first second 0 r s
      complete r e g =
          let m = product-complete 0 lists f r e in
          let s = m.0 in
          let lr = each-length Admitted 0 r e in
          let ls = each-length (FirstOf first second) 0 s (product-firsts 0 lists f s m.1) in
          let one = alike-first first second r s (omega arith) (omega arith) m.2 in
          let two = alike-second first second r s (omega arith) (omega arith) m.2 in
          (s, kept_in test s (product_of lists) m.1 (ap₂ (λ (t u : Bool). t && not u) (sym one ∙ g.allowed) (sym two ∙ g.missed)), m.2)

  apart : (column : ℕ) (list : List Value) → ((v : Value) → In v list → FirstOf first second column v) → Ascending Before list
      → Apart (footprint first second column) list
  apart column [] f a = tt
  apart column (v ∷ list) f a = (
    λ w i e. before-irrefl v w (first-unique first second column v w (f v (inl refl)) (f w (inr i)) e) (a.0 w i),
    apart column list (λ w i. f w (inr i)) a.1,
  )

  -- a column has as many footprints as first values
  pub firsts-count : (column : ℕ) (list : List Value) → Firsts first second column list → Footprints first second column (length list)
  firsts-count column list f =
      record {
        list = list;
        size = refl;
        all = λ v i. (f.all v i).ok;
        apart = apart column list f.all f.order;
        every = f.complete;
      }

  -- and so has each of the eight
  pub counts-from : (column : ℕ) (lists : List (List Value)) → AllFirsts first second column lists
      → CountsFrom first second column (map length lists)
  counts-from column [] f = f
  counts-from column (list ∷ lists) f = (firsts-count column list f.0, counts-from (suc column) lists f.1)
