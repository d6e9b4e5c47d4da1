-- Gathering the first value of each footprint, one candidate after the other in their order: a candidate joins unless one found before has its
-- footprint. One step law serves texts and addresses, so long as whatever comes before a candidate is like one that was looked at before.
use Rattle.std.proofs.Common.{ℕ, suc, ◌+◌, ◌*◌, ◌≤◌, ◌<◌, ◌≡◌, refl, sym, ◌∙◌, ap₂, Bool, true, false, List, [], ◌∷◌, ◌++◌, map, ◌⊎◌, inl, inr, arith, eqb, length, length-append}
use mathlib.Core.List.{map-map, map-append}
use Rattle.stored.specs.Choice.{pick, some}
use Rattle.stored.specs.Tables.{Statement}
use Rattle.judging.specs.Requests.{Value}
use Rattle.judging.specs.Meaning.{holds}
use Rattle.judging.specs.Machinery.Rows.{bit_of, rows_word}
use Rattle.judging.proofs.RowSets.{rows_same}
use Rattle.comparing.specs.Order.{Before, In, Ascending}
use Rattle.comparing.specs.Requests.{Admitted}
use Rattle.comparing.specs.Gaps.{footprint, Alike, FirstOf}
use Rattle.comparing.specs.Machinery.Product.{Firsts, print_of}
use Rattle.comparing.specs.Machinery.Adding.{adding}
use Rattle.comparing.proofs.kinds.Listing.{in-more, ascending-more, map_same, some-true, some-false}
use Rattle.comparing.proofs.Members.{in_left, in_right, in-mapped, mapped_in}

-- equal sets are equal words
pub words_same : {A : Type 0} (f g : A → Bool) (rows : List A) → map f rows ≡ map g rows → rows_word f rows ≡ rows_word g rows
words_same f g [] e = refl
words_same {A} f g (s ∷ rows) e =
    let head : f s ≡ g s = cc in
    let tail : map f rows ≡ map g rows = cc in
    ap₂ (λ (n : ℕ) (t : Bool). n * 2 + bit_of t) (words_same f g rows tail) head

-- never empty, and at most one longer
pub adding-some : (print : ℕ → ℕ) (found : List ℕ) (x : ℕ) → 0 < length (adding print found x)
adding-some print [] x = omega arith
adding-some print (y ∷ found) x = by (some (λ y. eqb (print y) (print x)) (y ∷ found))
  where
    by : (t : Bool) → 0 < length (pick t (y ∷ found) ((y ∷ found) ++ (x ∷ [])))
    by true = omega arith
    by false = omega arith

pub adding-few : (print : ℕ → ℕ) (found : List ℕ) (x : ℕ) → length (adding print found x) ≤ suc (length found)
adding-few print found x = by (some (λ y. eqb (print y) (print x)) found)
  where
    by : (t : Bool) → length (pick t found (found ++ (x ∷ []))) ≤ suc (length found)
    by true = omega arith
    by false = omega (arith, length-append found (x ∷ []))

module _ (first second : List Statement) (column : ℕ) where
  pub alike-printed : (v w : Value) → Alike first second column v w → print_of first second column v ≡ print_of first second column w
  unfolding footprint
  alike-printed v w e = words_same (holds column v) (holds column w) (first ++ second) e

  pub printed-alike : (v w : Value) → print_of first second column v ≡ print_of first second column w → Alike first second column v w
  unfolding footprint
  printed-alike v w e = rows_same (holds column v) (holds column w) (first ++ second) e

-- What was gathered when the candidates with Seen were looked at, and with them, up to their footprints, the values with P. A candidate is a
-- number that shows a value.
pub record Upto (first second : List Statement) (column : ℕ) (show : ℕ → Value) (print : ℕ → ℕ) (Seen : ℕ → Type 0) (P : Value → Type 0)
    (found : List ℕ) : Type 0 where
  pub seen : (x : ℕ) → In x found → Seen x
  pub printed : (x : ℕ) → In x found → print x ≡ print_of first second column (show x)
  pub firsts : (x : ℕ) → In x found → FirstOf first second column (show x)
  pub order : Ascending Before (map show found)
  pub complete : (v : Value) → Admitted column v → P v → (x : ℕ) × In x found × Alike first second column v (show x)

-- a candidate that can be looked at next
pub record Next (first second : List Statement) (column : ℕ) (show : ℕ → Value) (print : ℕ → ℕ) (Seen : ℕ → Type 0) (P : Value → Type 0) (x : ℕ)
    : Type 0 where
  pub printed : print x ≡ print_of first second column (show x)
  pub ok : Admitted column (show x)
  pub behind : (y : ℕ) → Seen y → Before (show y) (show x)
  pub earlier : (v : Value) → Admitted column v → Before v (show x) → P v

module _ (first second : List Statement) (column : ℕ) (show : ℕ → Value) (print : ℕ → ℕ) where
  -- nothing is gathered before the first candidate
  pub none_yet : Upto first second column show print (λ x. ⊥) (λ v. ⊥) []
  none_yet =
      record {
        seen = λ x h. absurd h;
        printed = λ x h. absurd h;
        firsts = λ x h. absurd h;
        order = tt;
        complete = λ v ok h. absurd h;
      }

  -- the words of what was gathered are its footprints
  pub printed-all : (Seen : ℕ → Type 0) (P : Value → Type 0) (found : List ℕ) → Upto first second column show print Seen P found
      → map print found ≡ map (print_of first second column) (map show found)
  printed-all Seen P found u =
      map_same print (λ x. print_of first second column (show x)) found u.printed
      ∙ sym (map-map (print_of first second column) show found)

  -- once every admitted value was looked at, what was gathered are the first values of the column
  pub gathered-firsts : (Seen : ℕ → Type 0) (P : Value → Type 0) (found : List ℕ) → Upto first second column show print Seen P found
      → ((v : Value) → Admitted column v → P v) → Firsts first second column (map show found)
  gathered-firsts Seen P found u whole =
      record {
        all = λ v h. by v (in-mapped show v found h);
        order = u.order;
        complete = λ v ok. let x = u.complete v ok (whole v ok) in (show x.0, mapped_in show x.0 found x.1, x.2);
      }
    where
      by : (v : Value) → (x : ℕ) × In x found × (v ≡ show x) → FirstOf first second column v
      by v x = rw x.2 (u.firsts x.0 x.1)

  module _ (Seen More : ℕ → Type 0) (P Q : Value → Type 0) (found : List ℕ) (x : ℕ) (u : Upto first second column show print Seen P found)
      (n : Next first second column show print Seen P x)
      (grows : (y : ℕ) → Seen y → More y) (now : More x)
      (covers : (v : Value) → Admitted column v → Q v → P v ⊎ Alike first second column v (show x)) where
    has : (t : Bool) → some (λ y. eqb (print y) (print x)) found ≡ t
        → Upto first second column show print More Q (pick t found (found ++ (x ∷ [])))
    has true e =
        let like = some-true print (print x) found e in
        let alike =
        printed-alike first second column (show x) (show like.0)
        (sym n.printed ∙ sym like.2 ∙ u.printed like.0 like.1) in
        record {
          seen = λ y h. grows y (u.seen y h);
          printed = u.printed;
          firsts = u.firsts;
          order = u.order;
          complete = λ v ok h. whole v ok like.0 alike like.1 (covers v ok h);
        }
      where
        whole : (v : Value) → Admitted column v → (y : ℕ) → Alike first second column (show x) (show y) → In y found
            → P v ⊎ Alike first second column v (show x) → (y : ℕ) × In y found × Alike first second column v (show y)
        whole v ok y alike inside (inl h) = u.complete v ok h
        whole v ok y alike inside (inr h) = (y, inside, h ∙ alike)
    has false e =
        record {
          seen = λ y h. seen y (in-more y found x h);
          printed = λ y h. printed y (in-more y found x h);
          firsts = λ y h. firsts y (in-more y found x h);
          order =
              rw (map-append show found (x ∷ []))
              (ascending-more Before (map show found) (show x) u.order (λ v h. up v (in-mapped show v found h)));
          complete = λ v ok h. whole v ok (covers v ok h);
        }
      where
        new : (y : ℕ) → In y found → print y ≡ print x → ⊥
        new = some-false print (print x) found e

        seen : (y : ℕ) → In y found ⊎ (y ≡ x) → More y
        seen y (inl h) = grows y (u.seen y h)
        seen y (inr h) = rw h now

        printed : (y : ℕ) → In y found ⊎ (y ≡ x) → print y ≡ print_of first second column (show y)
        printed y (inl h) = u.printed y h
        printed y (inr h) = rw h n.printed

        least : (w : Value) → Admitted column w → Alike first second column w (show x) → Before w (show x) → ⊥
        least w ok same before =
            let c = u.complete w ok (n.earlier w ok before) in
            new c.0 c.1
            (u.printed c.0 c.1
            ∙ alike-printed first second column (show c.0) (show x) (sym c.2 ∙ same)
            ∙ sym n.printed)

        firsts : (y : ℕ) → In y found ⊎ (y ≡ x) → FirstOf first second column (show y)
        firsts y (inl h) = u.firsts y h
        firsts y (inr h) = rw h (record { ok = n.ok; least = least })

        up : (v : Value) → (y : ℕ) × In y found × (v ≡ show y) → Before v (show x)
        up v h = rw h.2 (n.behind h.0 (u.seen h.0 h.1))

        whole : (v : Value) → Admitted column v → P v ⊎ Alike first second column v (show x)
            → (y : ℕ) × In y (found ++ (x ∷ [])) × Alike first second column v (show y)
        whole v ok (inl h) = let c = u.complete v ok h in (c.0, in_left c.0 found (x ∷ []) c.1, c.2)
        whole v ok (inr h) = (x, in_right x found (x ∷ []) (inl refl), h)

    -- one candidate more
    pub adding-next : Upto first second column show print More Q (adding print found x)
    adding-next = has (some (λ y. eqb (print y) (print x)) found) refl
