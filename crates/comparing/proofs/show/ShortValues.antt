-- No first value is longer than 512 bytes, so that refusal 15 is never given: the starts of a first string, from its first byte on, have
-- states of their own, for else the string without what lies between two of them would come before it; and a column that 11 is not
-- given for has at most 512 states.
use Rattle.std.proofs.Common.{ℕ, zero, suc, ◌+◌, ◌≤◌, ◌<◌, ◌≡◌, refl, ◌∙◌, ap, subst, Bool, true, false, List, [], ◌∷◌, ◌++◌, inl, inr, arith, ltb, length, take, drop, length-append, length-drop, take-append-drop, length-take-le, lt-ltb, le-ltb, ltb-true, ltb-false}
use Rattle.stored.specs.Choice.{pick}
use Rattle.stored.specs.Values.{in_range}
use Rattle.stored.specs.Tables.{Statement}
use Rattle.matching.specs.Machinery.Codes.{codes_of}
use Rattle.matching.specs.Machinery.Rows.{positions}
use Rattle.matching.specs.State.{state_of}
use Rattle.matching.specs.declared.reading.Reading.{Reading}
use Rattle.judging.specs.Requests.{Value, absent, text, number, columns}
use Rattle.columns.specs.Values.{values_in}
use Rattle.comparing.specs.Order.{In}
use Rattle.comparing.specs.Requests.{AdmitsNeeded, AdmitsOptional, AdmitsAddress, Admitted, Each}
use Rattle.comparing.specs.Gaps.{footprint, FirstOf}
use Rattle.comparing.specs.Counts.{Apart, MoreThan}
use Rattle.comparing.specs.Columns.{IsString, Few}
use Rattle.comparing.specs.Compared.{value_room, bytes_in, Uncrowded, first_long}
use Rattle.comparing.specs.Outcomes.{NoneWide}
use Rattle.comparing.proofs.Ranks.{Ranged, ranged, in-range, ranged-append}
use Rattle.comparing.proofs.Deciding.{state-decides}
use Rattle.comparing.proofs.SameBehind.{state-more}
use Rattle.comparing.proofs.OneAnswer.{few-or-many}
use Rattle.comparing.proofs.compare.NotWide.{narrow-codes}

ranged-take : (n : ℕ) (s : List ℕ) → Ranged s → Ranged (take n s)
ranged-take zero s h = tt
ranged-take (suc n) [] h = tt
ranged-take (suc n) (b ∷ s) h = (h.0, ranged-take n s h.1)

ranged-drop : (n : ℕ) (s : List ℕ) → Ranged s → Ranged (drop n s)
ranged-drop zero s h = h
ranged-drop (suc n) [] h = tt
ranged-drop (suc n) (b ∷ s) h = ranged-drop n s h.1

-- the starts of a string: n of them, from one of a length on
abbrev starts_of : ℕ → ℕ → List ℕ → List (List ℕ)
starts_of zero from s = []
starts_of (suc n) from s = take from s ∷ starts_of n (suc from) s

starts-length : (n from : ℕ) (s : List ℕ) → length (starts_of n from s) ≡ n
starts-length zero from s = refl
starts-length (suc n) from s = ap suc (starts-length n (suc from) s)

starts-in : (n from : ℕ) (s x : List ℕ) → In x (starts_of n from s) → (i : ℕ) × (from ≤ i) × (i < from + n) × (x ≡ take i s)
starts-in zero from s x i = absurd i
starts-in (suc n) from s x (inl e) = (from, omega arith, omega arith, e)
starts-in (suc n) from s x (inr i) =
    let (j, low, high, e) = starts-in n (suc from) s x i in
    (j, omega arith, omega arith, e)

module _ (first second : List Statement) (column : ℕ) (low : column < 7)
    (few : length (codes_of (values_in column (first ++ second))) ≤ positions)
    (s : List ℕ) (least : FirstOf first second column (text s)) where
  abbrev values : List (Reading × List ℕ)
  values = values_in column (first ++ second)

  admits-text : (u : List ℕ) → in_range u ≡ true → 0 < length u → Admitted column (text u)
  admits-text u ok some = by (ltb column 3) (ltb column 7) (lt-ltb column 7 low)
    where
      by : (t w : Bool) → w ≡ true → pick t (AdmitsNeeded (text u)) (pick w (AdmitsOptional (text u)) (AdmitsAddress (text u)))
      by true w e = (some, ok)
      by false true e = ok
      by false false e = absurd (no e)
        where
          no : false ≡ true → ⊥
          no e = let z : ◌≡◌ {A = ℕ} 0 1 = cc in omega arith

  in-text : in_range s ≡ true
  in-text = by (ltb column 3) (ltb column 7) least.ok
    where
      by : (t w : Bool) → pick t (AdmitsNeeded (text s)) (pick w (AdmitsOptional (text s)) (AdmitsAddress (text s))) → in_range s ≡ true
      by true w h = h.1
      by false true h = h
      by false false h = absurd h

  -- two starts, the first of them not empty, have states of their own
  start-once : (j i : ℕ) → 1 ≤ j → j < i → i ≤ length s → state_of values (take j s) ≡ state_of values (take i s) → ⊥
  start-once j i some up high same = least.least (text cut) (admits-text cut cut_in (omega (arith, cut-length))) alike (inl (omega (arith, cut-length)))
    where
      cut : List ℕ
      cut = take j s ++ drop i s

      cut-length : length cut + i ≡ j + length s
      cut-length =
          omega (arith, length-append (take j s) (drop i s), length-take-le j s (omega arith), length-drop i s)

      cut_in : in_range cut ≡ true
      cut_in = in-range cut (ranged-append (take j s) (drop i s) (ranged-take j s (ranged s in-text)) (ranged-drop i s (ranged s in-text)))

      alike : footprint first second column (text cut) ≡ footprint first second column (text s)
      alike =
          state-decides first second column cut s
          (state-more values few (take j s) (take i s) (drop i s) same ∙ ap (state_of values) (take-append-drop i s))

  starts_apart : (n from : ℕ) → 1 ≤ from → from + n ≤ suc (length s) → Apart (state_of values) (starts_of n from s)
  starts_apart zero from some high = tt
  starts_apart (suc n) from some high =
      (λ y i. by y (starts-in n (suc from) s y i), starts_apart n (suc from) (omega arith) (omega arith))
    where
      by : (y : List ℕ) → (i : ℕ) × (suc from ≤ i) × (i < suc from + n) × (y ≡ take i s)
          → state_of values (take from s) ≡ state_of values y → ⊥
      by y (i, l, h, e) same = start-once from i some (omega arith) (omega arith) (same ∙ ap (state_of values) e)

  more-states : (n : ℕ) → suc n ≤ length s → MoreThan IsString (state_of values) n
  more-states n long =
      record {
        list = starts_of (suc n) 1 s;
        size = starts-length (suc n) 1 s;
        all = λ x i. by x (starts-in (suc n) 1 s x i);
        apart = starts_apart (suc n) 1 (omega arith) (omega arith);
      }
    where
      by : (x : List ℕ) → (i : ℕ) × (1 ≤ i) × (i < 1 + suc n) × (x ≡ take i s) → in_range x ≡ true
      by x (i, l, h, e) = ap in_range e ∙ in-range (take i s) (ranged-take i s (ranged s in-text))

  -- a first string has at most 512 bytes where there are at most 512 states
  pub first_short : Few values → length s ≤ value_room
  first_short states = by (ltb value_room (length s)) refl
    where
      by : (t : Bool) → ltb value_room (length s) ≡ t → length s ≤ value_room
      by true e = absurd (few-or-many values states (more-states 512 (ltb-true value_room (length s) e)))
      by false e = ltb-false value_room (length s) e

module _ (first second : List Statement) (narrow : NoneWide (first ++ second)) (few : Uncrowded (first ++ second)) where
  first-value-short : (column : ℕ) (v : Value) → FirstOf first second column v → length (bytes_in v) ≤ value_room
  first-value-short column absent f = omega arith
  first-value-short column (text s) f = by (ltb column 7) refl
    where
      by : (t : Bool) → ltb column 7 ≡ t → length s ≤ value_room
      by true e =
          let low = ltb-true column 7 e in
          first_short first second column low (narrow-codes (first ++ second) narrow column low) s f (few column low)
      by false e = absurd (nowhere (ltb-false column 7 e))
        where
          nowhere : 7 ≤ column → ⊥
          nowhere high =
              let at : pick (ltb column 3) (AdmitsNeeded (text s)) (pick false (AdmitsOptional (text s)) (AdmitsAddress (text s))) =
              subst (λ (t : Bool). pick (ltb column 3) (AdmitsNeeded (text s)) (pick t (AdmitsOptional (text s)) (AdmitsAddress (text s)))) e f.ok in
              subst (λ (t : Bool). pick t (AdmitsNeeded (text s)) ⊥) (le-ltb column 3 (omega arith)) at
  first-value-short column (number n) f = omega arith

  -- no column of a request of first values is too long to be shown
  pub firsts-short : (column : ℕ) (request : List Value) → Each (FirstOf first second) column request → first_long column request ≡ columns
  firsts-short column [] f = f
  firsts-short column (v ∷ request) f =
      ap (λ (t : Bool). pick t column (first_long (suc column) request)) (le-ltb value_room (length (bytes_in v)) (first-value-short column v f.0))
      ∙ firsts-short (suc column) request f.1
