-- The first value that shows a footprint is the string of the lowest state that shows it: no string before it has that state or a later one,
-- and the strings of the states before it have other footprints. Of addresses only the edges need to be looked at.
use Rattle.std.proofs.Common.{ℕ, zero, suc, ◌+◌, ◌^◌, ◌≤◌, ◌<◌, ◌≡◌, refl, sym, ◌∙◌, ap, subst, Bool, true, false, List, [], ◌∷◌, ◌++◌, inl, inr, arith, ltb, length, ltb-true, ltb-false, lt-ltb, le-ltb, Option, Some, None, IsSome}
use Rattle.stored.specs.Choice.{pick}
use Rattle.stored.specs.Values.{in_range}
use Rattle.stored.specs.Tables.{Statement}
use Rattle.matching.specs.declared.reading.Reading.{Reading}
use Rattle.matching.specs.Machinery.Codes.{codes_of}
use Rattle.matching.specs.Machinery.Rows.{row_of}
use Rattle.matching.proofs.States.{row-empty}
use Rattle.matching.proofs.Columns.{same_row}
use Rattle.judging.specs.Requests.{Value, absent, text, number}
use Rattle.states.specs.Machinery.Rows.{most_states, row_at}
use Rattle.states.specs.Machinery.Search.{Explored, FoundAll, string_of}
use Rattle.columns.specs.Values.{values_in, sum_of, networks_in}
use Rattle.columns.specs.Machinery.Edges.{next_edge}
use Rattle.columns.specs.Machinery.Both.{Narrow}
use Rattle.columns.proofs.Widths.{codes-sum}
use Rattle.comparing.specs.Order.{Before}
use Rattle.comparing.specs.Requests.{Admitted, AdmitsNeeded, AdmitsOptional, AdmitsAddress}
use Rattle.comparing.specs.Gaps.{Alike}
use Rattle.comparing.specs.Columns.{Few}
use Rattle.comparing.specs.Compared.{bytes_in}
use Rattle.comparing.specs.Machinery.Product.{print_of}
use Rattle.comparing.specs.Machinery.ShownValues.{FirstWith, StartsAt, LowestState, FoundState, NoneBelow}
use Rattle.comparing.proofs.survey.Admitting.{needed, is-needed, optional, is-optional}
use Rattle.comparing.proofs.survey.AllStates.{empty-alone, states-many}
use Rattle.comparing.proofs.Deciding.{state-decides}
use Rattle.comparing.proofs.survey.EdgeSteps.{alike-between}
use Rattle.comparing.proofs.survey.Exploring.{reached, string-reaches, string-behind}
use Rattle.comparing.proofs.survey.Gathering.{alike-printed, printed-alike}
use Rattle.comparing.proofs.survey.NoValues.{texts-alike}
use Rattle.comparing.proofs.OneAnswer.{few-or-many}
use Rattle.comparing.proofs.Order.{Compares, before-total}
use Rattle.comparing.proofs.Ranks.{ranged}

-- none of the numbers from one on up to and with the next
pub none-next : (P : ℕ → Type 0) (from i : ℕ) → ((j : ℕ) → from ≤ j → j < i → P j → ⊥) → (P i → ⊥)
    → (j : ℕ) → from ≤ j → j < i + 1 → P j → ⊥
none-next P from i none other j low high p = by (ltb j i) refl
  where
    by : (t : Bool) → ltb j i ≡ t → ⊥
    by true e = none j low (ltb-true j i e) p
    by false e =
        let same : j ≡ i = omega (arith, ltb-false j i e) in
        other (subst P same p)

-- the states that show values begin where the column says
pub starts-needed : (rows : List Statement) (column : ℕ) → column < 3 → 0 < sum_of (values_in column rows) → StartsAt rows column 1
starts-needed rows column low some =
    subst (λ (t : Bool). pick t ((◌≡◌ {A = ℕ} 1 1) × (0 < sum_of (values_in column rows))) (◌≡◌ {A = ℕ} 1 0)) (sym (lt-ltb column 3 low)) (refl, some)

pub starts-optional : (rows : List Statement) (column : ℕ) → 3 ≤ column → StartsAt rows column 0
starts-optional rows column high =
    subst (λ (t : Bool). pick t ((◌≡◌ {A = ℕ} 0 1) × (0 < sum_of (values_in column rows))) (◌≡◌ {A = ℕ} 0 0)) (sym (le-ltb column 3 high)) refl

-- a narrow column has at most 512 positions
pub codes-few : (first second : List Statement) (column : ℕ) → Narrow (first ++ second) column
    → length (codes_of (values_in column (first ++ second))) ≤ most_states
codes-few first second column narrow = omega (arith, narrow, codes-sum (values_in column (first ++ second)))

-- a list whose sum is not 0 has a value
pub has_value : (vs : List (Reading × List ℕ)) → 0 < sum_of vs → 0 < length vs
has_value [] h = absurd (omega arith)
has_value (v ∷ vs) h = omega arith

module _ (first second : List Statement) (column : ℕ) (few : length (codes_of (values_in column (first ++ second))) ≤ most_states)
    (words : List ℕ) (n : ℕ) (e : Explored (codes_of (values_in column (first ++ second))) words n)
    (from : ℕ) (starts : StartsAt (first ++ second) column from) (low : column < 7) where
  abbrev codes : List ℕ
  codes = codes_of (values_in column (first ++ second))

  row-alike : (s : List ℕ) (i : ℕ) → i < n → row_at words i ≡ row_of codes s → Alike first second column (text s) (text (string_of words i))
  row-alike s i there same =
      state-decides first second column s (string_of words i)
      (same_row (values_in column (first ++ second)) few s (string_of words i)
      (sym same ∙ sym (string-reaches codes words n _ e i there).0))

  empty : row_of codes [] ≡ row_at words 0
  empty = row-empty codes ∙ sym e.first

  -- what differs between the columns that must be there and those that may be absent
  record Admits : Type 0 where
    bytes : (s : List ℕ) → Admitted column (text s) → in_range s ≡ true
    high : (s : List ℕ) → Admitted column (text s) → (i : ℕ) → row_at words i ≡ row_of codes s → from ≤ i
    fits : (i : ℕ) → from ≤ i → i < n → Admitted column (text (string_of words i))
    enough : from ≤ n

  admits-needed : column < 3 → from ≡ 1 → 0 < sum_of (values_in column (first ++ second)) → Admits
  admits-needed to one some =
      record {
        bytes = λ s ok. (needed column to (text s) ok).1;
        high = high;
        fits = λ i up there. is-needed column to (text (string_of words i)) (longer i up there, (string-reaches codes words n _ e i there).1);
        enough = omega (arith, e.some);
      }
    where
      values : 0 < length (values_in column (first ++ second))
      values = has_value (values_in column (first ++ second)) some

      alone : (s : List ℕ) → 0 < length s → row_at words 0 ≡ row_of codes s → ⊥
      alone s more same =
          let gone = empty-alone (values_in column (first ++ second)) values few s (sym same ∙ sym empty) in
          omega (arith, ap length gone)

      high : (s : List ℕ) → Admitted column (text s) → (i : ℕ) → row_at words i ≡ row_of codes s → from ≤ i
      high s ok zero same = absurd (alone s (needed column to (text s) ok).0 same)
      high s ok (suc i) same = omega arith

      longer : (i : ℕ) → from ≤ i → i < n → 0 < length (string_of words i)
      longer i up there = by (string_of words i) refl
        where
          by : (s : List ℕ) → string_of words i ≡ s → 0 < length s
          by [] same =
              absurd (e.distinct 0 i (omega arith) there (sym empty ∙ ap (row_of codes) (sym same) ∙ (string-reaches codes words n _ e i there).0))
          by (b ∷ s) same = omega arith

  admits-optional : 3 ≤ column → from ≡ 0 → Admits
  admits-optional up none =
      record {
        bytes = λ s ok. optional column up low (text s) ok;
        high = λ s ok i same. omega arith;
        fits = λ i l there. is-optional column up low (text (string_of words i)) (string-reaches codes words n _ e i there).1;
        enough = omega arith;
      }

  admits : Admits
  admits = by (ltb column 3) refl starts
    where
      by : (t : Bool) → ltb column 3 ≡ t → pick t ((from ≡ 1) × (0 < sum_of (values_in column (first ++ second)))) (from ≡ 0) → Admits
      by true h k = admits-needed (ltb-true column 3 h) k.0 k.1
      by false h k = admits-optional (ltb-false column 3 h) k

  module _ (print : ℕ) (s : List ℕ) (v : FirstWith first second column print (text s)) where
    row : (i : ℕ) × (i < n) × (row_at words i ≡ row_of codes s)
    row = reached codes words n e s (admits.bytes s v.least.ok)

    row-shown : print_of first second column (text (string_of words row.0)) ≡ print
    row-shown = sym (alike-printed first second column (text s) (text (string_of words row.0)) (row-alike s row.0 row.1 row.2)) ∙ v.printed

    -- some state shows the footprint
    pub some-state : (r : Option ℕ) → FoundState first second column words from n print r → IsSome r
    some-state (Some i) found = refl
    some-state None none = absurd (none row.0 (admits.high s v.least.ok row.0 row.2) row.1 row-shown)

    -- and the string of the lowest one is the first value
    pub string-found : (i : ℕ) → LowestState first second column words from n print i → string_of words i ≡ s
    string-found i found = by (before-total (text (string_of words i)) (text s))
      where
        no-later : i ≤ row.0
        no-later = test (ltb row.0 i) refl
          where
            test : (t : Bool) → ltb row.0 i ≡ t → i ≤ row.0
            test true h = absurd (found.before row.0 (admits.high s v.least.ok row.0 row.2) (ltb-true row.0 i h) row-shown)
            test false h = ltb-false row.0 i h

        alike : Alike first second column (text (string_of words i)) (text s)
        alike = printed-alike first second column (text (string_of words i)) (text s) (found.here ∙ sym v.printed)

        by : Compares Before (text (string_of words i)) (text s) → string_of words i ≡ s
        by (inl p) = absurd (v.least.least (text (string_of words i)) (admits.fits i found.low found.high) alike p)
        by (inr (inl p)) = ap bytes_in p
        by (inr (inr p)) =
            absurd (string-behind codes words n e row.0 i row.1 no-later s (admits.bytes s v.least.ok) (sym row.2) p)

  -- it has less than 512 bytes
  pub string-short : (r : ℕ) → r < n → length (string_of words r) ≤ 512
  string-short r there = omega (arith, (string-reaches codes words n _ e r there).2, e.few)

-- the states of a column with few of them were all found
pub few-found : (first second : List Statement) (column : ℕ) → length (codes_of (values_in column (first ++ second))) ≤ most_states
    → Few (values_in column (first ++ second)) → (words : List ℕ) (r : Option ℕ) → FoundAll (codes_of (values_in column (first ++ second))) words r → IsSome r
few-found first second column narrow few words (Some n) e = refl
few-found first second column narrow few words None x =
    absurd (few-or-many (values_in column (first ++ second)) few (states-many (values_in column (first ++ second)) narrow words x))

module _ (first second : List Statement) where
  -- where a column must be there and nothing is listed, the first value is one byte 21
  pub any_found : (column print : ℕ) → column < 3 → values_in column (first ++ second) ≡ []
      → (v : Value) → FirstWith first second column print v → v ≡ text (0x21 ∷ [])
  any_found column print low none absent v = absurd (needed column low absent v.least.ok)
  any_found column print low none (number m) v = absurd (needed column low (number m) v.least.ok)
  any_found column print low none (text s) v = by s (needed column low (text s) v.least.ok) v.least.least
    where
      by : (s : List ℕ) → AdmitsNeeded (text s)
          → ((w : Value) → Admitted column w → Alike first second column w (text s) → Before w (text s) → ⊥) → text s ≡ text (0x21 ∷ [])
      by [] ok least = absurd (omega (arith, ok.0))
      by (b ∷ []) ok least = one (ltb 0x21 b) refl
        where
          one : (t : Bool) → ltb 0x21 b ≡ t → text (b ∷ []) ≡ text (0x21 ∷ [])
          one true h =
              absurd (least (text (0x21 ∷ [])) (is-needed column low (text (0x21 ∷ [])) (omega arith, refl)) (texts-alike first second column none (0x21 ∷ []) (b ∷ []))
              (inr (refl, inl (ltb-true 0x21 b h))))
          one false h =
              let same : b ≡ 0x21 = omega (arith, ltb-false 0x21 b h, (ranged (b ∷ []) ok.1).0.0) in
              ap (λ (x : ℕ). text (x ∷ [])) same
      by (b ∷ (d ∷ s)) ok least =
          absurd (least (text (0x21 ∷ [])) (is-needed column low (text (0x21 ∷ [])) (omega arith, refl)) (texts-alike first second column none (0x21 ∷ []) (b ∷ (d ∷ s))) (inl (omega arith)))

  -- from column 3 on a column may be absent
  absent-admitted : (column : ℕ) → 3 ≤ column → Admitted column absent
  absent-admitted column up =
      subst (λ (t : Bool). pick t (AdmitsNeeded absent) (pick (ltb column 7) (AdmitsOptional absent) (AdmitsAddress absent)))
      (sym (le-ltb column 3 up)) (by (ltb column 7))
    where
      by : (t : Bool) → pick t (AdmitsOptional absent) (AdmitsAddress absent)
      by true = tt
      by false = tt

  -- a column that must be there holds a string
  pub string-needed : (column print : ℕ) → column < 3 → (v : Value) → FirstWith first second column print v → (s : List ℕ) × (v ≡ text s)
  string-needed column print low absent v = absurd (needed column low absent v.least.ok)
  string-needed column print low (text s) v = (s, refl)
  string-needed column print low (number m) v = absurd (needed column low (number m) v.least.ok)

  -- and the first string is there
  pub has-string : (column print : ℕ) → ((v : Value) → FirstWith first second column print v → (s : List ℕ) × (v ≡ text s))
      → (v : Value) × FirstWith first second column print v → (s : List ℕ) × FirstWith first second column print (text s)
  has-string column print only w =
      ((only w.0 w.1).0, subst (λ (x : Value). FirstWith first second column print x) (only w.0 w.1).1 w.1)

  -- what absence shows is shown by absence
  pub absence-found : (column print : ℕ) → 3 ≤ column → print_of first second column absent ≡ print
      → (v : Value) → FirstWith first second column print v → v ≡ absent
  absence-found column print up shown absent v = refl
  absence-found column print up shown (text s) v =
      absurd (v.least.least absent (absent-admitted column up) (printed-alike first second column absent (text s) (shown ∙ sym v.printed)) tt)
  absence-found column print up shown (number m) v =
      absurd (v.least.least absent (absent-admitted column up) (printed-alike first second column absent (number m) (shown ∙ sym v.printed)) tt)

  -- and what absence does not show is not absence
  pub string-behind-absence : (column print : ℕ) → 3 ≤ column → column < 7 → (print_of first second column absent ≡ print → ⊥)
      → (v : Value) → FirstWith first second column print v → (s : List ℕ) × (v ≡ text s)
  string-behind-absence column print up low other absent v = absurd (other v.printed)
  string-behind-absence column print up low other (text s) v = (s, refl)
  string-behind-absence column print up low other (number m) v = absurd (optional column up low (number m) v.least.ok)

  -- an address below which none has the footprint, and which has it, is the first value
  pub address-found : (print x : ℕ) → x < 2 ^ 32 → NoneBelow first second print x → print_of first second 7 (number x) ≡ print
      → (print_of first second 7 absent ≡ print → ⊥) → (v : Value) → FirstWith first second 7 print v → v ≡ number x
  address-found print x low none shown other absent v = absurd (other v.printed)
  address-found print x low none shown other (text s) v = absurd v.least.ok
  address-found print x low none shown other (number m) v = by (before-total (number x) (number m))
    where
      by : Compares Before (number x) (number m) → number m ≡ number x
      by (inl p) =
          absurd (v.least.least (number x) low (printed-alike first second 7 (number x) (number m) (shown ∙ sym v.printed)) p)
      by (inr (inl p)) = sym p
      by (inr (inr p)) = absurd (none m p v.printed)

  -- where no address has the footprint, and absence has not, there is no value
  pub none_found : (print : ℕ) → NoneBelow first second print (2 ^ 32) → (print_of first second 7 absent ≡ print → ⊥)
      → (v : Value) → FirstWith first second 7 print v → ⊥
  none_found print none other absent v = other v.printed
  none_found print none other (text s) v = v.least.ok
  none_found print none other (number m) v = none m v.least.ok v.printed

  -- from one edge to the next no address has another footprint
  pub none_more : (print x : ℕ) → NoneBelow first second print x → (print_of first second 7 (number x) ≡ print → ⊥)
      → NoneBelow first second print (next_edge (networks_in (first ++ second)) x)
  none_more print x none other m h shown = by (ltb m x) refl
    where
      by : (t : Bool) → ltb m x ≡ t → ⊥
      by true e = none m (ltb-true m x e) shown
      by false e =
          other (sym (alike-printed first second 7 (number m) (number x) (alike-between x m (ltb-false m x e) first second h)) ∙ shown)
