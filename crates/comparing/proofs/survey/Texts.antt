-- The first values of a column of strings, gathered from a finished search: a value's footprint is that of its row, whose string is the first
-- one, and the rows stand in the order of their strings. Absence comes before all of them; the empty string is no value of columns 0 to 2.
use Rattle.std.proofs.Common.{ℕ, zero, suc, ◌+◌, ◌-◌, ◌≤◌, ◌<◌, ◌≡◌, refl, sym, ◌∙◌, ap, subst, Bool, true, false, List, [], ◌∷◌, ◌++◌, map, ◌⊎◌, inl, inr, arith, ltb, length, ne_eqb, ltb-true, ltb-false}
use Rattle.stored.specs.Choice.{pick}
use Rattle.stored.specs.Values.{in_range}
use Rattle.stored.specs.Tables.{Statement}
use Rattle.matching.specs.Machinery.Codes.{codes_of}
use Rattle.matching.specs.Machinery.Rows.{row_of}
use Rattle.matching.proofs.States.{row-empty}
use Rattle.matching.proofs.Columns.{same_row}
use Rattle.judging.specs.Requests.{Value, absent, text, number}
use Rattle.states.specs.Machinery.Rows.{most_states, row_at}
use Rattle.states.specs.Machinery.Search.{Explored, string_of}
use Rattle.columns.specs.Values.{values_in}
use Rattle.comparing.specs.Order.{Before, In}
use Rattle.comparing.specs.Requests.{Admitted, AdmitsNeeded}
use Rattle.comparing.specs.Gaps.{Alike}
use Rattle.comparing.specs.Machinery.Product.{Firsts, print_of}
use Rattle.comparing.specs.Machinery.Adding.{text_at, adding, adding_rows}
use Rattle.comparing.proofs.survey.Admitting.{needed, is-needed, optional, is-optional}
use Rattle.comparing.proofs.survey.Gathering.{Upto, Next, none_yet, printed-all, gathered-firsts, adding-next, adding-some, adding-few}
use Rattle.comparing.proofs.survey.Exploring.{reached, string-reaches, strings-ascend, string-behind}
use Rattle.comparing.proofs.survey.AllStates.{empty-alone, two-rows}
use Rattle.comparing.proofs.Deciding.{state-decides}

-- What is found in a column of strings: its first values in order, the words of their footprints, as many as fit; each is shown by a row
-- or by absence.
pub record TextsFound (first second : List Statement) (column : ℕ) (words : List ℕ) (print : ℕ → ℕ) (n : ℕ) (found : List ℕ) : Type 0 where
  pub firsts : Firsts first second column (map (text_at words) found)
  pub prints : map print found ≡ map (print_of first second column) (map (text_at words) found)
  pub some : 0 < length found
  pub few : length found ≤ suc n
  pub inside : (x : ℕ) → In x found → (x ≡ most_states) ⊎ (x < n)

-- the candidates that were looked at: rows from `low` to below k and, where there is absence, its number
abbrev Looked : Type 0 → ℕ → ℕ → ℕ → Type 0
Looked Absence low k x = (Absence × (x ≡ most_states)) ⊎ ((low ≤ x) × (x < k))

-- the values that are like one of them
abbrev RowBelow : List ℕ → List ℕ → Type 0 → ℕ → ℕ → Value → Type 0
RowBelow codes words Absence low k absent = Absence
RowBelow codes words Absence low k (text s) = (i : ℕ) × (low ≤ i) × (i < k) × (row_at words i ≡ row_of codes s)
RowBelow codes words Absence low k (number m) = ⊥

below : (i k : ℕ) → i < suc k → (i < k) ⊎ (i ≡ k)
below i k h = by (ltb i k) refl
  where
    by : (t : Bool) → ltb i k ≡ t → (i < k) ⊎ (i ≡ k)
    by true e = inl (ltb-true i k e)
    by false e = inr (omega (arith, ltb-false i k e))

module _ (first second : List Statement) (column : ℕ) (few : length (codes_of (values_in column (first ++ second))) ≤ most_states)
    (words : List ℕ) (n : ℕ) (e : Explored (codes_of (values_in column (first ++ second))) words n) (print : ℕ → ℕ) where
  abbrev codes : List ℕ
  codes = codes_of (values_in column (first ++ second))

  -- a row's number shows its string
  shown : (k : ℕ) → k < n → text_at words k ≡ text (string_of words k)
  shown k low =
      let few = e.few in
      ap (λ (t : Bool). pick t absent (text (string_of words k))) (ne_eqb k most_states (λ w. omega arith))

  -- a value and the string of its row have the same footprint
  row-alike : (s : List ℕ) (i : ℕ) → i < n → row_at words i ≡ row_of codes s → Alike first second column (text s) (text (string_of words i))
  row-alike s i low same =
      state-decides first second column s (string_of words i)
      (same_row (values_in column (first ++ second)) few s (string_of words i)
      (sym same ∙ sym (string-reaches codes words n _ e i low).0))

  -- what differs between the columns: whether there is absence, and from which row on strings are admitted
  module _ (Absence : Type 0) (low : ℕ)
      (gone : Admitted column absent → Absence)
      (bytes : (s : List ℕ) → Admitted column (text s) → in_range s ≡ true)
      (high : (s : List ℕ) → Admitted column (text s) → (i : ℕ) → row_at words i ≡ row_of codes s → low ≤ i)
      (none : (m : ℕ) → Admitted column (number m) → ⊥)
      (fits : (i : ℕ) → low ≤ i → i < n → Admitted column (text (string_of words i)))
      (printed : (i : ℕ) → low ≤ i → i < n → print i ≡ print_of first second column (text_at words i)) where
    next : (k : ℕ) → low ≤ k → k < n
        → Next first second column (text_at words) print (Looked Absence low k) (RowBelow codes words Absence low k) k
    next k from there =
        record {
          printed = printed k from there;
          ok = rw (shown k there) (fits k from there);
          behind = λ y h. rw (shown k there) (behind y h);
          earlier = λ v ok before. earlier v ok (subst (λ (w : Value). Before v w) (shown k there) before);
        }
      where
        behind : (y : ℕ) → Looked Absence low k y → Before (text_at words y) (text (string_of words k))
        behind y (inl h) = rw h.1 tt
        behind y (inr h) =
            let less = h.1 in
            rw (shown y (omega arith)) (strings-ascend codes words n _ e y k less there)

        row : (s : List ℕ) → Admitted column (text s) → Before (text s) (text (string_of words k))
            → (i : ℕ) × (i < n) × (row_at words i ≡ row_of codes s) → (i : ℕ) × (low ≤ i) × (i < k) × (row_at words i ≡ row_of codes s)
        row s ok before i = by (ltb i.0 k) refl
          where
            by : (t : Bool) → ltb i.0 k ≡ t → (j : ℕ) × (low ≤ j) × (j < k) × (row_at words j ≡ row_of codes s)
            by true q = (i.0, high s ok i.0 i.2, ltb-true i.0 k q, i.2)
            by false q = absurd (string-behind codes words n e i.0 k i.1 (ltb-false i.0 k q) s (bytes s ok) (sym i.2) before)

        earlier : (v : Value) → Admitted column v → Before v (text (string_of words k)) → RowBelow codes words Absence low k v
        earlier absent ok before = gone ok
        earlier (text s) ok before = row s ok before (reached codes words n e s (bytes s ok))
        earlier (number m) ok before = absurd (none m ok)

    covers : (k : ℕ) → k < n → (v : Value) → RowBelow codes words Absence low (suc k) v
        → RowBelow codes words Absence low k v ⊎ Alike first second column v (text_at words k)
    covers k there absent h = inl h
    covers k there (text s) h = by (below h.0 k h.2)
      where
        by : (h.0 < k) ⊎ (h.0 ≡ k) → RowBelow codes words Absence low k (text s) ⊎ Alike first second column (text s) (text_at words k)
        by (inl less) = inl (h.0, h.1, less, h.3)
        by (inr same) = inr (rw (shown k there) (row-alike s k there (ap (row_at words) (sym same) ∙ h.3)))
    covers k there (number m) h = absurd h

    abbrev At : ℕ → List ℕ → Type 0
    At k found = Upto first second column (text_at words) print (Looked Absence low k) (RowBelow codes words Absence low k) found

    -- one row after the other
    rows-from : (m k : ℕ) (found : List ℕ) → low ≤ k → k + m ≤ n → At k found → At (k + m) (adding_rows print found k m)
    rows-from zero k found from room u = subst (λ (j : ℕ). At j found) {x = k} {y = k + 0} (omega arith) u
    rows-from (suc m) k found from room u =
        subst (λ (j : ℕ). At j (adding_rows print (adding print found k) (suc k) m)) {x = suc k + m} {y = k + suc m} (omega arith)
        (rows-from m (suc k) (adding print found k) (omega arith) (omega arith)
        (adding-next first second column (text_at words) print (Looked Absence low k) (Looked Absence low (suc k))
        (RowBelow codes words Absence low k) (RowBelow codes words Absence low (suc k)) found k u (next k from (omega arith))
        (grows k) (inr (from, omega arith)) (λ v ok h. covers k (omega arith) v h)))
      where
        grows : (k y : ℕ) → Looked Absence low k y → Looked Absence low (suc k) y
        grows k y (inl h) = inl h
        grows k y (inr h) = inr (h.0, omega (arith, h.1))

    -- every admitted value is like one of the rows
    whole : (v : Value) → Admitted column v → RowBelow codes words Absence low n v
    whole absent ok = gone ok
    whole (text s) ok =
        let i = reached codes words n e s (bytes s ok) in
        (i.0, high s ok i.0 i.2, i.1, i.2)
    whole (number m) ok = absurd (none m ok)

    -- from a row on to the last
    gathered : (m k : ℕ) (found : List ℕ) → low ≤ k → k + m ≡ n → At k found
        → 0 < length (adding_rows print found k m) → length (adding_rows print found k m) ≤ suc n
        → TextsFound first second column words print n (adding_rows print found k m)
    gathered m k found from all start some few =
        record {
          firsts =
              gathered-firsts first second column (text_at words) print (Looked Absence low n) (RowBelow codes words Absence low n)
              (adding_rows print found k m) last whole;
          prints =
              printed-all first second column (text_at words) print (Looked Absence low n) (RowBelow codes words Absence low n)
              (adding_rows print found k m) last;
          some = some;
          few = few;
          inside = λ x h. by x (last.seen x h);
        }
      where
        last : At n (adding_rows print found k m)
        last = subst (λ (j : ℕ). At j (adding_rows print found k m)) all (rows-from m k found from (omega arith) start)

        by : (x : ℕ) → Looked Absence low n x → (x ≡ most_states) ⊎ (x < n)
        by x (inl h) = inl h.1
        by x (inr h) = inr h.1

-- how many are gathered
rows-some : (print : ℕ → ℕ) (m i : ℕ) (found : List ℕ) → 0 < length found → 0 < length (adding_rows print found i m)
rows-some print zero i found some = some
rows-some print (suc m) i found some = rows-some print m (suc i) (adding print found i) (adding-some print found i)

rows_few : (print : ℕ → ℕ) (m i : ℕ) (found : List ℕ) → length (adding_rows print found i m) ≤ length found + m
rows_few print zero i found = omega arith
rows_few print (suc m) i found = omega (arith, rows_few print m (suc i) (adding print found i), adding-few print found i)

module _ (first second : List Statement) (column : ℕ) (few : length (codes_of (values_in column (first ++ second))) ≤ most_states)
    (words : List ℕ) (n : ℕ) (e : Explored (codes_of (values_in column (first ++ second))) words n) (print : ℕ → ℕ)
    (printed : (i : ℕ) → i < n → print i ≡ print_of first second column (text_at words i)) where
  abbrev codes_in : List ℕ
  codes_in = codes_of (values_in column (first ++ second))

  absence : 3 ≤ column → column < 7 → print most_states ≡ print_of first second column absent
      → Upto first second column (text_at words) print (Looked (Unit {0}) 0 0) (RowBelow codes_in words (Unit {0}) 0 0) (most_states ∷ [])
  absence from to gone =
      adding-next first second column (text_at words) print (λ x. ⊥) (Looked (Unit {0}) 0 0) (λ v. ⊥) (RowBelow codes_in words (Unit {0}) 0 0)
      [] most_states (none_yet first second column (text_at words) print)
      (record { printed = gone; ok = is-optional column from to absent tt; behind = λ y h. absurd h; earlier = λ v ok h. earlier v h })
      (λ y h. absurd h) (inl (tt, refl)) (λ v ok h. covers v h)
    where
      earlier : (v : Value) → Before v absent → ⊥
      earlier absent h = h
      earlier (text s) h = h
      earlier (number m) h = h

      covers : (v : Value) → RowBelow codes_in words (Unit {0}) 0 0 v → ⊥ ⊎ Alike first second column v absent
      covers absent h = inr refl
      covers (text s) h = absurd (omega (arith, h.2))
      covers (number m) h = absurd h

  -- Columns 3 to 6: absence, then the rows.
  pub gather-optional : 3 ≤ column → column < 7 → print most_states ≡ print_of first second column absent
      → TextsFound first second column words print n (adding_rows print (most_states ∷ []) 0 n)
  gather-optional from to gone =
      gathered first second column few words n e print (Unit {0}) 0 (λ ok. tt) (λ s ok. optional column from to (text s) ok)
      (λ s ok i same. omega arith) (λ m ok. optional column from to (number m) ok)
      (λ i l there. is-optional column from to (text (string_of words i)) (string-reaches codes_in words n _ e i there).1)
      (λ i l there. printed i there)
      n 0 (most_states ∷ []) (omega arith) (omega arith) (absence from to gone)
      (rows-some print n 0 (most_states ∷ []) (omega arith))
      (omega (arith, rows_few print n 0 (most_states ∷ [])))

  -- Columns 0 to 2, where the column has a value: the rows but that of the empty string.
  pub gather-needed : column < 3 → 0 < length (values_in column (first ++ second))
      → TextsFound first second column words print n (adding_rows print [] 1 (n - 1))
  gather-needed to values =
      gathered first second column few words n e print ⊥ 1 (λ ok. needed column to absent ok) (λ s ok. (needed column to (text s) ok).1)
      high (λ m ok. needed column to (number m) ok) (λ i l there. is-needed column to (text (string_of words i)) (fits i l there))
      (λ i l there. printed i there)
      (n - 1) 1 [] (omega arith) (omega arith) start
      (rows-there (n - 1) (omega (arith, two)))
      (omega (arith, rows_few print (n - 1) 1 []))
    where
      two : 2 ≤ n
      two = two-rows (values_in column (first ++ second)) values few words n e

      rows-there : (m : ℕ) → 0 < m → 0 < length (adding_rows print [] 1 m)
      rows-there zero h = absurd (omega arith)
      rows-there (suc m) h = rows-some print m 2 (adding print [] 1) (adding-some print [] 1)

      empty : row_of codes_in [] ≡ row_at words 0
      empty = row-empty codes_in ∙ sym e.first

      alone : (s : List ℕ) → 0 < length s → row_at words 0 ≡ row_of codes_in s → ⊥
      alone s some same =
          let gone = empty-alone (values_in column (first ++ second)) values few s (sym same ∙ sym empty) in
          omega (arith, ap length gone)

      high : (s : List ℕ) → Admitted column (text s) → (i : ℕ) → row_at words i ≡ row_of codes_in s → 1 ≤ i
      high s ok zero same = absurd (alone s (needed column to (text s) ok).0 same)
      high s ok (suc i) same = omega arith

      fits : (i : ℕ) → 1 ≤ i → i < n → AdmitsNeeded (text (string_of words i))
      fits i l there = (longer (string_of words i) refl, (string-reaches codes_in words n _ e i there).1)
        where
          longer : (s : List ℕ) → string_of words i ≡ s → 0 < length s
          longer [] same =
              absurd (e.distinct 0 i l there (sym empty ∙ ap (row_of codes_in) (sym same) ∙ (string-reaches codes_in words n _ e i there).0))
          longer (b ∷ s) same = omega arith

      start : Upto first second column (text_at words) print (Looked ⊥ 1 1) (RowBelow codes_in words ⊥ 1 1) []
      start =
          record {
            seen = λ x h. absurd h;
            printed = λ x h. absurd h;
            firsts = λ x h. absurd h;
            order = tt;
            complete = λ v ok h. absurd (no_row v h);
          }
        where
          no_row : (v : Value) → RowBelow codes_in words ⊥ 1 1 v → ⊥
          no_row absent h = h
          no_row (text s) h = omega (arith, h.1, h.2)
          no_row (number m) h = h
