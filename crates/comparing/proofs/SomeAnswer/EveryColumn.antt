-- Each of the eight columns has a list of the first values that show its footprints, where no column has too many states: strings up to
-- the longest that shows a state are enough, with one byte more in columns 0 to 2, which hold no empty string.
use Rattle.std.proofs.Common.{ℕ, zero, suc, ◌+◌, ◌≤◌, ◌<◌, ◌^◌, ◌≡◌, refl, sym, ap, subst, Bool, true, false, List, [], ◌∷◌, ◌++◌, map, inl, inr, arith, ltb, length, length-append, ltb-true, ltb-false}
use Rattle.stored.specs.Tables.{Statement}
use Rattle.matching.specs.Machinery.Codes.{codes_of}
use Rattle.matching.specs.State.{state_of}
use Rattle.matching.specs.Machinery.Rows.{forward}
use Rattle.matching.proofs.States.{backward}
use Rattle.judging.specs.Requests.{Value, absent, text, number, columns}
use Rattle.states.specs.Machinery.Rows.{most_states}
use Rattle.columns.specs.Values.{values_in}
use Rattle.comparing.specs.Order.{Before, In, Ascending}
use Rattle.comparing.specs.Requests.{Admitted, AdmitsNeeded}
use Rattle.comparing.specs.Gaps.{Alike}
use Rattle.comparing.specs.Columns.{IsString, Few}
use Rattle.comparing.specs.Compared.{Uncrowded}
use Rattle.comparing.specs.Machinery.Product.{Firsts, AllFirsts}
use Rattle.comparing.proofs.Members.{in-mapped, mapped_in, ascending-mapped}
use Rattle.comparing.proofs.Ranks.{ranged, in-range, ranged-append, ranged-forward, ranged-backward}
use Rattle.comparing.proofs.Deciding.{state-decides}
use Rattle.comparing.proofs.survey.Admitting.{needed, is-needed, optional, is-optional}
use Rattle.comparing.proofs.SomeAnswer.AllStrings.{numbers, in-numbers, numbers-in, numbers-ascending, Sooner, all_strings, in-all-strings, all-strings-in, all-strings-ascending}
use Rattle.comparing.proofs.SomeAnswer.FewOrMany.{with_byte, state-behind}
use Rattle.comparing.proofs.SomeAnswer.FirstValues.{Shorter, AllShorter, firsts-short}

-- absence in front of strings or numbers
absent-first : {A : Type 0} (make : A → Value) (list : List A) → ((x : A) → Before absent (make x)) → Ascending (λ x y. Before (make x) (make y)) list
    → Ascending Before (absent ∷ map make list)
absent-first make list front up = (
  (λ v i. let (x, j, e) = in-mapped make v list i in subst (Before absent) (sym e) (front x)),
  ascending-mapped make (λ x y. Before (make x) (make y)) Before (λ x y p. p) list up,
)

-- the values of columns 0 to 2
short-needed : (column : ℕ) → column < 3 → (n : ℕ) → AllShorter column (1 + n) (map text (all_strings 1 n))
short-needed column low n =
    record {
      all = λ v i. all v (in-mapped text v (all_strings 1 n) i);
      order = ascending-mapped text Sooner Before (λ s u p. p) (all_strings 1 n) (all-strings-ascending 1 n);
      every = every;
    }
  where
    all : (v : Value) → (s : List ℕ) × In s (all_strings 1 n) × (v ≡ text s) → Admitted column v × Shorter (1 + n) v
    all v (s, i, e) = let (h, some, short) = in-all-strings 1 n s i in rw e (is-needed column low (text s) (some, in-range s h), short)

    every : (v : Value) → Admitted column v → Shorter (1 + n) v → In v (map text (all_strings 1 n))
    every absent ok short = absurd (needed column low absent ok)
    every (text s) ok short =
        let (some, h) = needed column low (text s) ok in mapped_in text s (all_strings 1 n) (all-strings-in 1 n s (ranged s h) some short)
    every (number k) ok short = absurd (needed column low (number k) ok)

-- those of columns 3 to 6
short-optional : (column : ℕ) → 3 ≤ column → column < 7 → (n : ℕ) → AllShorter column n (absent ∷ map text (all_strings 0 n))
short-optional column low high n =
    record { all = all; order = absent-first text (all_strings 0 n) (λ s. tt) (all-strings-ascending 0 n); every = every }
  where
    all : (v : Value) → In v (absent ∷ map text (all_strings 0 n)) → Admitted column v × Shorter n v
    all v (inl e) = rw e (is-optional column low high absent tt, tt)
    all v (inr i) =
        let (s, j, e) = in-mapped text v (all_strings 0 n) i in
        let (h, some, short) = in-all-strings 0 n s j in
        rw e (is-optional column low high (text s) (in-range s h), omega arith)

    every : (v : Value) → Admitted column v → Shorter n v → In v (absent ∷ map text (all_strings 0 n))
    every absent ok short = inl refl
    every (text s) ok short =
        let h = optional column low high (text s) ok in
        inr (mapped_in text s (all_strings 0 n) (all-strings-in 0 n s (ranged s h) (omega arith) (omega arith)))
    every (number k) ok short = absurd (optional column low high (number k) ok)

-- those of column 7: all of them
short-address : AllShorter 7 0 (absent ∷ map number (numbers 0 (2 ^ 32)))
short-address =
    record { all = all; order = absent-first number (numbers 0 (2 ^ 32)) (λ k. tt) (numbers-ascending 0 (2 ^ 32)); every = every }
  where
    all : (v : Value) → In v (absent ∷ map number (numbers 0 (2 ^ 32))) → Admitted 7 v × Shorter 0 v
    all v (inl e) = rw e (tt, tt)
    all v (inr i) = let (k, j, e) = in-mapped number v (numbers 0 (2 ^ 32)) i in rw e ((in-numbers 0 (2 ^ 32) k j).1, tt)

    every : (v : Value) → Admitted 7 v → Shorter 0 v → In v (absent ∷ map number (numbers 0 (2 ^ 32)))
    every absent ok short = inl refl
    every (text s) ok short = absurd ok
    every (number k) ok short = inr (mapped_in number k (numbers 0 (2 ^ 32)) (numbers-in 0 (2 ^ 32) k (omega arith) ok))

-- a number above the lengths of all strings of a list
abbrev bound : List (List ℕ) → ℕ
bound [] = 0
bound (u ∷ list) = suc (length u) + bound list

in-bound : (list : List (List ℕ)) (s : List ℕ) → In s list → length s < bound list
in-bound [] s x' = elim x' [ ]
in-bound (u ∷ list) s (inl e) = omega (arith, ap length e)
in-bound (u ∷ list) s (inr i) = omega (arith, in-bound list s i)

module _ (first second : List Statement) where
  -- the first values of column 7
  firsts-address : (list : List Value) × Firsts first second 7 list
  firsts-address = firsts-short first second 7 0 (absent ∷ map number (numbers 0 (2 ^ 32))) short-address (λ v ok. (v, ok, short v ok, refl))
    where
      short : (v : Value) → Admitted 7 v → Shorter 0 v
      short absent ok = tt
      short (text s) ok = absurd ok
      short (number k) ok = tt

  module _ (column : ℕ) (few : Few (values_in column (first ++ second))) where
    -- a length that no string of the list of states has
    abbrev most : ℕ
    most = bound few.1.list

    -- a string has the state of a short one
    state-short : (s : List ℕ) → IsString s
        → (u : List ℕ) × IsString u × (length u < most) × (state_of (values_in column (first ++ second)) s ≡ state_of (values_in column (first ++ second)) u)
    state-short s h = let (u, i, same) = few.1.every s h in (u, few.1.all u i, in-bound few.1.list u i, same)

    -- the first values of columns 3 to 6: a string is like a short one
    firsts-optional : 3 ≤ column → column < 7 → (list : List Value) × Firsts first second column list
    firsts-optional low high =
        firsts-short first second column most (absent ∷ map text (all_strings 0 most)) (short-optional column low high most) like
      where
        like : (v : Value) → Admitted column v → (w : Value) × Admitted column w × Shorter most w × Alike first second column v w
        like absent ok = (absent, ok, tt, refl)
        like (text s) ok =
            let (u, is, short, same) = state-short s (optional column low high (text s) ok) in
            (text u, is-optional column low high (text u) is, short, state-decides first second column s u same)
        like (number k) ok = absurd (optional column low high (number k) ok)

    -- of columns 0 to 2: a string that ends in a byte is like a short one with the byte behind it
    firsts-needed : length (codes_of (values_in column (first ++ second))) ≤ most_states → column < 3 → (list : List Value) × Firsts first second column list
    firsts-needed narrow low = firsts-short first second column (1 + most) (map text (all_strings 1 most)) (short-needed column low most) like
      where
        ending : (r : List ℕ) → AdmitsNeeded (text (forward r))
            → (u : List ℕ) × AdmitsNeeded (text u) × (length u < 1 + most) × Alike first second column (text (forward r)) (text u)
        ending [] ok = absurd (omega (arith, ok.0))
        ending (b ∷ r) ok =
            let (byte, more) = ranged-backward (b ∷ r) (ranged (with_byte b (forward r)) ok.1) in
            let (u, is, short, same) = state-short (forward r) (in-range (forward r) (ranged-forward r more)) in (
              with_byte b u,
              (omega (arith, length-append u (b ∷ [])), in-range (with_byte b u) (ranged-append u (b ∷ []) (ranged u is) (byte, tt))),
              omega (arith, length-append u (b ∷ [])),
              state-decides first second column (with_byte b (forward r)) (with_byte b u)
                  (state-behind (values_in column (first ++ second)) narrow b (forward r) u same),
            )

        like : (v : Value) → Admitted column v → (w : Value) × Admitted column w × Shorter (1 + most) w × Alike first second column v w
        like absent ok = absurd (needed column low absent ok)
        like (text s) ok =
            let (r, e, row) = backward s in
            let (u, is, short, same) = ending r (rw e (needed column low (text s) ok)) in
            (text u, is-needed column low (text u) is, short, rw e at same)
        like (number k) ok = absurd (needed column low (number k) ok)

  module _ (narrow : (d : ℕ) → d < 7 → length (codes_of (values_in d (first ++ second))) ≤ most_states) (few : Uncrowded (first ++ second)) where
    -- of any column
    firsts-of : (c : ℕ) → c < columns → (list : List Value) × Firsts first second c list
    firsts-of c h = by (ltb c 3) refl (ltb c 7) refl
      where
        by : (t : Bool) → ltb c 3 ≡ t → (u : Bool) → ltb c 7 ≡ u → (list : List Value) × Firsts first second c list
        by true e u f =
            let low = ltb-true c 3 e in
            firsts-needed c (few c (omega arith)) (narrow c (omega arith)) low
        by false e true f = let high = ltb-true c 7 f in firsts-optional c (few c high) (ltb-false c 3 e) high
        by false e false f =
            let seven : 7 ≡ c = omega (arith, ltb-false c 7 f) in
            subst (λ (d : ℕ). (list : List Value) × Firsts first second d list) seven firsts-address

    -- of n columns from one on
    firsts-from : (n c : ℕ) → c + n ≡ columns → (lists : List (List Value)) × AllFirsts first second c lists
    firsts-from zero c e = ([], omega arith)
    firsts-from (suc n) c e =
        let (list, here) = firsts-of c (omega arith) in
        let (lists, more) = firsts-from n (suc c) (omega arith) in
        (list ∷ lists, (here, more))

    -- there is a list of first values for each column
    pub some-firsts : (lists : List (List Value)) × AllFirsts first second 0 lists
    some-firsts = firsts-from 8 0 refl
