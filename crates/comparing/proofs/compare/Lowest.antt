-- The lowest column for which a test holds: it holds there, and for none below; and so refusal 10 is given for the lowest wide column.
use Rattle.std.proofs.Common.{ℕ, zero, suc, ◌+◌, ◌≤◌, ◌<◌, ◌≡◌, refl, sym, ◌∙◌, subst, Bool, true, false, true≢false, List, arith, ltb, eqb, ltb-true, ltb-false, eqb-true}
use borrow.Author.Tests.{eqb-false}
use Rattle.stored.specs.Choice.{pick}
use Rattle.stored.specs.Tables.{Statement}
use Rattle.judging.specs.Requests.{columns}
use Rattle.comparing.specs.Columns.{is_wide}
use Rattle.comparing.specs.Compared.{lowest, first_wide}
use Rattle.comparing.specs.Outcomes.{Wide, NoneWide}

module _ (test : ℕ → Bool) where
  -- the test holds there
  pub lowest-holds : (c n : ℕ) → lowest test c n < c + n → test (lowest test c n) ≡ true
  lowest-holds c zero low = absurd (omega arith)
  lowest-holds c (suc n) low = by (test c) refl (lowest-holds (suc c) n) low
    where
      by : (t : Bool) → test c ≡ t → (lowest test (suc c) n < suc c + n → test (lowest test (suc c) n) ≡ true)
          → pick t c (lowest test (suc c) n) < c + suc n → test (pick t c (lowest test (suc c) n)) ≡ true
      by true e h small = e
      by false e h small = h (omega arith)

  -- the test does not hold below
  pub lowest-first : (c n d : ℕ) → c ≤ d → d < lowest test c n → test d ≡ false
  lowest-first c zero d from low = absurd (omega arith)
  lowest-first c (suc n) d from low = by (test c) refl (lowest-first (suc c) n d) low
    where
      by : (t : Bool) → test c ≡ t → (suc c ≤ d → d < lowest test (suc c) n → test d ≡ false)
          → d < pick t c (lowest test (suc c) n) → test d ≡ false
      by true e h small = absurd (omega arith)
      by false e h small = here (eqb c d) refl
        where
          here : (u : Bool) → eqb c d ≡ u → test d ≡ false
          here true f = subst (λ (x : ℕ). test x ≡ false) (eqb-true c d f) e
          here false f = h (by-ne (eqb-false c d f)) small
            where
              by-ne : (c ≡ d → ⊥) → suc c ≤ d
              by-ne ne = omega arith

module _ (rows : List Statement) where
  -- where the first wide column is one of the eight, 10 is given for it
  pub first-wide : first_wide rows < columns → Wide rows (first_wide rows)
  first-wide low =
      record {
        low = low;
        wide = lowest-holds (is_wide rows) 0 columns low;
        below = λ d h. lowest-first (is_wide rows) 0 columns d (omega arith) h;
      }

  -- and where it is not, for none
  pub none-wide : columns ≤ first_wide rows → NoneWide rows
  none-wide high d low = lowest-first (is_wide rows) 0 columns d (omega arith) (omega arith)

  -- the column that 10 is given for is the first wide one
  pub wide-first : (c : ℕ) → Wide rows c → first_wide rows ≡ c
  wide-first c w = by (ltb (first_wide rows) c) refl (ltb c (first_wide rows)) refl
    where
      by : (t : Bool) → ltb (first_wide rows) c ≡ t → (u : Bool) → ltb c (first_wide rows) ≡ u → first_wide rows ≡ c
      by true e u f =
          let small = ltb-true (first_wide rows) c e in
          absurd (true≢false (sym (lowest-holds (is_wide rows) 0 columns (omega (arith, w.low))) ∙ w.below (first_wide rows) small))
      by false e true f =
          absurd (true≢false (sym w.wide ∙ lowest-first (is_wide rows) 0 columns c (omega arith) (ltb-true c (first_wide rows) f)))
      by false e false f = omega (arith, ltb-false (first_wide rows) c e, ltb-false c (first_wide rows) f)

  -- where 10 is given for no column the first wide one is none of the eight
  pub none_first : NoneWide rows → columns ≤ first_wide rows
  none_first none = by (ltb (first_wide rows) columns) refl
    where
      by : (t : Bool) → ltb (first_wide rows) columns ≡ t → columns ≤ first_wide rows
      by true e =
          let low = ltb-true (first_wide rows) columns e in
          absurd (true≢false (sym (lowest-holds (is_wide rows) 0 columns low) ∙ none (first_wide rows) low))
      by false e = ltb-false (first_wide rows) columns e
