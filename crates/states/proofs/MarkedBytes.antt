-- Marking a position in the rows of bytes: the row of a byte is marked and every other word stays.
use Rattle.std.proofs.Common.{ℕ, ◌+◌, ◌*◌, ◌/◌, ◌%◌, ◌^◌, ◌≤◌, ◌<◌, ◌≡◌, refl, sym, ◌∙◌, ap, ap₂, Bool, true, false, ◌&&◌, List, ◌⊎◌, inl, inr, arith, eqb, ltb, length, get_or, take, drop, set, length-set, get_or-set_other, drop-set-lt, lt-ltb, le-ltb, eqb-true, ne_eqb}
use lib.Arith.{lt_of_le-ne}
use lib.Bits.{bit_or}
use lib.Seq.{take-set-le, take-set-lt, drop-set-add}
use borrow.Author.Tests.{eqb-false}
use Rattle.matching.specs.Machinery.Rows.{row_bit, mark_row}
use Rattle.states.specs.Machinery.Bytes.{SetOf}
use Rattle.states.specs.Machinery.Rows.{taken_at, stars_at, row_at, IsByte, taken_laid}
use Rattle.states.specs.Machinery.Taken.{marked_at, Marks}
use Rattle.states.proofs.Below.{below-or-from}
use Rattle.states.proofs.RowsInWords.{part_same, row_word}

module _ (words : List ℕ) (i p : ℕ) (low : p < 512) (room : i * 8 + 8 ≤ length words) where
  -- the row that was marked
  pub mark-laid : row_at (marked_at words i p) i ≡ mark_row (row_at words i) p true
  unfolding mark_row
  mark-laid =
      ap (take 8) (drop-set-add (i * 8) words (p / 64) (bit_or (get_or words (i * 8 + p / 64) 0) (2 ^ (p % 64))))
      ∙ take-set-lt 8 (drop (i * 8) words) (p / 64) (bit_or (get_or words (i * 8 + p / 64) 0) (2 ^ (p % 64))) (omega arith)
      ∙ ap (λ (w : ℕ). set (row_at words i) (p / 64) (bit_or w (2 ^ (p % 64)))) (sym (row_word words i (p / 64) (omega arith)))

  -- every other row
  pub mark-other : (j : ℕ) → (j ≡ i → ⊥) → row_at (marked_at words i p) j ≡ row_at words j
  mark-other j other =
      part_same (marked_at words i p) words (j * 8) 8 (length-set words (i * 8 + p / 64) (bit_or (get_or words (i * 8 + p / 64) 0) (2 ^ (p % 64))))
      (λ k from to. get_or-set_other words (i * 8 + p / 64) k (bit_or (get_or words (i * 8 + p / 64) 0) (2 ^ (p % 64))) 0 (apart k from to (below-or-from j i)))
    where
      apart : (k : ℕ) → j * 8 ≤ k → k < j * 8 + 8 → (j < i) ⊎ (i ≤ j) → k ≡ i * 8 + p / 64 → ⊥
      apart k from to (inl h) w = omega arith
      apart k from to (inr h) w = let later : i < j = lt_of_le-ne h (λ e. other (sym e)) in omega arith

unmarked : (row : List ℕ) (p : ℕ) → mark_row row p false ≡ row
unfolding mark_row
unmarked row p = refl

-- the row of one byte
pub marks-byte : (words : List ℕ) (p b : ℕ) → p < 512 → stars_at ≤ length words → IsByte b → Marks words (marked_at words (607 + b) p) p (λ x. eqb x b)
marks-byte words p b low room is =
    let from = is.0 in
    let to = is.1 in
    let value = bit_or (get_or words ((607 + b) * 8 + p / 64) 0) (2 ^ (p % 64)) in
    record {
      rows = λ x byte. by x (eqb x b) refl;
      front = take-set-le taken_at words ((607 + b) * 8 + p / 64) value (omega arith);
      behind = drop-set-lt stars_at words ((607 + b) * 8 + p / 64) value (omega arith);
      same = length-set words ((607 + b) * 8 + p / 64) value;
    }
  where
    by : (x : ℕ) (t : Bool) → eqb x b ≡ t → taken_laid (marked_at words (607 + b) p) x ≡ mark_row (taken_laid words x) p (eqb x b)
    by x true e =
        let to = is.1 in
        let one = eqb-true x b e in
        ap (taken_laid (marked_at words (607 + b) p)) one
        ∙ mark-laid words (607 + b) p low (omega arith)
        ∙ ap₂ (λ (y : ℕ) (t : Bool). mark_row (taken_laid words y) p t) (sym one) (sym e)
    by x false e =
        let to = is.1 in
        mark-other words (607 + b) p low (omega arith) (607 + x) (λ w. eqb-false x b e (omega arith))
        ∙ sym (unmarked (taken_laid words x) p)
        ∙ ap (mark_row (taken_laid words x) p) (sym e)

-- of none
pub marks-none : (words : List ℕ) (p : ℕ) (f : ℕ → Bool) → ((x : ℕ) → IsByte x → f x ≡ false) → Marks words words p f
marks-none words p f none =
    record {
      rows = λ x byte. sym (unmarked (taken_laid words x) p) ∙ ap (mark_row (taken_laid words x) p) (sym (none x byte));
      front = refl;
      behind = refl;
      same = refl;
    }

-- of the same bytes, said otherwise
pub marks-as : (before after : List ℕ) (p : ℕ) (f g : ℕ → Bool) → Marks before after p f → ((x : ℕ) → IsByte x → f x ≡ g x) → Marks before after p g
marks-as before after p f g m said =
    record {
      rows = λ x byte. m.rows x byte ∙ ap (mark_row (taken_laid before x) p) (said x byte);
      front = m.front;
      behind = m.behind;
      same = m.same;
    }

-- of some bytes, then of others
pub marks-both : (before words after : List ℕ) (p : ℕ) (f g h : ℕ → Bool) → Marks before words p f → Marks words after p g
    → ((x : ℕ) → IsByte x → ((f x ≡ false) × (g x ≡ h x)) ⊎ ((g x ≡ false) × (f x ≡ h x))) → Marks before after p h
marks-both before words after p f g h one two parts =
    record {
      rows = λ x byte. by x byte (parts x byte);
      front = two.front ∙ one.front;
      behind = two.behind ∙ one.behind;
      same = two.same ∙ one.same;
    }
  where
    by : (x : ℕ) → IsByte x → ((f x ≡ false) × (g x ≡ h x)) ⊎ ((g x ≡ false) × (f x ≡ h x)) → taken_laid after x ≡ mark_row (taken_laid before x) p (h x)
    by x byte (inl e) =
        two.rows x byte
        ∙ ap₂ (λ (row : List ℕ) (t : Bool). mark_row row p t)
        (one.rows x byte ∙ ap (mark_row (taken_laid before x) p) e.0 ∙ unmarked (taken_laid before x) p)
        e.1
    by x byte (inr e) =
        two.rows x byte
        ∙ ap (mark_row (taken_laid words x) p) e.0
        ∙ unmarked (taken_laid words x) p
        ∙ one.rows x byte
        ∙ ap (mark_row (taken_laid before x) p) e.1

-- one byte more than those below it
pub marks-next : (before words : List ℕ) (p b : ℕ) → p < 512 → stars_at ≤ length words → IsByte b → Marks before words p (λ x. ltb x b)
    → Marks before (marked_at words (607 + b) p) p (λ x. ltb x (b + 1))
marks-next before words p b low room is m =
    marks-both before words (marked_at words (607 + b) p) p (λ x. ltb x b) (λ x. eqb x b) (λ x. ltb x (b + 1)) m (marks-byte words p b low room is)
    (λ x byte. by x (below-or-from x b))
  where
    last : (x : ℕ) → b ≤ x → (t : Bool) → eqb x b ≡ t → eqb x b ≡ ltb x (b + 1)
    last x h true e = e ∙ sym (lt-ltb x (b + 1) (omega (arith, eqb-true x b e)))
    last x h false e =
        let more : b < x = lt_of_le-ne h (λ w. eqb-false x b e (sym w)) in
        e ∙ sym (le-ltb x (b + 1) (omega arith))

    by : (x : ℕ) → (x < b) ⊎ (b ≤ x) → ((ltb x b ≡ false) × (eqb x b ≡ ltb x (b + 1))) ⊎ ((eqb x b ≡ false) × (ltb x b ≡ ltb x (b + 1)))
    by x (inl h) = inr (ne_eqb x b (λ w. omega arith), lt-ltb x b h ∙ sym (lt-ltb x (b + 1) (omega arith)))
    by x (inr h) = inl (le-ltb x b h, last x h (eqb x b) refl)

-- of the bytes of a set, one after the other

-- whether x is one of those below a bound
abbrev pub below_in : List ℕ → ℕ → ℕ → Bool
below_in set bound x = ltb x bound && row_bit set x

pub marks_begin : (words : List ℕ) (p : ℕ) (set : List ℕ) (from : ℕ) → from ≤ 0x21 → Marks words words p (below_in set from)
marks_begin words p set from low =
    marks-none words p (below_in set from)
    (λ x byte. let first = byte.0 in ap (λ (t : Bool). t && row_bit set x) (le-ltb x from (omega arith)))

module _ (before words : List ℕ) (p : ℕ) (set : List ℕ) (from : ℕ) (m : Marks before words p (below_in set from)) where
  -- no byte is passed
  pub marks_skip : (b : ℕ) → from ≤ b → ((x : ℕ) → from ≤ x → x < b → row_bit set x ≡ false) → Marks before words p (below_in set b)
  marks_skip b up none = marks-as before words p (below_in set from) (below_in set b) m (λ x byte. by x (below-or-from x from) (below-or-from x b))
    where
      by : (x : ℕ) → (x < from) ⊎ (from ≤ x) → (x < b) ⊎ (b ≤ x) → below_in set from x ≡ below_in set b x
      by x (inl less) other = ap (λ (t : Bool). t && row_bit set x) (lt-ltb x from less ∙ sym (lt-ltb x b (omega arith)))
      by x (inr h) (inl less) =
          ap (λ (t : Bool). t && row_bit set x) (le-ltb x from h) ∙ sym (ap₂ ◌&&◌ (lt-ltb x b less) (none x h less))
      by x (inr h) (inr more) = ap (λ (t : Bool). t && row_bit set x) (le-ltb x from h ∙ sym (le-ltb x b more))

  -- one byte more
  pub marks_more : from < 127 → 0x21 ≤ from → p < 512 → stars_at ≤ length words → row_bit set from ≡ true
      → Marks before (marked_at words (607 + from) p) p (below_in set (from + 1))
  marks_more high first low room here =
      marks-both before words (marked_at words (607 + from) p) p (below_in set from) (λ x. eqb x from) (below_in set (from + 1)) m
      (marks-byte words p from low room (first, omega arith)) (λ x byte. by x (below-or-from x from))
    where
      last : (x : ℕ) → from ≤ x → (t : Bool) → eqb x from ≡ t → eqb x from ≡ below_in set (from + 1) x
      last x h true e =
          let same = eqb-true x from e in
          e ∙ sym (ap₂ ◌&&◌ (lt-ltb x (from + 1) (omega arith)) (ap (row_bit set) same ∙ here))
      last x h false e =
          let more : from < x = lt_of_le-ne h (λ w. eqb-false x from e (sym w)) in
          e ∙ sym (ap (λ (t : Bool). t && row_bit set x) (le-ltb x (from + 1) (omega arith)))

      by : (x : ℕ) → (x < from) ⊎ (from ≤ x)
          → ((below_in set from x ≡ false) × (eqb x from ≡ below_in set (from + 1) x)) ⊎ ((eqb x from ≡ false) × (below_in set from x ≡ below_in set (from + 1) x))
      by x (inl h) =
          inr (ne_eqb x from (λ w. omega arith), ap (λ (t : Bool). t && row_bit set x) (lt-ltb x from h ∙ sym (lt-ltb x (from + 1) (omega arith))))
      by x (inr h) = inl (ap (λ (t : Bool). t && row_bit set x) (le-ltb x from h), last x h (eqb x from) refl)

  -- all bytes of strings
  pub marks_end : (f : ℕ → Bool) → SetOf f set → ((x : ℕ) → from ≤ x → x < 127 → row_bit set x ≡ false) → Marks before words p f
  marks_end f of none = marks-as before words p (below_in set from) f m (λ x byte. by x byte (below-or-from x from))
    where
      by : (x : ℕ) → IsByte x → (x < from) ⊎ (from ≤ x) → below_in set from x ≡ f x
      by x byte (inl less) = let last = byte.1 in ap (λ (t : Bool). t && row_bit set x) (lt-ltb x from less) ∙ of x (omega arith)
      by x byte (inr h) =
          let last = byte.1 in
          ap (λ (t : Bool). t && row_bit set x) (le-ltb x from h) ∙ sym (none x h (omega arith)) ∙ of x (omega arith)
