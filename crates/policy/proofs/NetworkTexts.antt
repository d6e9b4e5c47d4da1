-- The reading of a network's text one byte at a time says what the text says.
use Prim.{tt}
use Rattle.std.proofs.Common.{Option, Some, None, ℕ, zero, suc, ◌+◌, ◌*◌, ◌-◌, ◌^◌, ◌≤◌, ◌<◌, Bool, true, false, ◌≡◌, refl, ◌∙◌, ap, List, [], ◌∷◌, arith, eqb, leb, leb-true, ne_eqb}
use Rattle.json_text.specs.Choice.{pick}
use Rattle.json_text.specs.Bytes.{is_digit}
use Rattle.records.specs.Networks as N
use Rattle.records.specs.Networks.{with_digit, after_digit, length_of, dotted, slashed, numbers_of}
use Rattle.policy.specs.Machinery.NetworkTexts.{longer_of, digit_step, dot_step, slash_step, digit_or, part_step, step_of, part_end, end_of, read_of, RoomLeft, as_number, read_by, read_after}
use Rattle.policy.specs.declared.networks.Seen.{Seen}
use Rattle.policy.specs.declared.networks.Part.{Part}
use Rattle.policy.specs.declared.networks.Part.TheVariants as P

-- a digit, in either part
abbrev goes : Part → List ℕ → (N.Number → N.Read)
goes (P.Dotted k a) bs = numbers_of bs k a
goes (P.Length a) bs = length_of a bs

not-zero : (n : ℕ) → eqb (suc n) 0 ≡ false
not-zero n = ne_eqb (suc n) 0 (λ e. omega arith)

digit : (p : Part) (bs : List ℕ) (most d : ℕ) (n : Option ℕ)
    → after_digit (goes p bs) (with_digit most d (as_number n)) ≡ read_after bs (digit_step p (longer_of most d n))
digit (P.Dotted k a) bs most d None = by (leb d most)
  where
    by : (x : Bool) → after_digit (numbers_of bs k a) (pick x (N.Longer.goes d) N.Longer.fails) ≡ read_after bs (digit_step (P.Dotted k a) (pick x (Some d) None))
    by true = refl
    by false = refl
digit (P.Length a) bs most d None = by (leb d most)
  where
    by : (x : Bool) → after_digit (length_of a bs) (pick x (N.Longer.goes d) N.Longer.fails) ≡ read_after bs (digit_step (P.Length a) (pick x (Some d) None))
    by true = refl
    by false = refl
digit p bs most d (Some zero) = refl
digit (P.Dotted k a) bs most d (Some (suc n)) = rw (not-zero n) (by (leb (suc n * 10 + d) most))
  where
    by : (x : Bool) → after_digit (numbers_of bs k a) (pick x (N.Longer.goes (suc n * 10 + d)) N.Longer.fails) ≡ read_after bs (digit_step (P.Dotted k a) (pick x (Some (suc n * 10 + d)) None))
    by true = refl
    by false = refl
digit (P.Length a) bs most d (Some (suc n)) = rw (not-zero n) (by (leb (suc n * 10 + d) most))
  where
    by : (x : Bool) → after_digit (length_of a bs) (pick x (N.Longer.goes (suc n * 10 + d)) N.Longer.fails) ≡ read_after bs (digit_step (P.Length a) (pick x (Some (suc n * 10 + d)) None))
    by true = refl
    by false = refl

dot : (k a : ℕ) (bs : List ℕ) (n : Option ℕ) → dotted (numbers_of bs) k a (as_number n) ≡ read_after bs (dot_step k a n)
dot zero a bs None = refl
dot zero a bs (Some n) = refl
dot (suc k) a bs None = refl
dot (suc k) a bs (Some n) = let e : suc k - 1 ≡ k = omega arith in rw (not-zero k, e)

slash : (k a : ℕ) (bs : List ℕ) (n : Option ℕ) → slashed (λ m. length_of m bs N.Number.blank) k a (as_number n) ≡ read_after bs (slash_step k a n)
slash zero a bs None = refl
slash zero a bs (Some n) = refl
slash (suc k) a bs None = refl
slash (suc k) a bs (Some n) = rw (not-zero k)

pub stepped : (p : Part) (n : Option ℕ) (b : ℕ) (bs : List ℕ) → read_by p n (b ∷ bs) ≡ read_after bs (part_step p n b)
stepped (P.Dotted k a) n b bs = by (is_digit b) (eqb b 0x2E) (eqb b 0x2F)
  where
    by : (x y z : Bool)
        → pick x (after_digit (numbers_of bs k a) (with_digit 255 (b - 0x30) (as_number n))) (pick y (dotted (numbers_of bs) k a (as_number n)) (pick z (slashed (λ m. length_of m bs N.Number.blank) k a (as_number n)) N.Read.none))
        ≡ read_after bs (digit_or (P.Dotted k a) 255 n (pick y (dot_step k a n) (pick z (slash_step k a n) None)) (pick x (Some (b - 0x30)) None))
    by true y z = digit (P.Dotted k a) bs 255 (b - 0x30) n
    by false true z = dot k a bs n
    by false false true = slash k a bs n
    by false false false = refl
stepped (P.Length a) n b bs = by (is_digit b)
  where
    by : (x : Bool) → pick x (after_digit (length_of a bs) (with_digit 32 (b - 0x30) (as_number n))) N.Read.none
        ≡ read_after bs (digit_or (P.Length a) 32 n None (pick x (Some (b - 0x30)) None))
    by true = digit (P.Length a) bs 32 (b - 0x30) n
    by false = refl

pub ends : (p : Part) (n : Option ℕ) → read_by p n [] ≡ read_of (part_end p n)
ends (P.Dotted zero a) None = refl
ends (P.Dotted zero a) (Some n) = refl
ends (P.Dotted (suc k) a) None = refl
ends (P.Dotted (suc k) a) (Some n) = rw (not-zero k)
ends (P.Length a) None = refl
ends (P.Length a) (Some n) = refl

-- a number so far is at most 255, and so many dots to come leave so many bytes of the address
abbrev Small : Option ℕ → Type 0
Small None = Unit {0}
Small (Some n) = n ≤ 255

abbrev Room : Part → Type 0
Room (P.Dotted zero a) = a < 2 ^ 24
Room (P.Dotted (suc zero) a) = a < 2 ^ 16
Room (P.Dotted (suc (suc zero)) a) = a < 2 ^ 8
Room (P.Dotted (suc (suc (suc zero))) a) = a < 1
Room (P.Dotted (suc (suc (suc (suc k)))) a) = ⊥
Room (P.Length a) = Unit {0}

pub record Sound (p : Part) (n : Option ℕ) : Type 0 where
  pub room : Room p
  pub small : Small n

pub has_room : (p : Part) → Room p → RoomLeft p
has_room (P.Dotted zero a) h = h
has_room (P.Dotted (suc zero) a) h = omega arith
has_room (P.Dotted (suc (suc zero)) a) h = omega arith
has_room (P.Dotted (suc (suc (suc zero))) a) h = omega arith
has_room (P.Dotted (suc (suc (suc (suc k)))) a) h = absurd h
has_room (P.Length a) h = tt

abbrev SoundFurther : Option Seen → Type 0
SoundFurther (Some s) = Sound s.part s.number
SoundFurther None = Unit {0}

abbrev Most : Option ℕ → Type 0
Most (Some n) = n ≤ 255
Most None = Unit {0}

picked : (x : Bool) (n most : ℕ) → most ≤ 255 → leb n most ≡ x → Most (pick x (Some n) None)
picked true n most h e = omega (arith, leb-true n most e)
picked false n most h e = tt

grows : (most d : ℕ) (n : Option ℕ) → most ≤ 255 → Most (longer_of most d n)
grows most d None h = picked (leb d most) d most h refl
grows most d (Some zero) h = tt
grows most d (Some (suc n)) h = rw (not-zero n) (picked (leb (suc n * 10 + d) most) (suc n * 10 + d) most h refl)

digit-sound : (p : Part) (l : Option ℕ) → Room p → Most l → SoundFurther (digit_step p l)
digit-sound p (Some n) r h = record { room = r; small = h }
digit-sound p None r h = tt

dot-sound : (k a : ℕ) (n : Option ℕ) → Room (P.Dotted k a) → Small n → SoundFurther (dot_step k a n)
dot-sound k a None r h = tt
dot-sound zero a (Some n) r h = tt
dot-sound (suc zero) a (Some n) r h = record { room = omega arith; small = tt }
dot-sound (suc (suc zero)) a (Some n) r h = record { room = omega arith; small = tt }
dot-sound (suc (suc (suc zero))) a (Some n) r h = record { room = omega arith; small = tt }
dot-sound (suc (suc (suc (suc k)))) a (Some n) r h = absurd r

slash-sound : (k a : ℕ) (n : Option ℕ) → SoundFurther (slash_step k a n)
slash-sound k a None = tt
slash-sound zero a (Some n) = record { room = tt; small = tt }
slash-sound (suc k) a (Some n) = rw (not-zero k) tt

pub step-sound : (p : Part) (n : Option ℕ) (b : ℕ) → Sound p n → SoundFurther (part_step p n b)
step-sound (P.Dotted k a) n b s = by (is_digit b) (eqb b 0x2E) (eqb b 0x2F)
  where
    by : (x y z : Bool)
        → SoundFurther (digit_or (P.Dotted k a) 255 n (pick y (dot_step k a n) (pick z (slash_step k a n) None)) (pick x (Some (b - 0x30)) None))
    by true y z = digit-sound (P.Dotted k a) (longer_of 255 (b - 0x30) n) s.room (grows 255 (b - 0x30) n (omega arith))
    by false true z = dot-sound k a n s.room s.small
    by false false true = slash-sound k a n
    by false false false = tt
step-sound (P.Length a) n b s = by (is_digit b)
  where
    by : (x : Bool) → SoundFurther (digit_or (P.Length a) 32 n None (pick x (Some (b - 0x30)) None))
    by true = digit-sound (P.Length a) (longer_of 32 (b - 0x30) n) tt (grows 32 (b - 0x30) n (omega arith))
    by false = tt

-- the loop: one byte more, a byte that fails, the end
module _ (left : List ℕ) (x : Seen) where
  pub goes_on_lem : (b : ℕ) (rest : List ℕ) (y : Seen) → left ≡ b ∷ rest → step_of x b ≡ Some y
      → read_by x.part x.number left ≡ read_by y.part y.number rest
  goes_on_lem b rest y e f = ap (read_by x.part x.number) e ∙ stepped x.part x.number b rest ∙ ap (read_after rest) f

  pub fails : (b : ℕ) (rest : List ℕ) → left ≡ b ∷ rest → step_of x b ≡ None → read_by x.part x.number left ≡ N.Read.none
  fails b rest e f = ap (read_by x.part x.number) e ∙ stepped x.part x.number b rest ∙ ap (read_after rest) f

  pub closes : left ≡ [] → read_by x.part x.number left ≡ read_of (end_of x)
  closes e = ap (read_by x.part x.number) e ∙ ends x.part x.number
