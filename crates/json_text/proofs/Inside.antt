-- One byte of a string, a number or a word, backwards: what is still to come before it.
use Rattle.std.proofs.Common.{ℕ, ◌≡◌, refl, subst, Bool, true, false, List, [], ◌∷◌, eqb, leb, arith, leb-true, leb-false, eqb-true, le-leb}
use borrow.Author.Tests.{eqb-false}
use Rattle.json_text.specs.Bytes.{within, is_digit, is_hex, is_exponent, is_sign, is_simple, is_plain, is_tail}
use Rattle.json_text.specs.Machinery.Strings.{taken_if, plain_step, wide_step, inside_step}
use Rattle.json_text.specs.Machinery.Numbers.{counted_if, can_end, numeral_step}
use Rattle.json_text.specs.Grammar.{Characters, Digits, SomeDigits, Whole, Fraction, Power, Unsigned}
use Rattle.json_text.specs.declared.strings.Inside.{Inside}
use Rattle.json_text.specs.declared.strings.Inside.TheVariants as I
use Rattle.json_text.specs.declared.strings.Within.{Within}
use Rattle.json_text.specs.declared.strings.Within.TheVariants as W
use Rattle.json_text.specs.declared.numbers.Numeral.{Numeral}
use Rattle.json_text.specs.declared.numbers.Numeral.TheVariants as N
use Rattle.json_text.specs.declared.numbers.Counted.{Counted}
use Rattle.json_text.specs.declared.numbers.Counted.TheVariants as C
use Rattle.json_text.proofs.Choosing.{never, choose, ranged}
use Rattle.json_text.proofs.Remaining.{Tails, InString, Tail, InNumber}

module _ (t r : List ℕ) where
  to_inside : (i next : Inside) → W.Goes i ≡ W.Goes next → InString next t r → InString i t r
  to_inside i next e x = let same : next ≡ i = cc in subst (λ (j : Inside). InString j t r) same x

  taken-inside : (good : Bool) (i next : Inside) → taken_if good i ≡ W.Goes next → InString next t r → (good ≡ true) × InString i t r
  taken-inside true i next e x = (refl, to_inside i next e x)
  taken-inside false i next e x = never (cc)

two_bytes : (t r : List ℕ) (a : ℕ) → within 0xC2 0xDF a ≡ true → Tails 1 t r → Characters (a ∷ t) r
two_bytes [] r a e x = absurd x
two_bytes (b ∷ t) r a e x = Characters.two e x.0 x.1

e0-bytes : (t r : List ℕ) (a : ℕ) → within 0xA0 0xBF a ≡ true → Tails 1 t r → Characters (0xE0 ∷ a ∷ t) r
e0-bytes [] r a e x = absurd x
e0-bytes (b ∷ t) r a e x = Characters.e0 e x.0 x.1

ed-bytes : (t r : List ℕ) (a : ℕ) → within 0x80 0x9F a ≡ true → Tails 1 t r → Characters (0xED ∷ a ∷ t) r
ed-bytes [] r a e x = absurd x
ed-bytes (b ∷ t) r a e x = Characters.ed e x.0 x.1

f0-bytes : (t r : List ℕ) (a : ℕ) → within 0x90 0xBF a ≡ true → Tails 2 t r → Characters (0xF0 ∷ a ∷ t) r
f0-bytes [] r a e x = absurd x
f0-bytes (b ∷ []) r a e x = absurd x.1
f0-bytes (b ∷ c ∷ t) r a e x = Characters.f0 e x.0 x.1.0 x.1.1

f4-bytes : (t r : List ℕ) (a : ℕ) → within 0x80 0x8F a ≡ true → Tails 2 t r → Characters (0xF4 ∷ a ∷ t) r
f4-bytes [] r a e x = absurd x
f4-bytes (b ∷ []) r a e x = absurd x.1
f4-bytes (b ∷ c ∷ t) r a e x = Characters.f4 e x.0 x.1.0 x.1.1

three-bytes : (t r : List ℕ) (a : ℕ) → within 0xE1 0xEF a ≡ true → (a ≡ 0xED → ⊥) → Tails 2 t r → Characters (a ∷ t) r
three-bytes [] r a e n x = absurd x
three-bytes (b ∷ []) r a e n x = absurd x.1
three-bytes (b ∷ c ∷ t) r a e n x = go (leb a 0xEC) refl
  where
    go : (y : Bool) → leb a 0xEC ≡ y → Characters (a ∷ b ∷ c ∷ t) r
    go true y =
        let h = ranged 0xE1 0xEF a e in
        Characters.low_three {a = a} (rw (le-leb 0xE1 a h.0, le-leb a 0xEC (leb-true a 0xEC y))) x.0 x.1.0 x.1.1
    go false y =
        let h = ranged 0xE1 0xEF a e in
        let l = leb-false a 0xEC y in
        Characters.high_three {a = a} (rw (le-leb 0xEE a (omega arith), le-leb a 0xEF h.1)) x.0 x.1.0 x.1.1

four_bytes : (t r : List ℕ) (a : ℕ) → within 0xF1 0xF3 a ≡ true → Tails 3 t r → Characters (a ∷ t) r
four_bytes [] r a e x = absurd x
four_bytes (b ∷ []) r a e x = absurd x.1
four_bytes (b ∷ c ∷ []) r a e x = absurd x.1.1
four_bytes (b ∷ c ∷ d ∷ t) r a e x = Characters.four e x.0 x.1.0 x.1.1.0 x.1.1.1

-- a byte that is the one tested, put for it in front
put : (b a : ℕ) (t r : List ℕ) → eqb b a ≡ true → Characters (a ∷ t) r → Characters (b ∷ t) r
put b a t r e x = rw (eqb-true b a e) x

wide_back : (b : ℕ) (t r : List ℕ) (next : Inside) → wide_step b ≡ W.Goes next → InString next t r → Characters (b ∷ t) r
wide_back b t r next h x =
    choose Is (within 0xC2 0xDF b) _ _ (λ e h. two_bytes t r b e (to_inside t r I.One next h x))
    (λ e. choose Is (eqb b 0xE0) _ _ (λ e h. put b 0xE0 t r e (to_inside t r I.AfterE0 next h x))
    (λ e. choose Is (eqb b 0xED) _ _ (λ e h. put b 0xED t r e (to_inside t r I.AfterED next h x))
    (λ n. choose Is (within 0xE1 0xEF b) _ _ (λ e h. three-bytes t r b e (eqb-false b 0xED n) (to_inside t r I.Two next h x))
    (λ e. choose Is (eqb b 0xF0) _ _ (λ e h. put b 0xF0 t r e (to_inside t r I.AfterF0 next h x))
    (λ e. choose Is (eqb b 0xF4) _ _ (λ e h. put b 0xF4 t r e (to_inside t r I.AfterF4 next h x))
    (λ e h. let y = taken-inside t r (within 0xF1 0xF3 b) I.Three next h x in four_bytes t r b y.0 y.1))))))
    h
  where
    Is : Within → Type 0
    Is v = v ≡ W.Goes next

plain_back : (b : ℕ) (t r : List ℕ) (next : Inside) → plain_step b ≡ W.Goes next → InString next t r → Characters (b ∷ t) r
plain_back b t r next h x =
    choose Is (is_plain b) _ _ (λ e h. Characters.plain e (to_inside t r I.Plain next h x))
    (λ e. choose Is (eqb b 0x22) _ _ (λ e h. never (cc))
    (λ e. choose Is (eqb b 0x5C) _ _ (λ e h. put b 0x5C t r e (to_inside t r I.Escape next h x))
    (λ e h. wide_back b t r next h x)))
    h
  where
    Is : Within → Type 0
    Is v = v ≡ W.Goes next

escape-back : (b : ℕ) (t r : List ℕ) (next : Inside) → inside_step I.Escape b ≡ W.Goes next → InString next t r → Characters (0x5C ∷ b ∷ t) r
escape-back b t r next h x =
    choose Is (is_simple b) _ _ (λ e h. Characters.escape e (to_inside t r I.Plain next h x))
    (λ e h. let y = taken-inside t r (eqb b 0x75) I.Code next h x in rw (eqb-true b 0x75 y.0) y.1)
    h
  where
    Is : Within → Type 0
    Is v = v ≡ W.Goes next

pub inside_back : (i : Inside) (b : ℕ) (t r : List ℕ) (next : Inside) → inside_step i b ≡ W.Goes next → InString next t r → InString i (b ∷ t) r
inside_back I.Plain b t r next h x = plain_back b t r next h x
inside_back I.Escape b t r next h x = escape-back b t r next h x
inside_back I.Code b t r next h x = let y = taken-inside t r (eqb b 0x30) I.Zero next h x in rw (eqb-true b 0x30 y.0) y.1
inside_back I.Zero b t r next h x = let y = taken-inside t r (eqb b 0x30) I.High next h x in rw (eqb-true b 0x30 y.0) y.1
inside_back I.High b t r next h x = let y = taken-inside t r (within 0x30 0x37 b) I.Low next h x in y.1 b y.0
inside_back I.Low b t r next h x = λ a e. let y = taken-inside t r (is_hex b) I.Plain next h x in Characters.code e y.0 y.1
inside_back I.One b t r next h x = taken-inside t r (is_tail b) I.Plain next h x
inside_back I.Two b t r next h x = taken-inside t r (is_tail b) I.One next h x
inside_back I.Three b t r next h x = taken-inside t r (is_tail b) I.Two next h x
inside_back I.AfterE0 b t r next h x = let y = taken-inside t r (within 0xA0 0xBF b) I.One next h x in e0-bytes t r b y.0 y.1
inside_back I.AfterED b t r next h x = let y = taken-inside t r (within 0x80 0x9F b) I.One next h x in ed-bytes t r b y.0 y.1
inside_back I.AfterF0 b t r next h x = let y = taken-inside t r (within 0x90 0xBF b) I.Two next h x in f0-bytes t r b y.0 y.1
inside_back I.AfterF4 b t r next h x = let y = taken-inside t r (within 0x80 0x8F b) I.Two next h x in f4-bytes t r b y.0 y.1

-- only a quote closes a string, and only between characters
taken-open : (good : Bool) (i : Inside) → taken_if good i ≡ W.Closes → ⊥
taken-open true i e = never (cc)
taken-open false i e = never (cc)

wide-open : (b : ℕ) → wide_step b ≡ W.Closes → ⊥
wide-open b =
    choose Is (within 0xC2 0xDF b) _ _ (λ e h. never (cc))
    (λ e. choose Is (eqb b 0xE0) _ _ (λ e h. never (cc))
    (λ e. choose Is (eqb b 0xED) _ _ (λ e h. never (cc))
    (λ n. choose Is (within 0xE1 0xEF b) _ _ (λ e h. never (cc))
    (λ e. choose Is (eqb b 0xF0) _ _ (λ e h. never (cc))
    (λ e. choose Is (eqb b 0xF4) _ _ (λ e h. never (cc)) (λ e h. taken-open (within 0xF1 0xF3 b) I.Three h))))))
  where
    Is : Within → Type 0
    Is v = v ≡ W.Closes

pub inside-closes : (i : Inside) (b : ℕ) (t : List ℕ) → inside_step i b ≡ W.Closes → InString i (b ∷ t) t
inside-closes I.Plain b t h =
    choose Is (is_plain b) _ _ (λ e h. never (cc))
    (λ e. choose Is (eqb b 0x22) _ _ (λ e h. put b 0x22 t t e Characters.close)
    (λ e. choose Is (eqb b 0x5C) _ _ (λ e h. never (cc)) (λ e h. absurd (wide-open b h))))
    h
  where
    Is : Within → Type 0
    Is v = v ≡ W.Closes
inside-closes I.Escape b t h =
    choose Is (is_simple b) _ _ (λ e h. never (cc)) (λ e h. absurd (taken-open (eqb b 0x75) I.Code h)) h
  where
    Is : Within → Type 0
    Is v = v ≡ W.Closes
inside-closes I.Code b t h = absurd (taken-open (eqb b 0x30) I.Zero h)
inside-closes I.Zero b t h = absurd (taken-open (eqb b 0x30) I.High h)
inside-closes I.High b t h = absurd (taken-open (within 0x30 0x37 b) I.Low h)
inside-closes I.Low b t h = λ a e. absurd (taken-open (is_hex b) I.Plain h)
inside-closes I.One b t h = absurd (taken-open (is_tail b) I.Plain h)
inside-closes I.Two b t h = absurd (taken-open (is_tail b) I.One h)
inside-closes I.Three b t h = absurd (taken-open (is_tail b) I.Two h)
inside-closes I.AfterE0 b t h = absurd (taken-open (within 0xA0 0xBF b) I.One h)
inside-closes I.AfterED b t h = absurd (taken-open (within 0x80 0x9F b) I.One h)
inside-closes I.AfterF0 b t h = absurd (taken-open (within 0x90 0xBF b) I.Two h)
inside-closes I.AfterF4 b t h = absurd (taken-open (within 0x80 0x8F b) I.Two h)

-- Numbers

module _ (t r : List ℕ) where
  to_number : (n next : Numeral) → C.Goes n ≡ C.Goes next → InNumber next t r → InNumber n t r
  to_number n next e x = let same : next ≡ n = cc in subst (λ (m : Numeral). InNumber m t r) same x

  taken-number : (good : Bool) (n next : Numeral) → counted_if good n ≡ C.Goes next → InNumber next t r → (good ≡ true) × InNumber n t r
  taken-number true n next e x = (refl, to_number n next e x)
  taken-number false n next e x = never (cc)

tail-back : (b : ℕ) (t r : List ℕ) (next : Numeral) → numeral_step N.Zero b ≡ C.Goes next → InNumber next t r → Tail (b ∷ t) r
tail-back b t r next h x =
    choose Is (eqb b 0x2E) _ _
    (λ e h. let y = to_number t r N.Point next h x in (y.0, rw (eqb-true b 0x2E e) (Fraction.point y.1), y.2))
    (λ e. choose Is (is_exponent b) _ _ (λ e h. (b ∷ t, Fraction.none, to_number t r N.Exponent next h x b e)) (λ e h. never (cc)))
    h
  where
    Is : Counted → Type 0
    Is v = v ≡ C.Goes next

exponent-back : (b : ℕ) (t r : List ℕ) (next : Numeral) → numeral_step N.Exponent b ≡ C.Goes next → InNumber next t r
    → (a : ℕ) → is_exponent a ≡ true → Power (a ∷ b ∷ t) r
exponent-back b t r next h x a f =
    choose Is (is_sign b) _ _ (λ e h. Power.signed f e (to_number t r N.Sign next h x))
    (λ e h. let y = taken-number t r (is_digit b) N.Power next h x in Power.unsigned f (SomeDigits.digits y.0 y.1)) h
  where
    Is : Counted → Type 0
    Is v = v ≡ C.Goes next

pub number-back : (n : Numeral) (b : ℕ) (t r : List ℕ) (next : Numeral) → numeral_step n b ≡ C.Goes next → InNumber next t r → InNumber n (b ∷ t) r
number-back N.Minus b t r next h x =
    choose Is (eqb b 0x30) _ _
    (λ e h. let y = to_number t r N.Zero next h x in rw (eqb-true b 0x30 e) (Unsigned.unsigned Whole.zero y.1 y.2))
    (λ e h. let y = taken-number t r (within 0x31 0x39 b) N.Whole next h x in
    Unsigned.unsigned (Whole.positive y.0 y.1.1) y.1.2.1 y.1.2.2)
    h
  where
    Is : Counted → Type 0
    Is v = v ≡ C.Goes next
number-back N.Zero b t r next h x = tail-back b t r next h x
number-back N.Whole b t r next h x =
    choose Is (is_digit b) _ _ (λ e h. let y = to_number t r N.Whole next h x in (y.0, Digits.more e y.1, y.2))
    (λ e h. (b ∷ t, Digits.none, tail-back b t r next h x)) h
  where
    Is : Counted → Type 0
    Is v = v ≡ C.Goes next
number-back N.Point b t r next h x =
    let y = taken-number t r (is_digit b) N.Part next h x in
    (y.1.0, SomeDigits.digits y.0 y.1.1, y.1.2)
number-back N.Part b t r next h x =
    choose Is (is_digit b) _ _ (λ e h. let y = to_number t r N.Part next h x in (y.0, Digits.more e y.1, y.2))
    (λ e. choose Is (is_exponent b) _ _ (λ e h. (b ∷ t, Digits.none, to_number t r N.Exponent next h x b e)) (λ e h. never (cc))) h
  where
    Is : Counted → Type 0
    Is v = v ≡ C.Goes next
number-back N.Exponent b t r next h x = λ a f. exponent-back b t r next h x a f
number-back N.Sign b t r next h x =
    let y = taken-number t r (is_digit b) N.Power next h x in
    SomeDigits.digits y.0 y.1
number-back N.Power b t r next h x =
    choose Is (is_digit b) _ _ (λ e h. Digits.more e (to_number t r N.Power next h x)) (λ e h. never (cc)) h
  where
    Is : Counted → Type 0
    Is v = v ≡ C.Goes next

-- a number that may end is whole with nothing more
pub number-whole : (n : Numeral) (t : List ℕ) → can_end n ≡ true → InNumber n t t
number-whole N.Minus t e = never (cc)
number-whole N.Zero t e = (t, Fraction.none, Power.none)
number-whole N.Whole t e = (t, Digits.none, (t, Fraction.none, Power.none))
number-whole N.Point t e = never (cc)
number-whole N.Part t e = (t, Digits.none, Power.none)
number-whole N.Exponent t e = never (cc)
number-whole N.Sign t e = never (cc)
number-whole N.Power t e = Digits.none

-- only such a number ends
counted-on : (good : Bool) (n : Numeral) → counted_if good n ≡ C.Ends → ⊥
counted-on true n e = never (cc)
counted-on false n e = never (cc)

pub number-ends : (n : Numeral) (b : ℕ) → numeral_step n b ≡ C.Ends → can_end n ≡ true
number-ends N.Minus b h =
    choose Is (eqb b 0x30) _ _ (λ e h. never (cc)) (λ e h. absurd (counted-on (within 0x31 0x39 b) N.Whole h)) h
  where
    Is : Counted → Type 0
    Is v = v ≡ C.Ends
number-ends N.Zero b h = refl
number-ends N.Whole b h = refl
number-ends N.Point b h = absurd (counted-on (is_digit b) N.Part h)
number-ends N.Part b h = refl
number-ends N.Exponent b h =
    choose Is (is_sign b) _ _ (λ e h. never (cc)) (λ e h. absurd (counted-on (is_digit b) N.Power h)) h
  where
    Is : Counted → Type 0
    Is v = v ≡ C.Ends
number-ends N.Sign b h = absurd (counted-on (is_digit b) N.Power h)
number-ends N.Power b h = refl
