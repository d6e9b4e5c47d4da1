-- Every text of the grammar is taken.
use Rattle.std.proofs.Common.{Option, None, ℕ, suc, ◌%◌, ◌≤◌, ◌≡◌, refl, ◌∙◌, ap, Bool, true, false, ◌||◌, List, [], ◌∷◌, eqb, length, arith, lt-ltb, le-leb, ne_eqb, eqb-true}
use borrow.Author.Tests.{lt-leb}
use Rattle.json_text.specs.declared.machine.State.{State}
use Rattle.json_text.specs.Choice.{pick}
use Rattle.json_text.specs.Bytes.{within, is_blank, is_digit, is_exponent, is_sign}
use Rattle.json_text.specs.Machinery.Strings.{plain_step, wide_step}
use Rattle.json_text.specs.Machinery.Numbers.{can_end}
use Rattle.json_text.specs.Machinery.Machine.{goes, after_step, value_step, behind_role}
use Rattle.json_text.specs.Grammar.{Characters, Digits, SomeDigits, Whole, Fraction, Power, Unsigned, Part, Reads, Blanks, Text}
use Rattle.json_text.specs.declared.strings.Inside.TheVariants as I
use Rattle.json_text.specs.declared.strings.Within.TheVariants as W
use Rattle.json_text.specs.declared.numbers.Numeral.{Numeral}
use Rattle.json_text.specs.declared.numbers.Numeral.TheVariants as N
use Rattle.json_text.specs.declared.machine.Role.{Role}
use Rattle.json_text.specs.declared.machine.Role.TheVariants as R
use Rattle.json_text.specs.declared.machine.Phase.{Phase}
use Rattle.json_text.specs.declared.machine.Phase.TheVariants as P
use Rattle.json_text.proofs.Choosing.{never, choose, ranged}
use Rattle.json_text.proofs.Stacks.{Bracket, code, not-one, half, parity, has_room}
use Rattle.json_text.proofs.Stacks.Bracket.{list, object}
use Rattle.json_text.proofs.Accepting.{runs, accepts}

-- Strings

is-wide : (a : ℕ) → 0x80 ≤ a → plain_step a ≡ wide_step a
is-wide a h =
    rw (le-leb 0x20 a (omega arith), lt-leb a 0x7F (omega arith), ne_eqb a 0x22 (omega arith), ne_eqb a 0x5C (omega arith))

pub is-two : (a : ℕ) → within 0xC2 0xDF a ≡ true → plain_step a ≡ W.Goes I.One
is-two a e = let h = ranged 0xC2 0xDF a e in is-wide a (omega arith) ∙ rw e

pub is-three : (a : ℕ) → 0xE1 ≤ a → a ≤ 0xEF → (a ≡ 0xED → ⊥) → plain_step a ≡ W.Goes I.Two
is-three a l h n =
    is-wide a (omega arith)
    ∙ rw (le-leb 0xC2 a (omega arith), lt-leb a 0xDF (omega arith), ne_eqb a 0xE0 (omega arith), ne_eqb a 0xED n, le-leb 0xE1 a l, le-leb a 0xEF h)

pub is-four : (a : ℕ) → within 0xF1 0xF3 a ≡ true → plain_step a ≡ W.Goes I.Three
is-four a e =
    let h = ranged 0xF1 0xF3 a e in
    is-wide a (omega arith)
    ∙ rw (
      le-leb 0xC2 a (omega arith),
      lt-leb a 0xDF (omega arith),
      ne_eqb a 0xE0 (omega arith),
      ne_eqb a 0xED (omega arith),
      le-leb 0xE1 a (omega arith),
      lt-leb a 0xEF (omega arith),
      ne_eqb a 0xF0 (omega arith),
      ne_eqb a 0xF4 (omega arith),
      e,
    )

pub characters : {s r : List ℕ} → Characters s r → (role : Role) (w : ℕ) → accepts r (behind_role role) w ≡ true
    → accepts s (P.Text role I.Plain) w ≡ true
characters Characters.close role w h = h
characters (Characters.plain e c) role w h = rw e (characters c role w h)
characters (Characters.escape e c) role w h = rw e (characters c role w h)
characters (Characters.code e f c) role w h = rw (e, f) (characters c role w h)
characters (Characters.two {a = a} e f c) role w h = rw (is-two a e, f) (characters c role w h)
characters (Characters.e0 e f c) role w h = rw (e, f) (characters c role w h)
characters (Characters.low_three {a = a} e f g c) role w h =
    let x = ranged 0xE1 0xEC a e in
    rw (is-three a x.0 (omega arith) (omega arith), f, g) (characters c role w h)
characters (Characters.ed e f c) role w h = rw (e, f) (characters c role w h)
characters (Characters.high_three {a = a} e f g c) role w h =
    let x = ranged 0xEE 0xEF a e in
    rw (is-three a (omega arith) x.1 (omega arith), f, g) (characters c role w h)
characters (Characters.f0 e f g c) role w h = rw (e, f, g) (characters c role w h)
characters (Characters.four {a = a} e f g x c) role w h = rw (is-four a e, f, g, x) (characters c role w h)
characters (Characters.f4 e f g c) role w h = rw (e, f, g) (characters c role w h)

-- Numbers

-- a test that the blanks fail
pub not-blank : (f : ℕ → Bool) → f 0x20 ≡ false → f 0x09 ≡ false → f 0x0A ≡ false → f 0x0D ≡ false → (b : ℕ) → is_blank b ≡ true → f b ≡ false
not-blank f b20 b09 b0A b0D b e = go (eqb b 0x20) refl (eqb b 0x09) refl (eqb b 0x0A) refl (eqb b 0x0D) refl e
  where
    go : (p : Bool) → eqb b 0x20 ≡ p → (q : Bool) → eqb b 0x09 ≡ q → (x : Bool) → eqb b 0x0A ≡ x → (y : Bool) → eqb b 0x0D ≡ y
        → (p || (q || (x || y))) ≡ true → f b ≡ false
    go true p q y x _ z _ e = rw (eqb-true b 0x20 p) b20
    go false p true y x _ z _ e = rw (eqb-true b 0x09 y) b09
    go false p false y true x z _ e = rw (eqb-true b 0x0A x) b0A
    go false p false y false x true z e = rw (eqb-true b 0x0D z) b0D
    go false p false y false x false z e = never (cc)

-- what may stand behind a value: a test that all these bytes fail is failed by the first of them
pub behind-value : (f : ℕ → Bool) → f 0x20 ≡ false → f 0x09 ≡ false → f 0x0A ≡ false → f 0x0D ≡ false → f 0x2C ≡ false → f 0x7D ≡ false
    → f 0x5D ≡ false → (b : ℕ) (s : List ℕ) (w : ℕ) → accepts (b ∷ s) P.After w ≡ true → f b ≡ false
behind-value f b20 b09 b0A b0D b2C b7D b5D b s w =
    choose Goes (is_blank b) _ _ (λ e h. not-blank f b20 b09 b0A b0D b e)
    (λ e. choose Goes (eqb w 1) _ _ (λ e h. never (cc))
    (λ e. choose Goes (eqb (w % 2) 1) _ _
    (λ e. choose Goes (eqb b 0x2C) _ _ (λ e h. rw (eqb-true b 0x2C e) b2C)
    (λ e. choose Goes (eqb b 0x7D) _ _ (λ e h. rw (eqb-true b 0x7D e) b7D) (λ e h. never (cc))))
    (λ e. choose Goes (eqb b 0x2C) _ _ (λ e h. rw (eqb-true b 0x2C e) b2C)
    (λ e. choose Goes (eqb b 0x5D) _ _ (λ e h. rw (eqb-true b 0x5D e) b5D) (λ e h. never (cc))))))
  where
    Goes : Option State → Type 0
    Goes t = runs (accepts s) t ≡ true

-- a number that may end does so before what may stand behind a value
pub ends : (n : Numeral) → can_end n ≡ true → (s : List ℕ) (w : ℕ) → accepts s P.After w ≡ true → accepts s (P.Number n) w ≡ true
ends n e [] w h = rw e h
ends n e (b ∷ s) w h =
    go n e (behind-value is_digit refl refl refl refl refl refl refl b s w h)
    (behind-value (λ x. eqb x 0x2E) refl refl refl refl refl refl refl b s w h)
    (behind-value is_exponent refl refl refl refl refl refl refl b s w h)
  where
    go : (n : Numeral) → can_end n ≡ true → is_digit b ≡ false → eqb b 0x2E ≡ false → is_exponent b ≡ false
        → accepts (b ∷ s) (P.Number n) w ≡ true
    go N.Minus e d p x = never (cc)
    go N.Zero e d p x = rw (p, x) h
    go N.Whole e d p x = rw (d, p, x) h
    go N.Point e d p x = never (cc)
    go N.Part e d p x = rw (d, x) h
    go N.Exponent e d p x = never (cc)
    go N.Sign e d p x = never (cc)
    go N.Power e d p x = rw d h

-- digits do not leave these three places
pub data Digitwise : Numeral → Type 0 where
  whole : Digitwise N.Whole
  part : Digitwise N.Part
  power : Digitwise N.Power

digits-stay : {n : Numeral} → Digitwise n → {s r : List ℕ} → Digits s r → (w : ℕ) → accepts r (P.Number n) w ≡ true
    → accepts s (P.Number n) w ≡ true
digits-stay d Digits.none w h = h
digits-stay whole (Digits.more e ds) w h = rw e (digits-stay whole ds w h)
digits-stay part (Digits.more e ds) w h = rw e (digits-stay part ds w h)
digits-stay power (Digits.more e ds) w h = rw e (digits-stay power ds w h)

-- a test that e and E fail
pub not-exponent : (f : ℕ → Bool) → f 0x65 ≡ false → f 0x45 ≡ false → (a : ℕ) → is_exponent a ≡ true → f a ≡ false
not-exponent f p q a e = go (eqb a 0x65) refl (eqb a 0x45) refl e
  where
    go : (x : Bool) → eqb a 0x65 ≡ x → (y : Bool) → eqb a 0x45 ≡ y → (x || y) ≡ true → f a ≡ false
    go true x y z e = rw (eqb-true a 0x65 x) p
    go false x true z e = rw (eqb-true a 0x45 z) q
    go false x false z e = never (cc)

pub not-sign : (b : ℕ) → is_digit b ≡ true → is_sign b ≡ false
not-sign b e = let h = ranged 0x30 0x39 b e in rw (ne_eqb b 0x2B (omega arith), ne_eqb b 0x2D (omega arith))

power-from : {s r : List ℕ} → Power s r → (w : ℕ) → accepts r P.After w ≡ true
    → (accepts s (P.Number N.Zero) w ≡ true) × (accepts s (P.Number N.Whole) w ≡ true) × (accepts s (P.Number N.Part) w ≡ true)
power-from {s} Power.none w h = (ends N.Zero refl s w h, ends N.Whole refl s w h, ends N.Part refl s w h)
power-from {r = r} (Power.unsigned {a = a} e (SomeDigits.digits {a = b} d ds)) w h =
    let x : eqb a 0x2E ≡ false = not-exponent (λ y. eqb y 0x2E) refl refl a e in
    let y : is_digit a ≡ false = not-exponent is_digit refl refl a e in
    let z : is_sign b ≡ false = not-sign b d in
    let t = digits-stay power ds w (ends N.Power refl r w h) in
    (rw (x, e, z, d) t, rw (y, x, e, z, d) t, rw (y, e, z, d) t)
power-from {r = r} (Power.signed {a = a} e f (SomeDigits.digits d ds)) w h =
    let x : eqb a 0x2E ≡ false = not-exponent (λ y. eqb y 0x2E) refl refl a e in
    let y : is_digit a ≡ false = not-exponent is_digit refl refl a e in
    let t = digits-stay power ds w (ends N.Power refl r w h) in
    (rw (x, e, f, d) t, rw (y, x, e, f, d) t, rw (y, e, f, d) t)

fraction-from : {s t r : List ℕ} → Fraction s t → Power t r → (w : ℕ) → accepts r P.After w ≡ true
    → (accepts s (P.Number N.Zero) w ≡ true) × (accepts s (P.Number N.Whole) w ≡ true)
fraction-from Fraction.none p w h = let x = power-from p w h in (x.0, x.1)
fraction-from (Fraction.point (SomeDigits.digits d ds)) p w h =
    let t = digits-stay part ds w (power-from p w h).2 in
    (rw d t, rw d t)

-- a whole number's first digit, where a value is due or behind a minus
pub positive-value : (a w : ℕ) → within 0x31 0x39 a ≡ true → value_step w a ≡ goes (P.Number N.Whole) w
positive-value a w e =
    let h = ranged 0x31 0x39 a e in
    rw (
      ne_eqb a 0x20 (omega arith),
      ne_eqb a 0x09 (omega arith),
      ne_eqb a 0x0A (omega arith),
      ne_eqb a 0x0D (omega arith),
      ne_eqb a 0x22 (omega arith),
      ne_eqb a 0x5B (omega arith),
      ne_eqb a 0x7B (omega arith),
      ne_eqb a 0x74 (omega arith),
      ne_eqb a 0x66 (omega arith),
      ne_eqb a 0x6E (omega arith),
      ne_eqb a 0x2D (omega arith),
      ne_eqb a 0x30 (omega arith),
      e,
    )

unsigned-value : {s r : List ℕ} → Unsigned s r → (w : ℕ) → accepts r P.After w ≡ true → accepts s P.Value w ≡ true
unsigned-value (Unsigned.unsigned Whole.zero f p) w h = (fraction-from f p w h).0
unsigned-value (Unsigned.unsigned (Whole.positive {a = a} e ds) f p) w h =
    rw (positive-value a w e) (digits-stay whole ds w (fraction-from f p w h).1)

unsigned-minus : {s r : List ℕ} → Unsigned s r → (w : ℕ) → accepts r P.After w ≡ true → accepts s (P.Number N.Minus) w ≡ true
unsigned-minus (Unsigned.unsigned Whole.zero f p) w h = (fraction-from f p w h).0
unsigned-minus (Unsigned.unsigned (Whole.positive {a = a} e ds) f p) w h =
    let x = ranged 0x31 0x39 a e in
    rw (ne_eqb a 0x30 (omega arith), e) (digits-stay whole ds w (fraction-from f p w h).1)

-- Lists and objects

pub after_list : (ks : List Bracket) (b : ℕ)
    → after_step (code (list ∷ ks)) b ≡ pick (is_blank b) (goes P.After (code (list ∷ ks))) (pick (eqb b 0x2C) (goes P.Value (code (list ∷ ks))) (pick (eqb b 0x5D) (goes P.After (code ks)) None))
after_list ks b = rw (not-one list ks, parity list ks, half list ks)

pub after-object : (ks : List Bracket) (b : ℕ)
    → after_step (code (object ∷ ks)) b ≡ pick (is_blank b) (goes P.After (code (object ∷ ks))) (pick (eqb b 0x2C) (goes P.Member (code (object ∷ ks))) (pick (eqb b 0x7D) (goes P.After (code ks)) None))
after-object ks b = rw (not-one object ks, parity object ks, half object ks)

-- the first element of a list is a value, and the first member of an object a member
value_first : (s : List ℕ) (w : ℕ) → accepts s P.Value w ≡ true → accepts s P.FirstElement w ≡ true
value_first [] w h = never (cc)
value_first (b ∷ s) w h = go (is_blank b) refl (eqb b 0x5D) refl (value_first s w)
  where
    go : (x : Bool) → is_blank b ≡ x → (y : Bool) → eqb b 0x5D ≡ y → (accepts s P.Value w ≡ true → accepts s P.FirstElement w ≡ true)
        → accepts (b ∷ s) P.FirstElement w ≡ true
    go true e y f k = rw e (k (rw e at h))
    go false e true f k = let g : accepts (0x5D ∷ s) P.Value w ≡ true = rw (eqb-true b 0x5D f) at h in never (cc)
    go false e false f k = rw (e, f) (rw e at h)

member-first : (s : List ℕ) (w : ℕ) → accepts s P.Member w ≡ true → accepts s P.FirstMember w ≡ true
member-first [] w h = never (cc)
member-first (b ∷ s) w h = go (is_blank b) refl (eqb b 0x7D) refl (member-first s w)
  where
    go : (x : Bool) → is_blank b ≡ x → (y : Bool) → eqb b 0x7D ≡ y → (accepts s P.Member w ≡ true → accepts s P.FirstMember w ≡ true)
        → accepts (b ∷ s) P.FirstMember w ≡ true
    go true e y f k = rw e (k (rw e at h))
    go false e true f k = let g : accepts (0x7D ∷ s) P.Member w ≡ true = rw (eqb-true b 0x7D f) at h in never (cc)
    go false e false f k = rw (e, f) (rw e at h)

-- where a part begins: its phase, and the brackets that are open, of which those given stay open behind it
abbrev pub phase_of : Part → Phase
phase_of Part.value = P.Value
phase_of Part.elements = P.FirstElement
phase_of Part.more_elements = P.After
phase_of Part.members = P.FirstMember
phase_of Part.more_members = P.After
phase_of Part.member = P.Member
phase_of Part.colon = P.Colon

abbrev pub stack_of : Part → List Bracket → List Bracket
stack_of Part.value ks = ks
stack_of Part.elements ks = list ∷ ks
stack_of Part.more_elements ks = list ∷ ks
stack_of Part.members ks = object ∷ ks
stack_of Part.more_members ks = object ∷ ks
stack_of Part.member ks = object ∷ ks
stack_of Part.colon ks = object ∷ ks

blank-stays : (p : Part) (a : ℕ) (s : List ℕ) (w : ℕ) → is_blank a ≡ true → accepts s (phase_of p) w ≡ true → accepts (a ∷ s) (phase_of p) w ≡ true
blank-stays Part.value a s w e h = rw e h
blank-stays Part.elements a s w e h = rw e h
blank-stays Part.more_elements a s w e h = rw e h
blank-stays Part.members a s w e h = rw e h
blank-stays Part.more_members a s w e h = rw e h
blank-stays Part.member a s w e h = rw e h
blank-stays Part.colon a s w e h = rw e h

pub reads : {p : Part} {n : ℕ} {s r : List ℕ} → Reads p n s r → (ks : List Bracket) → length (stack_of p ks) ≡ n
    → accepts r P.After (code ks) ≡ true → accepts s (phase_of p) (code (stack_of p ks)) ≡ true
reads (Reads.blank {p = p} {a = a} {s = s} e d) ks l h = blank-stays p a s (code (stack_of p ks)) e (reads d ks l h)
reads (Reads.string c) ks l h = characters c R.Content (code ks) h
reads Reads.true_word ks l h = h
reads Reads.false_word ks l h = h
reads Reads.null_word ks l h = h
reads (Reads.number u) ks l h = unsigned-value u (code ks) h
reads (Reads.negative u) ks l h = unsigned-minus u (code ks) h
reads (Reads.list m d) ks l h = rw (lt-ltb (code ks) 256 (has_room ks (omega arith))) (reads d ks (ap suc l) h)
reads Reads.no_element ks l h = rw (half list ks) h
reads (Reads.first_element {s = s} d e) ks l h = value_first s (code (list ∷ ks)) (reads d (list ∷ ks) l (reads e ks l h))
reads Reads.end_elements ks l h = rw (after_list ks 0x5D) h
reads (Reads.next_element d e) ks l h = rw (after_list ks 0x2C) (reads d (list ∷ ks) l (reads e ks l h))
reads (Reads.object m d) ks l h = rw (lt-ltb (code ks) 256 (has_room ks (omega arith))) (reads d ks (ap suc l) h)
reads Reads.no_member ks l h = rw (half object ks) h
reads (Reads.first_member {s = s} d) ks l h = member-first s (code (object ∷ ks)) (reads d ks l h)
reads Reads.end_members ks l h = rw (after-object ks 0x7D) h
reads (Reads.next_member d) ks l h = rw (after-object ks 0x2C) (reads d ks l h)
reads (Reads.named c d) ks l h = characters c R.Name (code (object ∷ ks)) (reads d ks l h)
reads (Reads.content d e) ks l h = reads d (object ∷ ks) l (reads e ks l h)

pub blanks : {s : List ℕ} → Blanks s → accepts s P.After 1 ≡ true
blanks Blanks.none = refl
blanks (Blanks.more e d) = rw e (blanks d)

-- every text of the grammar is taken from the start
pub complete : {t : List ℕ} → Text t → accepts t P.Value 1 ≡ true
complete x = reads x.value_first [] refl (blanks x.blanks_then)
