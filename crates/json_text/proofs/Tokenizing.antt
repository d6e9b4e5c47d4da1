-- The tokens that the machine meets in a text are those of its tree.
use Rattle.std.proofs.Common.{Some, None, ℕ, suc, ◌≡◌, refl, ◌∙◌, ap, Bool, true, false, ◌||◌, List, [], ◌∷◌, eqb, length, arith, eqb-true, ne_eqb, lt-ltb}
use Rattle.json_text.specs.Bytes.{within, is_blank, is_digit, is_exponent, is_sign}
use Rattle.json_text.specs.Machinery.Numbers.{can_end}
use Rattle.json_text.specs.Machinery.Machine.{behind_role}
use Rattle.json_text.specs.Grammar.{Characters, Digits, SomeDigits, Whole, Fraction, Power, Unsigned, Part, Reads, Blanks, Text}
use Rattle.json_text.specs.declared.strings.Inside.TheVariants as I
use Rattle.json_text.specs.declared.numbers.Numeral.{Numeral}
use Rattle.json_text.specs.declared.numbers.Numeral.TheVariants as N
use Rattle.json_text.specs.declared.machine.Role.{Role}
use Rattle.json_text.specs.declared.machine.Role.TheVariants as R
use Rattle.json_text.specs.declared.machine.Phase.TheVariants as P
use Rattle.json_text.proofs.Choosing.{never, ranged}
use Rattle.json_text.proofs.Stacks.{Bracket, code, half, has_room}
use Rattle.json_text.proofs.Stacks.Bracket.{list, object}
use Rattle.json_text.proofs.Accepting.{accepts}
use Rattle.json_text.specs.Machinery.Events.{event_of}
use Rattle.json_text.specs.Trees.{tree_of}
use Rattle.json_text.specs.Machinery.Tokens.{Token, tokens_from, tokens_of, flat, flat_made}
use Rattle.json_text.specs.declared.events.Event.TheVariants as E
use Rattle.json_text.proofs.Complete.{is-two, is-three, is-four, not-blank, behind-value, Digitwise, not-exponent, not-sign, positive-value, after_list, after-object, phase_of, stack_of, reads, blanks}
use Rattle.json_text.proofs.Complete.Digitwise.{whole, part, power}
use Rattle.json_text.proofs.Contents.{content-of}

characters : {s r : List ℕ} → Characters s r → (role : Role) (w : ℕ) → tokens_from s (P.Text role I.Plain) w ≡ tokens_from r (behind_role role) w
characters Characters.close role w = refl
characters (Characters.plain e c) role w = rw e (characters c role w)
characters (Characters.escape e c) role w = rw e (characters c role w)
characters (Characters.code e f c) role w = rw (e, f) (characters c role w)
characters (Characters.two {a = a} e f c) role w = rw (is-two a e, f) (characters c role w)
characters (Characters.e0 e f c) role w = rw (e, f) (characters c role w)
characters (Characters.low_three {a = a} e f g c) role w =
    let x = ranged 0xE1 0xEC a e in
    rw (is-three a x.0 (omega arith) (omega arith), f, g) (characters c role w)
characters (Characters.ed e f c) role w = rw (e, f) (characters c role w)
characters (Characters.high_three {a = a} e f g c) role w =
    let x = ranged 0xEE 0xEF a e in
    rw (is-three a (omega arith) x.1 (omega arith), f, g) (characters c role w)
characters (Characters.f0 e f g c) role w = rw (e, f, g) (characters c role w)
characters (Characters.four {a = a} e f g x c) role w = rw (is-four a e, f, g, x) (characters c role w)
characters (Characters.f4 e f g c) role w = rw (e, f, g) (characters c role w)

-- Numbers: only a closing bracket is a token there
quiet : (b : ℕ) → (b ≡ 0x5D → ⊥) → (b ≡ 0x7D → ⊥) → (n : Numeral) → event_of (P.Number n) b ≡ None
quiet b x y n = rw (ne_eqb b 0x5D x, ne_eqb b 0x7D y)

digit-quiet : (b : ℕ) → is_digit b ≡ true → (n : Numeral) → event_of (P.Number n) b ≡ None
digit-quiet b e n = let h = ranged 0x30 0x39 b e in quiet b (omega arith) (omega arith) n

power-quiet : (b : ℕ) → is_exponent b ≡ true → (n : Numeral) → event_of (P.Number n) b ≡ None
power-quiet b e n =
    rw (not-exponent (λ x. eqb x 0x5D) refl refl b e, not-exponent (λ x. eqb x 0x7D) refl refl b e)

sign-quiet : (b : ℕ) → is_sign b ≡ true → (n : Numeral) → event_of (P.Number n) b ≡ None
sign-quiet b e n = go (eqb b 0x2B) refl (eqb b 0x2D) refl e
  where
    go : (x : Bool) → eqb b 0x2B ≡ x → (y : Bool) → eqb b 0x2D ≡ y → (x || y) ≡ true → event_of (P.Number n) b ≡ None
    go true x y z e = rw (eqb-true b 0x2B x)
    go false x true z e = rw (eqb-true b 0x2D z)
    go false x false z e = never (cc)

ends : (n : Numeral) → can_end n ≡ true → (s : List ℕ) (w : ℕ) → accepts s P.After w ≡ true → tokens_from s (P.Number n) w ≡ tokens_from s P.After w
ends n e [] w h = refl
ends n e (b ∷ s) w h =
    go n e (behind-value is_digit refl refl refl refl refl refl refl b s w h)
    (behind-value (λ x. eqb x 0x2E) refl refl refl refl refl refl refl b s w h)
    (behind-value is_exponent refl refl refl refl refl refl refl b s w h)
  where
    go : (n : Numeral) → can_end n ≡ true → is_digit b ≡ false → eqb b 0x2E ≡ false → is_exponent b ≡ false
        → tokens_from (b ∷ s) (P.Number n) w ≡ tokens_from (b ∷ s) P.After w
    go N.Minus e d p x = never (cc)
    go N.Zero e d p x = rw (p, x)
    go N.Whole e d p x = rw (d, p, x)
    go N.Point e d p x = never (cc)
    go N.Part e d p x = rw (d, x)
    go N.Exponent e d p x = never (cc)
    go N.Sign e d p x = never (cc)
    go N.Power e d p x = rw d

digits-stay : {n : Numeral} → Digitwise n → {s r : List ℕ} → Digits s r → (w : ℕ) → tokens_from s (P.Number n) w ≡ tokens_from r (P.Number n) w
digits-stay d Digits.none w = refl
digits-stay whole (Digits.more {a = a} e ds) w = rw (digit-quiet a e N.Whole, e) (digits-stay whole ds w)
digits-stay part (Digits.more {a = a} e ds) w = rw (digit-quiet a e N.Part, e) (digits-stay part ds w)
digits-stay power (Digits.more {a = a} e ds) w = rw (digit-quiet a e N.Power, e) (digits-stay power ds w)

power-from : {s r : List ℕ} → Power s r → (w : ℕ) → accepts r P.After w ≡ true
    → (tokens_from s (P.Number N.Zero) w ≡ tokens_from r P.After w)
    × (tokens_from s (P.Number N.Whole) w ≡ tokens_from r P.After w)
    × (tokens_from s (P.Number N.Part) w ≡ tokens_from r P.After w)
power-from {s} Power.none w h = (ends N.Zero refl s w h, ends N.Whole refl s w h, ends N.Part refl s w h)
power-from {r = r} (Power.unsigned {a = a} e (SomeDigits.digits {a = b} d ds)) w h =
    let x : eqb a 0x2E ≡ false = not-exponent (λ y. eqb y 0x2E) refl refl a e in
    let y : is_digit a ≡ false = not-exponent is_digit refl refl a e in
    let z : is_sign b ≡ false = not-sign b d in
    let q = power-quiet a e in
    let u = digit-quiet b d N.Exponent in
    let t = digits-stay power ds w ∙ ends N.Power refl r w h in
    (rw (q N.Zero, x, e, u, z, d) t, rw (q N.Whole, y, x, e, u, z, d) t, rw (q N.Part, y, e, u, z, d) t)
power-from {r = r} (Power.signed {a = a} {b = b} e f (SomeDigits.digits {a = c} d ds)) w h =
    let x : eqb a 0x2E ≡ false = not-exponent (λ y. eqb y 0x2E) refl refl a e in
    let y : is_digit a ≡ false = not-exponent is_digit refl refl a e in
    let q = power-quiet a e in
    let u = sign-quiet b f N.Exponent in
    let v = digit-quiet c d N.Sign in
    let t = digits-stay power ds w ∙ ends N.Power refl r w h in
    (rw (q N.Zero, x, e, u, f, v, d) t, rw (q N.Whole, y, x, e, u, f, v, d) t, rw (q N.Part, y, e, u, f, v, d) t)

fraction-from : {s t r : List ℕ} → Fraction s t → Power t r → (w : ℕ) → accepts r P.After w ≡ true
    → (tokens_from s (P.Number N.Zero) w ≡ tokens_from r P.After w) × (tokens_from s (P.Number N.Whole) w ≡ tokens_from r P.After w)
fraction-from Fraction.none p w h = let x = power-from p w h in (x.0, x.1)
fraction-from (Fraction.point (SomeDigits.digits {a = a} d ds)) p w h =
    let t = digits-stay part ds w ∙ (power-from p w h).2 in
    (rw (digit-quiet a d N.Point, d) t, rw (digit-quiet a d N.Point, d) t)

positive-event : (a : ℕ) → within 0x31 0x39 a ≡ true → event_of P.Value a ≡ Some E.Other
positive-event a e =
    let h = ranged 0x31 0x39 a e in
    rw (
      ne_eqb a 0x20 (omega arith),
      ne_eqb a 0x09 (omega arith),
      ne_eqb a 0x0A (omega arith),
      ne_eqb a 0x0D (omega arith),
      ne_eqb a 0x22 (omega arith),
      ne_eqb a 0x5B (omega arith),
      ne_eqb a 0x7B (omega arith),
    )

unsigned-value : {s r : List ℕ} → Unsigned s r → (w : ℕ) → accepts r P.After w ≡ true
    → tokens_from s P.Value w ≡ Token.other (length s) ∷ tokens_from r P.After w
unsigned-value (Unsigned.unsigned Whole.zero f p) w h = rw (fraction-from f p w h).0
unsigned-value (Unsigned.unsigned (Whole.positive {a = a} e ds) f p) w h =
    rw (positive-event a e, positive-value a w e, digits-stay whole ds w, (fraction-from f p w h).1)

unsigned-minus : {s r : List ℕ} → Unsigned s r → (w : ℕ) → accepts r P.After w ≡ true
    → tokens_from s (P.Number N.Minus) w ≡ tokens_from r P.After w
unsigned-minus (Unsigned.unsigned Whole.zero f p) w h = (fraction-from f p w h).0
unsigned-minus (Unsigned.unsigned (Whole.positive {a = a} e ds) f p) w h =
    let x = ranged 0x31 0x39 a e in
    let q = quiet a (omega arith) (omega arith) N.Minus in
    rw (q, ne_eqb a 0x30 (omega arith), e) (digits-stay whole ds w ∙ (fraction-from f p w h).1)

value_first : (s : List ℕ) (w : ℕ) → accepts s P.Value w ≡ true → tokens_from s P.FirstElement w ≡ tokens_from s P.Value w
value_first [] w h = refl
value_first (b ∷ s) w h = go (is_blank b) refl (eqb b 0x5D) refl (value_first s w)
  where
    go : (x : Bool) → is_blank b ≡ x → (y : Bool) → eqb b 0x5D ≡ y → (accepts s P.Value w ≡ true → tokens_from s P.FirstElement w ≡ tokens_from s P.Value w)
        → tokens_from (b ∷ s) P.FirstElement w ≡ tokens_from (b ∷ s) P.Value w
    go true e y f k = rw (not-blank (λ x. eqb x 0x5D) refl refl refl refl b e, e) (k (rw e at h))
    go false e true f k = let g : accepts (0x5D ∷ s) P.Value w ≡ true = rw (eqb-true b 0x5D f) at h in never (cc)
    go false e false f k = rw (f, e)

member-first : (s : List ℕ) (w : ℕ) → accepts s P.Member w ≡ true → tokens_from s P.FirstMember w ≡ tokens_from s P.Member w
member-first [] w h = refl
member-first (b ∷ s) w h = go (is_blank b) refl (eqb b 0x7D) refl (member-first s w)
  where
    go : (x : Bool) → is_blank b ≡ x → (y : Bool) → eqb b 0x7D ≡ y → (accepts s P.Member w ≡ true → tokens_from s P.FirstMember w ≡ tokens_from s P.Member w)
        → tokens_from (b ∷ s) P.FirstMember w ≡ tokens_from (b ∷ s) P.Member w
    go true e y f k =
        rw (not-blank (λ x. eqb x 0x22) refl refl refl refl b e, not-blank (λ x. eqb x 0x7D) refl refl refl refl b e, e) (k (rw e at h))
    go false e true f k = let g : accepts (0x7D ∷ s) P.Member w ≡ true = rw (eqb-true b 0x7D f) at h in never (cc)
    go false e false f k = rw (e, f)

pub blank-stays : (p : Part) (a : ℕ) (s : List ℕ) (w : ℕ) → is_blank a ≡ true → tokens_from (a ∷ s) (phase_of p) w ≡ tokens_from s (phase_of p) w
blank-stays p a s w e =
    go p (not-blank (λ x. eqb x 0x22) refl refl refl refl a e) (not-blank (λ x. eqb x 0x5D) refl refl refl refl a e)
    (not-blank (λ x. eqb x 0x7D) refl refl refl refl a e)
  where
    go : (p : Part) → eqb a 0x22 ≡ false → eqb a 0x5D ≡ false → eqb a 0x7D ≡ false
        → tokens_from (a ∷ s) (phase_of p) w ≡ tokens_from s (phase_of p) w
    go Part.value q x y = rw e
    go Part.elements q x y = rw (x, e)
    go Part.more_elements q x y = rw (x, y, e)
    go Part.members q x y = rw (q, y, e)
    go Part.more_members q x y = rw (x, y, e)
    go Part.member q x y = rw (q, y, e)
    go Part.colon q x y = rw e

pub tokens : {p : Part} {n : ℕ} {s r : List ℕ} (d : Reads p n s r) (ks : List Bracket) → length (stack_of p ks) ≡ n
    → accepts r P.After (code ks) ≡ true
    → tokens_from s (phase_of p) (code (stack_of p ks)) ≡ flat_made p (tree_of d) (tokens_from r P.After (code ks))
tokens (Reads.blank {p = p} {a = a} {s = s} e d) ks l h = blank-stays p a s (code (stack_of p ks)) e ∙ tokens d ks l h
tokens (Reads.string c) ks l h = rw (content-of c, characters c R.Content (code ks))
tokens Reads.true_word ks l h = refl
tokens Reads.false_word ks l h = refl
tokens Reads.null_word ks l h = refl
tokens (Reads.number u) ks l h = unsigned-value u (code ks) h
tokens (Reads.negative u) ks l h = rw (unsigned-minus u (code ks) h)
tokens (Reads.list m d) ks l h = rw (lt-ltb (code ks) 256 (has_room ks (omega arith)), tokens d ks (ap suc l) h)
tokens Reads.no_element ks l h = rw (half list ks)
tokens (Reads.first_element {s = s} d e) ks l h =
    value_first s (code (list ∷ ks)) (reads d (list ∷ ks) l (reads e ks l h))
    ∙ tokens d (list ∷ ks) l (reads e ks l h)
    ∙ ap (flat (tree_of d)) (tokens e ks l h)
tokens Reads.end_elements ks l h = rw (after_list ks 0x5D)
tokens (Reads.next_element d e) ks l h =
    rw (after_list ks 0x2C) (tokens d (list ∷ ks) l (reads e ks l h) ∙ ap (flat (tree_of d)) (tokens e ks l h))
tokens (Reads.object m d) ks l h = rw (lt-ltb (code ks) 256 (has_room ks (omega arith)), tokens d ks (ap suc l) h)
tokens Reads.no_member ks l h = rw (half object ks)
tokens (Reads.first_member {s = s} d) ks l h =
    member-first s (code (object ∷ ks)) (reads d ks l h) ∙ tokens d ks l h
tokens Reads.end_members ks l h = rw (after-object ks 0x7D)
tokens (Reads.next_member d) ks l h = rw (after-object ks 0x2C) (tokens d ks l h)
tokens (Reads.named c d) ks l h = rw (content-of c, characters c R.Name (code (object ∷ ks)), tokens d ks l h)
tokens (Reads.content d e) ks l h =
    tokens d (object ∷ ks) l (reads e ks l h) ∙ ap (flat (tree_of d)) (tokens e ks l h)

blanks-only : {s : List ℕ} → Blanks s → tokens_from s P.After 1 ≡ []
blanks-only Blanks.none = refl
blanks-only (Blanks.more {a = a} {s = s} e b) = blank-stays Part.more_elements a s 1 e ∙ blanks-only b

-- the tokens of a text are those of its tree
pub text-tokens : {t : List ℕ} (x : Text t) → tokens_of t ≡ flat (tree_of x.value_first) []
unfolding tokens_of
text-tokens x = tokens x.value_first [] refl (blanks x.blanks_then) ∙ ap (flat (tree_of x.value_first)) (blanks-only x.blanks_then)
