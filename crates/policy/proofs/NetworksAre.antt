-- The texts that are read as networks are those that say one.
use Rattle.std.proofs.Common.{ℕ, zero, suc, ◌+◌, ◌*◌, ◌-◌, ◌≤◌, ◌<◌, Bool, true, false, ◌&&◌, ◌≡◌, refl, sym, ◌∙◌, subst, List, [], ◌∷◌, arith, eqb, leb, leb-true, le-leb, eqb-true}
use Rattle.json_text.specs.Choice.{pick}
use Rattle.json_text.specs.Bytes.{is_digit}
use Rattle.stored.proofs.Choosing.{never}
use Rattle.records.specs.Networks.{Read, Number, Longer, with_digit, after_digit, length_of, ended, dotted, slashed, numbers_of, network_of}
use Rattle.records.specs.Networks.Read.{network, none}
use Rattle.records.specs.Networks.Number.{blank, value}
use Rattle.records.specs.Networks.Longer.{goes, fails}
use Rattle.policy.specs.Networks.{Decimal, Length, Dotted, IsNetwork}

-- A text that says a network is read as that network

is_digit_lem : (d : ℕ) → d ≤ 9 → is_digit (0x30 + d) ≡ true
is_digit_lem d h = rw (le-leb 0x30 (0x30 + d) (omega arith), le-leb (0x30 + d) 0x39 (omega arith))

first-digit : (most d : ℕ) → d ≤ most → with_digit most d blank ≡ goes d
first-digit most d h = rw (le-leb d most h)

next-digit : (most d n : ℕ) → 0 < n → n * 10 + d ≤ most → with_digit most d (value n) ≡ goes (n * 10 + d)
next-digit most d zero p h = absurd (omega arith)
next-digit most d (suc n) p h = rw (le-leb (suc n * 10 + d) most h)

-- what takes a number up to a greatest value, digit by digit
abbrev Digits : ℕ → (List ℕ → Number → Read) → Type 0
Digits most go = (d : ℕ) → d ≤ 9 → (bs : List ℕ) (n : Number) (m : ℕ) → with_digit most d n ≡ goes m → go ((0x30 + d) ∷ bs) n ≡ go bs (value m)

decimal-read : (most : ℕ) (go : List ℕ → Number → Read) → Digits most go → {v : ℕ} {s r : List ℕ} → Decimal v s r → v ≤ most
    → go s blank ≡ go r (value v)
decimal-read most go x (Decimal.digit {d} {r} h) l = x d h r blank d (first-digit most d l)
decimal-read most go x (Decimal.longer {n} {d} {s} {r} p h y) l =
    decimal-read most go x y (omega arith) ∙ x d h r (value n) (n * 10 + d) (next-digit most d n p l)

less : (d : ℕ) → 0x30 + d - 0x30 ≡ d
less d = omega arith

numbers-digits : (k a : ℕ) → Digits 255 (λ bs n. numbers_of bs k a n)
numbers-digits k a = λ d h bs n m e. rw (is_digit_lem d h, less d, e)

length_digits : (a : ℕ) → Digits 32 (λ bs n. length_of a bs n)
length_digits a = λ d h bs n m e. rw (is_digit_lem d h, less d, e)

length-read : (a v : ℕ) {n : ℕ} {r : List ℕ} → Length n r → numbers_of r 0 a (value v) ≡ network (a * 256 + v) n
length-read a v Length.whole = refl
length-read a v (Length.given {n} {s} h d) = decimal-read 32 (λ bs n. length_of (a * 256 + v) bs n) (length_digits (a * 256 + v)) d h

dotted-read : {k a b n : ℕ} {s : List ℕ} → Dotted k a s b n → numbers_of s k a blank ≡ network b n
dotted-read (Dotted.last {a} {v} {n} {s} {r} h d l) = decimal-read 255 (λ bs n. numbers_of bs 0 a n) (numbers-digits 0 a) d h ∙ length-read a v l
dotted-read (Dotted.next {k} {a} {v} {b} {n} {s} {r} h d x) =
    decimal-read 255 (λ bs n. numbers_of bs (suc k) a n) (numbers-digits (suc k) a) d h ∙ dotted-read x

-- A text that is read as a network says it

-- a number so far, from where it begins to where the reading stands
abbrev Begun : ℕ → List ℕ → Number → List ℕ → Type 0
Begun most s blank bs = s ≡ bs
Begun most s (value v) bs = Decimal v s bs × (v ≤ most)

digit-byte : (c : ℕ) → is_digit c ≡ true → (0x30 + (c - 0x30) ≡ c) × (c - 0x30 ≤ 9)
digit-byte c e = by (leb 0x30 c) refl (leb c 0x39) refl e
  where
    by : (x : Bool) → leb 0x30 c ≡ x → (y : Bool) → leb c 0x39 ≡ y → x && y ≡ true → (0x30 + (c - 0x30) ≡ c) × (c - 0x30 ≤ 9)
    by true e true f g = (omega (arith, leb-true 0x30 c e), omega (arith, leb-true c 0x39 f))
    by true e false f g = never (cc)
    by false e y f g = never (cc)

grown : (most c m : ℕ) (bs s : List ℕ) (n : Number) → is_digit c ≡ true → Begun most s n (c ∷ bs) → with_digit most (c - 0x30) n ≡ goes m
    → Begun most s (value m) bs
grown most c m bs s blank e b f = by (leb (c - 0x30) most) refl f
  where
    byte : (0x30 + (c - 0x30) ≡ c) × (c - 0x30 ≤ 9)
    byte = digit-byte c e

    by : (x : Bool) → leb (c - 0x30) most ≡ x → pick x (goes (c - 0x30)) fails ≡ goes m → Decimal m s bs × (m ≤ most)
    by true g h =
        let same : c - 0x30 ≡ m = cc in
        let one : Decimal (c - 0x30) (c ∷ bs) bs = subst (λ (x : ℕ). Decimal (c - 0x30) (x ∷ bs) bs) byte.0 (Decimal.digit byte.1) in
        (rw (sym same, b) one, omega (arith, leb-true (c - 0x30) most g))
    by false g h = never (cc)
grown most c m bs s (value zero) e b f = never (cc)
grown most c m bs s (value (suc n)) e b f = by (leb (suc n * 10 + (c - 0x30)) most) refl f
  where
    byte : (0x30 + (c - 0x30) ≡ c) × (c - 0x30 ≤ 9)
    byte = digit-byte c e

    by : (x : Bool) → leb (suc n * 10 + (c - 0x30)) most ≡ x → pick x (goes (suc n * 10 + (c - 0x30))) fails ≡ goes m → Decimal m s bs × (m ≤ most)
    by true g h =
        let same : suc n * 10 + (c - 0x30) ≡ m = cc in
        let more : Decimal (suc n * 10 + (c - 0x30)) s bs =
        Decimal.longer {n = suc n} {d = c - 0x30} (omega arith) byte.1
        (subst (λ (x : ℕ). Decimal (suc n) s (x ∷ bs)) (sym byte.0) b.0) in
        (rw (sym same) more, omega (arith, leb-true (suc n * 10 + (c - 0x30)) most g))
    by false g h = never (cc)

-- the length behind a slash
pub record Lengthened (a : ℕ) (s : List ℕ) (b n : ℕ) : Type 0 where
  pub address : a ≡ b
  pub short : n ≤ 32
  pub decimal : Decimal n s []

length-said : (a b n : ℕ) (bs s : List ℕ) (v : Number) → Begun 32 s v bs → length_of a bs v ≡ network b n → Lengthened a s b n
length-said a b n [] s blank g e = never (cc)
length-said a b n [] s (value v) g e =
    let same : v ≡ n = cc in
    record { address = cc; short = omega (arith, g.1); decimal = rw (sym same) g.0 }
length-said a b n (c ∷ bs) s v g e =
    by (is_digit c) refl (with_digit 32 (c - 0x30) v) refl e (λ m h f. length-said a b n bs s (value m) h f)
  where
    by : (x : Bool) → is_digit c ≡ x → (l : Longer) → with_digit 32 (c - 0x30) v ≡ l → pick x (after_digit (length_of a bs) l) none ≡ network b n
        → ((m : ℕ) → Begun 32 s (value m) bs → length_of a bs (value m) ≡ network b n → Lengthened a s b n) → Lengthened a s b n
    by true f (goes m) h k go = go m (grown 32 c m bs s v f g h) k
    by true f fails h k go = never (cc)
    by false f l h k go = never (cc)

ended-said : (k a b n : ℕ) (s : List ℕ) (v : Number) → Begun 255 s v [] → ended k a v ≡ network b n → Dotted k a s b n
ended-said zero a b n s blank g e = never (cc)
ended-said zero a b n s (value v) g e =
    let there : a * 256 + v ≡ b = cc in
    let long : 32 ≡ n = cc in
    rw (sym there, sym long) (Dotted.last g.1 g.0 Length.whole)
ended-said (suc k) a b n s v g e = never (cc)

numbers-said : (bs : List ℕ) (k a b n : ℕ) (s : List ℕ) (v : Number) → Begun 255 s v bs → numbers_of bs k a v ≡ network b n → Dotted k a s b n
numbers-said [] k a b n s v g e = ended-said k a b n s v g e
numbers-said (c ∷ bs) k a b n s v g e =
    by (is_digit c) refl (with_digit 255 (c - 0x30) v) refl (eqb c 0x2E) refl (eqb c 0x2F) refl k v g e
    (λ k a s v h f. numbers-said bs k a b n s v h f)
  where
    dots : (k : ℕ) (v : Number) → c ≡ 0x2E → Begun 255 s v (c ∷ bs) → dotted (numbers_of bs) k a v ≡ network b n
        → ((k a : ℕ) (s : List ℕ) (v : Number) → Begun 255 s v bs → numbers_of bs k a v ≡ network b n → Dotted k a s b n) → Dotted k a s b n
    dots zero v f g e go = never (cc)
    dots (suc k) blank f g e go = never (cc)
    dots (suc k) (value m) f g e go = Dotted.next g.1 (rw f at g.0) (go k (a * 256 + m) bs blank refl e)

    slash : (k : ℕ) (v : Number) → c ≡ 0x2F → Begun 255 s v (c ∷ bs) → slashed (λ m. length_of m bs blank) k a v ≡ network b n → Dotted k a s b n
    slash zero blank f g e = never (cc)
    slash zero (value m) f g e =
        let l = length-said (a * 256 + m) b n bs bs blank refl e in
        rw (sym l.address) (Dotted.last g.1 (rw f at g.0) (Length.given l.short l.decimal))
    slash (suc k) v f g e = never (cc)

    by : (x : Bool) → is_digit c ≡ x → (l : Longer) → with_digit 255 (c - 0x30) v ≡ l → (y : Bool) → eqb c 0x2E ≡ y → (z : Bool) → eqb c 0x2F ≡ z
        → (k : ℕ) (u : Number) → Begun 255 s u (c ∷ bs)
        → pick x (after_digit (numbers_of bs k a) l) (pick y (dotted (numbers_of bs) k a u) (pick z (slashed (λ m. length_of m bs blank) k a u) none)) ≡ network b n
        → ((k a : ℕ) (s : List ℕ) (v : Number) → Begun 255 s v bs → numbers_of bs k a v ≡ network b n → Dotted k a s b n) → Dotted k a s b n
    by true f (goes m) h y i z j k u q e go = go k a s (value m) (grown 255 c m bs s v f g h) e
    by true f fails h y i z j k u q e go = never (cc)
    by false f l h true i z j k u q e go = dots k u (eqb-true c 0x2E i) q e go
    by false f l h false i true j k u q e go = slash k u (eqb-true c 0x2F j) q e
    by false f l h false i false j k u q e go = never (cc)

pub says-read : (t : List ℕ) (a n : ℕ) → IsNetwork t a n → network_of t ≡ network a n
unfolding network_of
says-read t a n x = dotted-read x

pub read-says : (t : List ℕ) (a n : ℕ) → network_of t ≡ network a n → IsNetwork t a n
unfolding network_of
read-says t a n e = numbers-said t 3 0 a n t blank refl e
