-- A string's bytes, read one after the other, are those that the grammar says.
use Rattle.std.proofs.Common.{Option, Some, None, ℕ, zero, suc, ◌+◌, ◌*◌, ◌%◌, ◌≤◌, ◌≡◌, refl, ap, Bool, true, false, not, ◌||◌, List, [], ◌∷◌, eqb, length, get_or, drop, length-drop, arith, eqb-true, ne_eqb}
use Rattle.std.proofs.lemmas.Bool.{not-true}
use Rattle.json_text.specs.Bytes.{within, is_simple, is_plain, is_tail, hex_of}
use Rattle.json_text.specs.Grammar.{Characters}
use Rattle.json_text.proofs.Choosing.{never, choose, ranged, both_left, both_right}
use Rattle.json_text.specs.Machinery.Pieces.{piece, piece_of, after_piece, content, content_of}
use Rattle.json_text.specs.Trees.{bytes_of}
use Rattle.json_text.specs.declared.pieces.Piece.{Piece}

wide-piece : (a : ℕ) (s : List ℕ) → 0x80 ≤ a → piece_of (a ∷ s) ≡ Some (piece a 1)
wide-piece a s h = rw (ne_eqb a 0x22 (omega arith), ne_eqb a 0x5C (omega arith))

plain-piece : (a : ℕ) (s : List ℕ) → is_plain a ≡ true → piece_of (a ∷ s) ≡ Some (piece a 1)
plain-piece a s e =
    let f = both_right (within 0x20 0x7F a) _ e in
    rw (not-true (eqb a 0x22) (both_left _ _ f), not-true (eqb a 0x5C) (both_right (not (eqb a 0x22)) _ f))

simple-code : (a : ℕ) → is_simple a ≡ true → eqb a 0x75 ≡ false
simple-code a e = go (eqb a 0x22) refl (eqb a 0x5C) refl (eqb a 0x2F) refl e
  where
    go : (x : Bool) → eqb a 0x22 ≡ x → (y : Bool) → eqb a 0x5C ≡ y → (z : Bool) → eqb a 0x2F ≡ z → (x || (y || z)) ≡ true → eqb a 0x75 ≡ false
    go true x y f z g e = rw (eqb-true a 0x22 x)
    go false x true f z g e = rw (eqb-true a 0x5C f)
    go false x false f true g e = rw (eqb-true a 0x2F g)
    go false x false f false g e = never (cc)

-- a byte takes one byte of the text at least
piece-wide : (s : List ℕ) (x : Piece) → piece_of s ≡ Some x → 1 ≤ x.wide
piece-wide [] x h = never (cc)
piece-wide (b ∷ s) x h =
    choose Is (eqb b 0x22) _ _ (λ e h. never (cc))
    (λ e. choose Is (eqb b 0x5C) _ _
    (λ e. choose Is (eqb (get_or s 0 0) 0x75) _ _ (λ e h. taken (piece _ 6) (omega arith) h) (λ e h. taken (piece _ 2) (omega arith) h))
    (λ e h. taken (piece b 1) (omega arith) h))
    h
  where
    Is : Option Piece → Type 0
    Is v = v ≡ Some x

    taken : (y : Piece) → 1 ≤ y.wide → Is (Some y) → 1 ≤ x.wide
    taken y l h = let same : y ≡ x = cc in omega (arith, ap (λ (z : Piece). z.wide) same)

-- more fuel than bytes left changes nothing
enough : (f g : ℕ) (s : List ℕ) → length s ≤ f → length s ≤ g → content f s ≡ content g s
enough zero zero s hf hg = refl
enough zero (suc g) [] hf hg = refl
enough zero (suc g) (b ∷ s) hf hg = absurd (omega arith)
enough (suc f) zero [] hf hg = refl
enough (suc f) zero (b ∷ s) hf hg = absurd (omega arith)
enough (suc f) (suc g) [] hf hg = refl
enough (suc f) (suc g) (b ∷ s) hf hg = by (piece_of (b ∷ s)) refl (enough f g)
  where
    by : (p : Option Piece) → piece_of (b ∷ s) ≡ p → ((u : List ℕ) → length u ≤ f → length u ≤ g → content f u ≡ content g u)
        → after_piece (content f) (b ∷ s) p ≡ after_piece (content g) (b ∷ s) p
    by None e k = refl
    by (Some x) e k =
        let w = piece-wide (b ∷ s) x e in
        let l : length (drop x.wide (b ∷ s)) ≤ length s = simp length-drop (omega arith) in
        ap (λ (xs : List ℕ). x.byte ∷ xs) (k (drop x.wide (b ∷ s)) (omega arith) (omega arith))

pub content-closed : (s : List ℕ) → piece_of s ≡ None → content_of s ≡ []
unfolding content_of
content-closed [] e = refl
content-closed (b ∷ s) e = rw e

pub content-next : (s : List ℕ) (x : Piece) → piece_of s ≡ Some x → content_of s ≡ x.byte ∷ content_of (drop x.wide s)
unfolding content_of
content-next [] x e = never (cc)
content-next (b ∷ s) x e =
    let w = piece-wide (b ∷ s) x e in
    let rest = drop x.wide (b ∷ s) in
    let l : length rest ≤ length s = simp length-drop (omega arith) in
    rw e (ap (λ (xs : List ℕ). x.byte ∷ xs) (enough (length s) (length rest) rest l (omega arith)))

-- one byte more of a string, where it is one of a character of several
wide-next : (a : ℕ) (s : List ℕ) → 0x80 ≤ a → content_of (a ∷ s) ≡ a ∷ content_of s
wide-next a s h = content-next (a ∷ s) (piece a 1) (wide-piece a s h)

tail-next : (a : ℕ) (s : List ℕ) → is_tail a ≡ true → content_of (a ∷ s) ≡ a ∷ content_of s
tail-next a s e = wide-next a s (ranged 0x80 0xBF a e).0

pub content-of : {s r : List ℕ} (c : Characters s r) → content_of s ≡ bytes_of c
content-of (Characters.close {r = r}) = content-closed (0x22 ∷ r) refl
content-of (Characters.plain {a = a} {s = s} e c) = rw (content-next (a ∷ s) (piece a 1) (plain-piece a s e), content-of c)
content-of (Characters.escape {a = a} {s = s} e c) = rw (content-next (0x5C ∷ a ∷ s) (piece a 2) (rw (simple-code a e)), content-of c)
content-of (Characters.code {a = a} {b = b} {s = s} e f c) =
    rw (content-next (0x5C ∷ 0x75 ∷ 0x30 ∷ 0x30 ∷ a ∷ b ∷ s) (piece (a % 8 * 16 + hex_of b) 6) refl, content-of c)
content-of (Characters.two {a = a} {b = b} {s = s} e f c) =
    rw (wide-next a (b ∷ s) (omega (arith, ranged 0xC2 0xDF a e)), tail-next b s f, content-of c)
content-of (Characters.e0 {b = b} {c = c} {s = s} e f x) =
    rw (wide-next 0xE0 (b ∷ c ∷ s) (omega arith), wide-next b (c ∷ s) (omega (arith, ranged 0xA0 0xBF b e)), tail-next c s f, content-of x)
content-of (Characters.low_three {a = a} {b = b} {c = c} {s = s} e f g x) =
    rw (wide-next a (b ∷ c ∷ s) (omega (arith, ranged 0xE1 0xEC a e)), tail-next b (c ∷ s) f, tail-next c s g, content-of x)
content-of (Characters.ed {b = b} {c = c} {s = s} e f x) =
    rw (wide-next 0xED (b ∷ c ∷ s) (omega arith), wide-next b (c ∷ s) (omega (arith, ranged 0x80 0x9F b e)), tail-next c s f, content-of x)
content-of (Characters.high_three {a = a} {b = b} {c = c} {s = s} e f g x) =
    rw (wide-next a (b ∷ c ∷ s) (omega (arith, ranged 0xEE 0xEF a e)), tail-next b (c ∷ s) f, tail-next c s g, content-of x)
content-of (Characters.f0 {b = b} {c = c} {d = d} {s = s} e f g x) =
    rw (
      wide-next 0xF0 (b ∷ c ∷ d ∷ s) (omega arith),
      wide-next b (c ∷ d ∷ s) (omega (arith, ranged 0x90 0xBF b e)),
      tail-next c (d ∷ s) f,
      tail-next d s g,
      content-of x,
    )
content-of (Characters.four {a = a} {b = b} {c = c} {d = d} {s = s} e f g h x) =
    rw (
      wide-next a (b ∷ c ∷ d ∷ s) (omega (arith, ranged 0xF1 0xF3 a e)),
      tail-next b (c ∷ d ∷ s) f,
      tail-next c (d ∷ s) g,
      tail-next d s h,
      content-of x,
    )
content-of (Characters.f4 {b = b} {c = c} {d = d} {s = s} e f g x) =
    rw (
      wide-next 0xF4 (b ∷ c ∷ d ∷ s) (omega arith),
      wide-next b (c ∷ d ∷ s) (omega (arith, ranged 0x80 0x8F b e)),
      tail-next c (d ∷ s) f,
      tail-next d s g,
      content-of x,
    )
