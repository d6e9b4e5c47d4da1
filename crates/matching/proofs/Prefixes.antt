-- Which prefixes of a value match a string, by the string's last byte: the rules that a state is stepped by. Proved once, over the
-- comparison of bytes.
use Rattle.std.proofs.Common.{◌≡◌, ℕ, suc, ◌<◌, Bool, true, false, ◌&&◌, ◌||◌, List, [], ◌∷◌, ◌++◌, length, get_or, take, sym, refl, ap, ◌∙◌, ap₂, take-suc}
use Rattle.std.proofs.Math.Bool.{and-true, and-false, or-false, and_assoc}
use Rattle.matching.specs.Symbols.{Symbol, star, one, byte}
use Rattle.matching.specs.Matches.{is_empty, some_end, first_and_rest, any_byte, matches, prefix_matches}
use Rattle.matching.specs.Machinery.Steps.{symbol_first, symbol_step}

or_and_right : (a b c : Bool) → ((a && c) || (b && c)) ≡ ((a || b) && c)
or_and_right true true true = refl
or_and_right true true false = refl
or_and_right true false true = refl
or_and_right true false false = refl
or_and_right false b c = refl

and_or_left : (a b c : Bool) → (a && (b || c)) ≡ ((a && b) || (a && c))
and_or_left true b c = refl
and_or_left false b c = refl

or_swap : (a b c d : Bool) → ((a || b) || (c || d)) ≡ ((a || c) || (b || d))
or_swap true b c d = refl
or_swap false true true d = refl
or_swap false true false d = refl
or_swap false false true d = refl
or_swap false false false d = refl

or-again : (a b c : Bool) → b ≡ c → ((a || b) || b) ≡ ((a || c) || b)
or-again a b c e = ap (λ (x : Bool). (a || x) || b) e

not-empty : (s : List ℕ) (b : ℕ) → is_empty (s ++ (b ∷ [])) ≡ false
not-empty [] b = refl
not-empty (a ∷ s) b = refl

pub some-end-empty : (s : List ℕ) → some_end is_empty s ≡ true
some-end-empty [] = refl
some-end-empty (a ∷ s) = some-end-empty s

-- tests of strings that end in b, where the last symbol takes the last byte
module _ (b : ℕ) (t : Bool) (f g : List ℕ → Bool) (none : f [] ≡ false) (more : (s : List ℕ) → f (s ++ (b ∷ [])) ≡ (g s && t)) where
  some-end-takes : (s : List ℕ) → some_end f (s ++ (b ∷ [])) ≡ (some_end g s && t)
  some-end-takes [] = ap₂ ◌||◌ (more []) none ∙ or-false _
  some-end-takes (a ∷ s) = ap₂ ◌||◌ (more (a ∷ s)) (some-end-takes s) ∙ or_and_right (g (a ∷ s)) (some_end g s) t

  first-takes : (first : ℕ → Bool) (s : List ℕ) → first_and_rest first f (s ++ (b ∷ [])) ≡ (first_and_rest first g s && t)
  first-takes first [] = ap (λ (x : Bool). first b && x) none ∙ and-false (first b)
  first-takes first (a ∷ s) = ap (λ (x : Bool). first a && x) (more s) ∙ sym (and_assoc (first a) (g s) t)

-- the same, where the last symbol is a star
module _ (b : ℕ) (f g : List ℕ → Bool) (none : f [] ≡ g []) (more : (s : List ℕ) → f (s ++ (b ∷ [])) ≡ (g (s ++ (b ∷ [])) || f s)) where
  some-end-goes-on : (s : List ℕ) → some_end f (s ++ (b ∷ [])) ≡ (some_end g (s ++ (b ∷ [])) || some_end f s)
  some-end-goes-on [] = ap (λ (x : Bool). x || f []) (more []) ∙ or-again (g (b ∷ [])) (f []) (g []) none
  some-end-goes-on (a ∷ s) =
      ap₂ ◌||◌ (more (a ∷ s)) (some-end-goes-on s)
      ∙ or_swap (g (a ∷ (s ++ (b ∷ [])))) (f (a ∷ s)) (some_end g (s ++ (b ∷ []))) (some_end f s)

  first-goes-on : (first : ℕ → Bool) (s : List ℕ) → first_and_rest first f (s ++ (b ∷ [])) ≡ (first_and_rest first g (s ++ (b ∷ [])) || first_and_rest first f s)
  first-goes-on first [] = ap (λ (x : Bool). first b && x) none ∙ sym (or-false _)
  first-goes-on first (a ∷ s) = ap (λ (x : Bool). first a && x) (more s) ∙ and_or_left (first a) (g (s ++ (b ∷ []))) (f s)

module _ (eq : ℕ → ℕ → Bool) where
  -- the empty string
  pub last-first : (x : Symbol) (p : List Symbol) → matches eq (p ++ (x ∷ [])) [] ≡ symbol_first x (matches eq p [])
  last-first star [] = refl
  last-first one [] = refl
  last-first (byte c) [] = refl
  last-first x (star ∷ p) = last-first x p
  last-first star (one ∷ p) = refl
  last-first one (one ∷ p) = refl
  last-first (byte c) (one ∷ p) = refl
  last-first star (byte d ∷ p) = refl
  last-first one (byte d ∷ p) = refl
  last-first (byte c) (byte d ∷ p) = refl

  one-takes : (b : ℕ) (p : List Symbol) (s : List ℕ) → matches eq (p ++ (one ∷ [])) (s ++ (b ∷ [])) ≡ (matches eq p s && true)
  one-takes b [] [] = refl
  one-takes b [] (a ∷ s) = not-empty s b
  one-takes b (star ∷ p) s = some-end-takes b true (matches eq (p ++ (one ∷ []))) (matches eq p) (last-first one p) (one-takes b p) s
  one-takes b (one ∷ p) s = first-takes b true (matches eq (p ++ (one ∷ []))) (matches eq p) (last-first one p) (one-takes b p) any_byte s
  one-takes b (byte d ∷ p) s = first-takes b true (matches eq (p ++ (one ∷ []))) (matches eq p) (last-first one p) (one-takes b p) (eq d) s

  byte-takes : (c b : ℕ) (p : List Symbol) (s : List ℕ) → matches eq (p ++ (byte c ∷ [])) (s ++ (b ∷ [])) ≡ (matches eq p s && eq c b)
  byte-takes c b [] [] = and-true (eq c b)
  byte-takes c b [] (a ∷ s) = ap (λ (x : Bool). eq c a && x) (not-empty s b) ∙ and-false (eq c a)
  byte-takes c b (star ∷ p) s = some-end-takes b (eq c b) (matches eq (p ++ (byte c ∷ []))) (matches eq p) (last-first (byte c) p) (byte-takes c b p) s
  byte-takes c b (one ∷ p) s = first-takes b (eq c b) (matches eq (p ++ (byte c ∷ []))) (matches eq p) (last-first (byte c) p) (byte-takes c b p) any_byte s
  byte-takes c b (byte d ∷ p) s = first-takes b (eq c b) (matches eq (p ++ (byte c ∷ []))) (matches eq p) (last-first (byte c) p) (byte-takes c b p) (eq d) s

  star-goes-on : (b : ℕ) (p : List Symbol) (s : List ℕ) → matches eq (p ++ (star ∷ [])) (s ++ (b ∷ [])) ≡ (matches eq p (s ++ (b ∷ [])) || matches eq (p ++ (star ∷ [])) s)
  star-goes-on b [] s =
      some-end-empty (s ++ (b ∷ [])) ∙ ap₂ ◌||◌ (sym (not-empty s b)) (sym (some-end-empty s))
  star-goes-on b (star ∷ p) s = some-end-goes-on b (matches eq (p ++ (star ∷ []))) (matches eq p) (last-first star p) (star-goes-on b p) s
  star-goes-on b (one ∷ p) s = first-goes-on b (matches eq (p ++ (star ∷ []))) (matches eq p) (last-first star p) (star-goes-on b p) any_byte s
  star-goes-on b (byte d ∷ p) s = first-goes-on b (matches eq (p ++ (star ∷ []))) (matches eq p) (last-first star p) (star-goes-on b p) (eq d) s

  -- one byte more
  pub last_step : (b : ℕ) (x : Symbol) (p : List Symbol) (s : List ℕ)
      → matches eq (p ++ (x ∷ [])) (s ++ (b ∷ []))
      ≡ symbol_step eq b x (matches eq p (s ++ (b ∷ []))) (matches eq p s) (matches eq (p ++ (x ∷ [])) s)
  last_step b star p s = star-goes-on b p s
  last_step b one p s = one-takes b p s ∙ and-true _
  last_step b (byte c) p s = byte-takes c b p s

  -- no symbols match the empty string and no other
  pub prefix-first-start : (p : List Symbol) → prefix_matches eq p [] 0 ≡ true
  unfolding prefix_matches
  prefix-first-start p = refl

  pub prefix-step-start : (p : List Symbol) (s : List ℕ) (b : ℕ) → prefix_matches eq p (s ++ (b ∷ [])) 0 ≡ false
  unfolding prefix_matches
  prefix-step-start p s b = not-empty s b

  -- the empty string matches one symbol more only through stars
  pub prefix-first : (p : List Symbol) (j : ℕ) → j < length p → prefix_matches eq p [] (suc j) ≡ symbol_first (get_or p j star) (prefix_matches eq p [] j)
  unfolding prefix_matches
  prefix-first p j h = ap (λ (q : List Symbol). matches eq q []) (take-suc p j star h) ∙ last-first (get_or p j star) (take j p)

  -- one byte more
  pub prefix-step : (p : List Symbol) (s : List ℕ) (b j : ℕ) → j < length p
      → prefix_matches eq p (s ++ (b ∷ [])) (suc j)
      ≡ symbol_step eq b (get_or p j star) (prefix_matches eq p (s ++ (b ∷ [])) j) (prefix_matches eq p s j) (prefix_matches eq p s (suc j))
  unfolding prefix_matches
  prefix-step p s b j h =
      ap (λ (q : List Symbol). matches eq q (s ++ (b ∷ []))) (take-suc p j star h)
      ∙ last_step b (get_or p j star) (take j p) s
      ∙ ap (λ (q : List Symbol). symbol_step eq b (get_or p j star) (matches eq (take j p) (s ++ (b ∷ []))) (matches eq (take j p) s) (matches eq q s)) (sym (take-suc p j star h))
