-- Two strings compared by `eq` of iterators over their bytes.
use Rattle.std.proofs.Common.{Option, Some, None, MatchOption, IfSome, ℕ, ◌≡◌, sym, ◌∙◌, ap₂, subst, Bool, true, false, List, [], ◌∷◌, eqb}
use Rattle.std.specs.Iterator.{AlwaysYields, YieldsThen, ComparesItemsByEq}
use Rattle.std.specs.List.{AllZip}
use Rattle.std.proofs.lemmas.Iterator.{YieldsList}
use Rattle.json_text.specs.Choice.{same_bytes}

module _ {S T : Type 0} (steps : S → Option ℕ → S → Type 0) (others : T → Option ℕ → T → Type 0) (eq : ℕ → ℕ → Bool) (same : (x y : ℕ) → eq x y ≡ eqb x y) (r : Bool) where
  abbrev Last : Option ℕ → Option ℕ → Type 0
  Last o p = MatchOption o (MatchOption p (r ≡ true) (λ _. r ≡ false)) (λ x. (r ≡ false) × IfSome p (λ y. eq x y ≡ false))

  at_last : (o p : Option ℕ) (xs ys : List ℕ) (s u : S) (t w : T) → AlwaysYields steps (λ x. x) s xs → AlwaysYields others (λ x. x) t ys
      → steps s o u → others t p w → Last o p → r ≡ same_bytes xs ys
  at_last None p (x ∷ xs) ys s u t w e f a b h = absurd (e.0 u a)
  at_last (Some x) p [] ys s u t w e f a b h = absurd (e x u a)
  at_last o None xs (y ∷ ys) s u t w e f a b h = absurd (f.0 w b)
  at_last o (Some y) xs [] s u t w e f a b h = absurd (f y w b)
  at_last None None [] [] s u t w e f a b h = h
  at_last None (Some y) [] (z ∷ ys) s u t w e f a b h = h
  at_last (Some x) None (z ∷ xs) [] s u t w e f a b h = h.0
  at_last (Some x) (Some y) (x' ∷ xs) (y' ∷ ys) s u t w e f a b h =
      let differ : eqb x' y' ≡ false = ap₂ eqb (sym (e.1 x u a).0) (sym (f.1 y w b).0) ∙ sym (same x y) ∙ h.1 in
      rw differ h.0

  along : (cs bs : List ℕ) (o p : Option ℕ) (xs ys : List ℕ) (s u : S) (t w : T) → AlwaysYields steps (λ x. x) s xs → AlwaysYields others (λ x. x) t ys
      → YieldsThen steps s cs o u → YieldsThen others t bs p w → AllZip (λ x y. eq x y ≡ true) cs bs → Last o p → r ≡ same_bytes xs ys
  along [] [] o p xs ys s u t w e f a b z h =
      at_last o p xs ys s u t w e f (subst (λ j. steps j o u) (sym a.1) a.2) (subst (λ j. others j p w) (sym b.1) b.2) h
  along [] (y ∷ bs) o p xs ys s u t w e f a b z h = absurd z
  along (x ∷ cs) [] o p xs ys s u t w e f a b z h = absurd z
  along (x ∷ cs) (y ∷ bs) o p [] ys s u t w e f a b z h = absurd (e x a.1.0 a.1.1)
  along (x ∷ cs) (y ∷ bs) o p (x' ∷ xs) [] s u t w e f a b z h = absurd (f y b.1.0 b.1.1)
  along (x ∷ cs) (y ∷ bs) o p (x' ∷ xs) (y' ∷ ys) s u t w e f a b z h =
      let m = e.1 x a.1.0 a.1.1 in
      let n = f.1 y b.1.0 b.1.1 in
      let agree : eqb x' y' ≡ true = ap₂ eqb (sym m.0) (sym n.0) ∙ sym (same x y) ∙ z.0 in
      rw agree (along cs bs o p xs ys a.1.0 u b.1.0 w m.1 n.1 (a.0, a.1.2, a.2) (b.0, b.1.2, b.2) z.1 h)

-- `eq` of two iterators over bytes is `same_bytes` of their lists
pub eq-of-bytes : {S U T : Type 0} {steps : S → Option ℕ → S → Type 0} {others : T → Option ℕ → T → Type 0} {s : S} {eq : ℕ → ℕ → Bool} {xs ys : List ℕ}
    (becomes : U → T → Type 0) (other : U) (r : Bool) → ComparesItemsByEq steps becomes others s other eq r
    → YieldsList steps (λ x. x) s xs → ((it : T) → becomes other it → YieldsList others (λ x. x) it ys) → ((x y : ℕ) → eq x y ≡ eqb x y)
    → r ≡ same_bytes xs ys
eq-of-bytes {steps = steps} {others = others} {s = s} {eq = eq} {xs = xs} {ys = ys} becomes other r d e f same =
    along steps others eq same r d.1 d.2 d.3 d.4 xs ys s d.5 d.0 d.6 e.runs (f d.0 d.7).runs d.8 d.9 d.10 d.11
