-- What is promised of JSON texts, in statements that can be read without their proofs. What the reader answers is in `policy`'s promises.
use Rattle.std.proofs.Common.{Option, Some, None, ℕ, ◌≡◌, refl, Bool, true, false, List, ltb, arith, ltb-true, ltb-false}
use Rattle.json_text.specs.Grammar.{Text}
use Rattle.json_text.specs.Trees.{tree_of}
use Rattle.json_text.specs.Answers.{Says}
use Rattle.json_text.proofs.OneTree

-- "The place of 20 is the length of the longest": there is one such place, and so one answer.
pub one-fault : (t : List ℕ) (f g : Option ℕ) → Says t f → Says t g → f ≡ g
one-fault t None None x y = refl
one-fault t None (Some q) x y = absurd (y.no_text x)
one-fault t (Some p) None x y = absurd (x.no_text y)
one-fault t (Some p) (Some q) x y = go (ltb p q) refl (ltb q p) refl
  where
    go : (a : Bool) → ltb p q ≡ a → (b : Bool) → ltb q p ≡ b → Some p ≡ Some q
    go true e b f = absurd (x.longest q (ltb-true p q e) y.inside y.begins)
    go false e true f = absurd (y.longest p (ltb-true q p f) x.inside x.begins)
    go false e false f =
        let l = ltb-false p q e in
        let m = ltb-false q p f in
        let same : p ≡ q = omega arith in
        rw same

-- A text says one thing: its tree does not depend on the way in which it is one of the grammar.
pub one-tree : {t : List ℕ} (x y : Text t) → tree_of x.value_first ≡ tree_of y.value_first
one-tree = OneTree.one-tree
