-- What a walk to a member finds: token by token, and in a tree's tokens.
use Rattle.std.proofs.Common.{ℕ, ◌+◌, ◌-◌, Bool, true, false, ◌≡◌, refl, ◌∙◌, List, arith, eqb, ne_eqb}
use Rattle.json_text.specs.Choice.{pick}
use Rattle.json_text.specs.Trees.{Shape, Tree}
use Rattle.json_text.specs.Trees.Shape.{one, several, named}
use Rattle.json_text.specs.Trees.Tree.{text, other, list, object, end_list, element, end_object, member}
use Rattle.json_text.specs.Machinery.Tokens.{Token, flat}
use Rattle.records.specs.Machinery.Walkers.{Sought, Moved as M, after_move, seek}
use Rattle.records.specs.Machinery.Walkers.Sought.{none, found}

abbrev inside : Shape → ℕ → ℕ
inside one d = d
inside several d = d + 1
inside named d = d + 1

module _ (kind_of : List ℕ → ℕ) (slot_of : ℕ → ℕ) (slot : ℕ) where
  -- a bracket closes above depth 0
  closes : (ts : List Token) (d : ℕ) → after_move (seek kind_of slot_of slot ts) ts (pick (eqb (d + 1) 0) M.Gone (M.On (d + 1 - 1))) ≡ seek kind_of slot_of slot ts d
  closes ts d =
      let e : eqb (d + 1) 0 ≡ false = ne_eqb (d + 1) 0 (λ x. omega arith) in
      let f : d + 1 - 1 ≡ d = omega arith in
      rw (e, f)

  -- a name above depth 0
  names : (b : Bool) (k : ℕ) (ts us : List Token) (d : ℕ)
      → after_move (seek kind_of slot_of slot ts) us (pick (eqb (d + 1) 0) (pick b (M.Here k) (M.On (d + 1))) (M.On (d + 1))) ≡ seek kind_of slot_of slot ts (d + 1)
  names b k ts us d =
      let e : eqb (d + 1) 0 ≡ false = ne_eqb (d + 1) 0 (λ x. omega arith) in
      rw e

  -- a value is passed over
  passes : {k : Shape} (v : Tree k) (ts : List Token) (d : ℕ) → seek kind_of slot_of slot (flat v ts) (inside k d) ≡ seek kind_of slot_of slot ts d
  passes (text n bs) ts d = refl
  passes (other n) ts d = refl
  passes (list n es) ts d = passes es ts d
  passes (object n ms) ts d = passes ms ts d
  passes (end_list n) ts d = closes ts d
  passes (element v es) ts d = passes v (flat es ts) (d + 1) ∙ passes es ts d
  passes (end_object n) ts d = closes ts d
  passes (member n x v ms) ts d =
      names (eqb (slot_of (kind_of x)) slot) (kind_of x) (flat v (flat ms ts)) (flat v (flat ms ts)) d
      ∙ passes v (flat ms ts) (d + 1) ∙ passes ms ts d

  -- the first member with a mark, with what is behind it
  abbrev pub sought_in : Tree named → List Token → Sought
  sought_in (end_object n) ts = none
  sought_in (member n x v ms) ts = pick (eqb (slot_of (kind_of x)) slot) (found (kind_of x) (flat v (flat ms ts))) (sought_in ms ts)

  pub seeks : (ms : Tree named) (ts : List Token) → seek kind_of slot_of slot (flat ms ts) 0 ≡ sought_in ms ts
  seeks (end_object n) ts = refl
  seeks (member n x v ms) ts = by (eqb (slot_of (kind_of x)) slot) (passes v (flat ms ts) 0 ∙ seeks ms ts)
    where
      by : (b : Bool) → seek kind_of slot_of slot (flat v (flat ms ts)) 0 ≡ sought_in ms ts
          → after_move (seek kind_of slot_of slot (flat v (flat ms ts))) (flat v (flat ms ts)) (pick b (M.Here (kind_of x)) (M.On 0))
          ≡ pick b (found (kind_of x) (flat v (flat ms ts))) (sought_in ms ts)
      by true h = refl
      by false h = h
