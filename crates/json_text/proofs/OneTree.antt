-- A tree can be read back from its tokens, so that a text has one tree, whichever way it is one of the grammar.
use Rattle.std.proofs.Common.{ℕ, ◌≡◌, sym, ◌∙◌, List, [], ◌∷◌}
use Rattle.json_text.specs.Grammar.{Text}
use Rattle.json_text.specs.Trees.{Shape, Tree, tree_of}
use Rattle.json_text.specs.Trees.Shape.{one}
use Rattle.json_text.specs.Trees.Tree.{text, other, list, object, end_list, element, end_object, member}
use Rattle.json_text.specs.Machinery.Tokens.{Token, flat}
use Rattle.json_text.proofs.Choosing.{never}
use Rattle.json_text.proofs.Tokenizing.{text-tokens}

-- no value begins with the end of a list
no_end {ℓ} : {A : Type ℓ} (v : Tree one) (ts us : List Token) (n : ℕ) → flat v ts ≡ Token.close-list n ∷ us → A
no_end (text m bs) ts us n e = never (cc)
no_end (other m) ts us n e = never (cc)
no_end (list m es) ts us n e = never (cc)
no_end (object m ms) ts us n e = never (cc)

-- trees of one shape whose tokens are the same are the same, and so is what follows
pub same-tree : {k : Shape} (x y : Tree k) (ts us : List Token) → flat x ts ≡ flat y us → (x ≡ y) × (ts ≡ us)
same-tree (text n bs) (text m cs) ts us e = (cc, cc)
same-tree (text n bs) (other m) ts us e = never (cc)
same-tree (text n bs) (list m fs) ts us e = never (cc)
same-tree (text n bs) (object m ns) ts us e = never (cc)
same-tree (other n) (text m cs) ts us e = never (cc)
same-tree (other n) (other m) ts us e = (cc, cc)
same-tree (other n) (list m fs) ts us e = never (cc)
same-tree (other n) (object m ns) ts us e = never (cc)
same-tree (list n es) (text m cs) ts us e = never (cc)
same-tree (list n es) (other m) ts us e = never (cc)
same-tree (list n es) (list m fs) ts us e =
    let h = same-tree es fs ts us (cc) in
    let p = h.0 in
    (cc, h.1)
same-tree (list n es) (object m ns) ts us e = never (cc)
same-tree (object n ms) (text m cs) ts us e = never (cc)
same-tree (object n ms) (other m) ts us e = never (cc)
same-tree (object n ms) (list m fs) ts us e = never (cc)
same-tree (object n ms) (object m ns) ts us e =
    let h = same-tree ms ns ts us (cc) in
    let p = h.0 in
    (cc, h.1)
same-tree (end_list n) (end_list m) ts us e = (cc, cc)
same-tree (end_list n) (element w fs) ts us e = no_end w (flat fs us) ts n (sym e)
same-tree (element v es) (end_list m) ts us e = no_end v (flat es ts) us m e
same-tree (element v es) (element w fs) ts us e =
    let h = same-tree v w (flat es ts) (flat fs us) e in
    let p = h.0 in
    let i = same-tree es fs ts us h.1 in
    let q = i.0 in
    (cc, i.1)
same-tree (end_object n) (end_object m) ts us e = (cc, cc)
same-tree (end_object n) (member m cs w ns) ts us e = never (cc)
same-tree (member n bs v ms) (end_object m) ts us e = never (cc)
same-tree (member n bs v ms) (member m cs w ns) ts us e =
    let h = same-tree v w (flat ms ts) (flat ns us) (cc) in
    let p = h.0 in
    let i = same-tree ms ns ts us h.1 in
    let q = i.0 in
    (cc, i.1)

pub one-tree : {t : List ℕ} (x y : Text t) → tree_of x.value_first ≡ tree_of y.value_first
one-tree x y = (same-tree (tree_of x.value_first) (tree_of y.value_first) [] [] (sym (text-tokens x) ∙ text-tokens y)).0
