-- What the reader of members finds is what is said of the document.
use Rattle.std.proofs.Common.{ℕ, suc, ◌≤◌, ◌≡◌, refl, sym, ◌∙◌, ap, subst, List, [], ◌∷◌, false, arith, length}
use Rattle.json_text.specs.Grammar.{Text}
use Rattle.json_text.specs.Trees.{tree_of}
use Rattle.json_text.specs.Machinery.Tokens.{Token}
use Rattle.json_text.proofs.Tokenizing.{text-tokens}
use Rattle.members.specs.Machinery.Verdicts.{document}
use Rattle.members.specs.Faults.{MemberFault, faults, Behind, Decides}
use Rattle.members.specs.Machinery.Levels.{at, judge, placed, members_of}
use Rattle.members.specs.Machinery.States.{Level as L}
use Rattle.members.proofs.Judging.{judged}
use Rattle.members.proofs.FirstFault.{first, first-fault}
use Rattle.members.proofs.Places.{in_order}
use Rattle.members.proofs.Order.{Falling, faults-fall}

-- Of a text, what is found is what is said of its tree.
pub json-members : (t : List ℕ) (x : Text t) → members_of t ≡ placed (length t) (document (tree_of x.value_first))
unfolding members_of
json-members t x =
    ap (placed (length t)) (ap (λ (ts : List Token). judge ts (at L.Outside 0 0 0 0 0 0 false)) (text-tokens x) ∙ judged (tree_of x.value_first))

further : (fs : List MemberFault) (high low left : ℕ) → high ≤ left → Falling fs high low → Behind left fs
further [] high low left h p = tt
further (f ∷ fs) high low left h p = (omega arith, further fs f.left low left (omega arith) p.2)

first-decides : (size low : ℕ) (fs : List MemberFault) → Falling fs (suc size) low → Decides size fs (placed size (first fs))
first-decides size low [] p = refl
first-decides size low (f ∷ fs) p =
    record {
      fault = f;
      others = fs;
      both = refl;
      its_number = refl;
      its_place = omega arith;
      behind = further fs f.left low f.left (omega arith) p.2;
    }

-- "The lowest place of any 21 or 22 in the text decides; no two can share a place."
pub json-lowest : (t : List ℕ) (x : Text t) → Decides (length t) (faults (tree_of x.value_first)) (members_of t)
json-lowest t x =
    let v = tree_of x.value_first in
    let falls = faults-fall v (suc (length t)) (suc (length x.behind)) (in_order x.value_first (suc (length t)) (omega arith)) in
    subst (Decides (length t) (faults v)) (sym (json-members t x ∙ ap (placed (length t)) (first-fault v)))
    (first-decides (length t) (suc (length x.behind)) (faults v) falls)
