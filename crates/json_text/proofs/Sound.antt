-- Every text that is taken is one of the grammar.
use Rattle.std.proofs.Common.{Option, Some, None, ℕ, ◌≡◌, refl, sym, ◌∙◌, Bool, true, false, List, [], ◌∷◌, eqb}
use Rattle.json_text.specs.declared.machine.State.{State}
use Rattle.json_text.specs.Choice.{pick}
use Rattle.json_text.specs.Machinery.Numbers.{can_end}
use Rattle.json_text.specs.Machinery.Machine.{step_in}
use Rattle.json_text.specs.Grammar.{Blanks, Text}
use Rattle.json_text.specs.declared.machine.Phase.{Phase}
use Rattle.json_text.specs.declared.machine.Phase.TheVariants as P
use Rattle.json_text.proofs.Choosing.{never}
use Rattle.json_text.proofs.Stacks.{Bracket, code, not-one}
use Rattle.json_text.proofs.Accepting.{runs, accepts}
use Rattle.json_text.proofs.Remaining.{Closes, Rest, Fits}
use Rattle.json_text.proofs.Inside.{number-whole}
use Rattle.json_text.proofs.Stepping.{steps}

closed : (ks : List Bracket) → eqb (code ks) 1 ≡ true → Closes ks []
closed [] h = Blanks.none
closed (k ∷ ks) h = let e = sym (not-one k ks) ∙ h in never (cc)

at-end : (p : Phase) (ks : List Bracket) → accepts [] p (code ks) ≡ true → Rest p ks []
at-end P.Value ks h = never (cc)
at-end P.FirstElement ks h = never (cc)
at-end P.FirstMember ks h = never (cc)
at-end P.Member ks h = never (cc)
at-end P.Colon ks h = never (cc)
at-end P.After ks h = closed ks h
at-end (P.Text role i) ks h = never (cc)
at-end (P.Number n) ks h = go (can_end n) refl h
  where
    go : (x : Bool) → can_end n ≡ x → pick x (eqb (code ks) 1) false ≡ true → Rest (P.Number n) ks []
    go true e h = ([], number-whole n [] e, closed ks h)
    go false e h = never (cc)
at-end (P.Word d) ks h = never (cc)

pub remains : (t : List ℕ) (p : Phase) (ks : List Bracket) → Fits p ks → accepts t p (code ks) ≡ true → Rest p ks t
remains [] p ks f h = at-end p ks h
remains (b ∷ t) p ks f h = go (step_in p (code ks) b) refl h (remains t)
  where
    go : (v : Option State) → step_in p (code ks) b ≡ v → runs (accepts t) v ≡ true
        → ((q : Phase) (ls : List Bracket) → Fits q ls → accepts t q (code ls) ≡ true → Rest q ls t) → Rest p ks (b ∷ t)
    go (Some s) e h ih =
        let x = steps b s p ks f e in
        x.back t (ih x.phase x.stack x.fits (rw x.same at h))
    go None e h ih = never (cc)

pub sound : (t : List ℕ) → accepts t P.Value 1 ≡ true → Text t
sound t h = let x = remains t P.Value [] tt h in record { behind = x.0; value_first = x.1; blanks_then = x.2 }
