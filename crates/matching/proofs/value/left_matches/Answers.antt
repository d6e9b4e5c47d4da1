use Rattle.std.proofs.Common.{◌≡◌, ℕ, suc, Bool, ◌&&◌, eqb, List, [], ◌∷◌, length, sym, refl, ap, ap₂, eqb-true, ◌∙◌, arith, ne_eqb}
use Rattle.std.proofs.lemmas.List.{nil_from_length}
use Rattle.matching.specs.Matches.{is_empty}
use Rattle.matching.specs.Machinery.SymbolsLeft.{symbols_left, left_matches}
use Rattle.matching.proofs.SymbolsLeft.{left-short, left-takes, left-done, last-star}
use Rattle.matching.proofs.value.left_matches.Goals as goal

ended : (s : List ℕ) → eqb (length s) 0 ≡ is_empty s
ended [] = refl
ended (b ∷ s) = ne_eqb (suc (length s)) 0 (λ w. omega arith)

pub returns : goal.returns
returns c =
    let l = c.loop-code in
    c.is_empty-2.ensures ∙ ended l.rest.now ∙ sym (left-done l.left c.in_default.ensures l.rest.now) ∙ l.invariant.1

pub returns-in_default-split_first : goal.returns-in_default-split_first
returns-in_default-split_first c =
    let l = c.loop-code in
    sym (left-short l.left c.in-Some.behind c.in-Some.code c.in-Some.ensures c.if-code-eq-BEHIND_STAR.false)
    ∙ ap (left_matches l.left) (sym (nil_from_length l.rest.now c.in_default-split_first.ensures.cases))
    ∙ l.invariant.1

pub returns-then-not-takes_symbol : goal.returns-then-not-takes_symbol
returns-then-not-takes_symbol c =
    let l = c.loop-code in
    let more = c.in-Some.behind in
    let rest = c.in-Some-split_first in
    ap (λ (taken : Bool). taken && left_matches more rest.others.now) (sym c.if-not-takes_symbol.true ∙ c.takes_symbol.ensures)
    ∙ sym (left-takes l.left more c.in-Some.code c.in-Some.ensures c.if-code-eq-BEHIND_STAR.false rest.b.now rest.others.now)
    ∙ ap (left_matches l.left) (sym rest.ensures.cases.0)
    ∙ l.invariant.1

pub loop-code-preserved : goal.loop-code-preserved
loop-code-preserved c =
    let l = c.loop-code in
    let more = c.in-Some.behind in
    let rest = c.in-Some-split_first in (
      omega (arith, ap length c.in-Some.ensures, l.invariant.0),
      ap (λ (taken : Bool). taken && left_matches more rest.others.now) (sym c.if-not-takes_symbol.false ∙ c.takes_symbol.ensures)
          ∙ sym (left-takes l.left more c.in-Some.code c.in-Some.ensures c.if-code-eq-BEHIND_STAR.false rest.b.now rest.others.now)
          ∙ ap (left_matches l.left) (sym rest.ensures.cases.0)
          ∙ l.invariant.1,
    )

pub returns-then-is_empty : goal.returns-then-is_empty
returns-then-is_empty c =
    let l = c.loop-code in
    let more = c.in-Some.behind in
    let none : symbols_left more ≡ [] = nil_from_length (symbols_left more) (eqb-true (length (symbols_left more)) 0 (sym c.if-is_empty.ensures)) in
    c.if-is_empty.true
    ∙ sym (last-star l.left (c.in-Some.ensures ∙ ap₂ ◌∷◌ c.if-code-eq-BEHIND_STAR.true none) l.rest.now)
    ∙ l.invariant.1
