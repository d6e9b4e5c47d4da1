-- The first byte that is left gives the first symbol.
use Rattle.std.proofs.Common.{◌≡◌, ℕ, [], ◌∷◌, map, sym, ap, ◌∙◌}
use Rattle.std.proofs.lemmas.List.{nil_from_length}
use Rattle.matching.specs.Symbols.{symbol_of}
use Rattle.matching.specs.Machinery.Codes.{symbol_code}
use Rattle.matching.specs.Machinery.SymbolsLeft.{symbols_left}
use Rattle.matching.proofs.symbols.Symbols.split_first.Goals as goal

pub returns-in_err-first : goal.returns-in_err-first
unfolding symbols_left
returns-in_err-first c =
    let s = c.args.self in
    let none : symbols_left s ≡ [] = ap (map (λ b. symbol_code s.fold (symbol_of s.wild b))) (nil_from_length s.bytes.now c.in_err-first.ensures.cases) in
    rw c.from_residual.ensures none

pub returns : goal.returns
unfolding symbols_left
returns c =
    let s = c.args.self in
    ap (map (λ b. symbol_code s.fold (symbol_of s.wild b))) c.in_ok-first.ensures.cases.0
    ∙ ap (λ (code : ℕ). code ∷ map (λ b. symbol_code s.fold (symbol_of s.wild b)) c.in_ok-first.others.now) (sym c.symbol_code-code.ensures)
