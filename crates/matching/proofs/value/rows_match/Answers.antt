use Rattle.std.proofs.Common.{ℕ, ◌+◌, ◌<◌, ◌≤◌, List, ◌∷◌, length, get_or, drop, sym, ap, ap₂, ◌∙◌, add-one, arith, drop_of_length-le, drop-cons}
use Rattle.matching.specs.Machinery.SymbolsLeft.{symbols_left}
use Rattle.matching.specs.Machinery.Rows.{row_bit, row_after, row_of, step_row}
use Rattle.matching.proofs.Sweeps.{first-cells, step-cells}
use Rattle.matching.proofs.SymbolsLeft.{rows-decide}
use Rattle.matching.proofs.value.rows_match.Goals as goal

pub loop-b-init : goal.loop-b-init
unfolding row_of
loop-b-init c =
    let a = c.args in
    let all : List ℕ = 1 ∷ symbols_left a.symbols in
    ap (λ (row : List ℕ). row_after all row a.string.now) (c.row_of_value-row.ensures ∙ first-cells all)

pub loop-b-preserved : goal.loop-b-preserved
loop-b-preserved c =
    let l = c.loop-b in
    let a = c.args in
    let s = a.string.now in
    let all : List ℕ = 1 ∷ symbols_left a.symbols in
    let inside : l.b-index < length s = omega arith in
    ap (λ (row : List ℕ). row_after all row (drop (l.b-index + 1) s)) (c.row_of_value-next.ensures ∙ step-cells all (get_or s l.b-index 0) l.row)
    ∙ ap (λ (n : ℕ). row_after all (step_row all (get_or s l.b-index 0) l.row) (drop n s)) (add-one l.b-index)
    ∙ ap (row_after all l.row) (sym (drop-cons s l.b-index 0 inside))
    ∙ l.invariant

pub returns : goal.returns
returns c =
    let l = c.loop-b in
    let a = c.args in
    let s = a.string.now in
    let all : List ℕ = 1 ∷ symbols_left a.symbols in
    let past : length s ≤ l.b-index = omega arith in
    c.has_position.ensures
    ∙ ap₂ row_bit (ap (row_after all l.row) (sym (drop_of_length-le s past)) ∙ l.invariant) c.len.ensures
    ∙ rows-decide a.symbols c.requires s
