-- No position ahead names a byte that is not tried, or the byte follows another.
use Rattle.std.proofs.Common.{ℕ, ◌*◌, List, ◌∙◌, sym, subst, arith}
use Rattle.states.specs.Machinery.Bytes.{Names, ToTry}
use Rattle.states.proofs.TakenRows.{pair-at}
use Rattle.matching.specs.Machinery.Words.{ahead_row}
use Rattle.states.proofs.Used.{used-words}
use Rattle.states.proofs.Trying.{enough}
use Rattle.states.proofs.explore.bytes_from.Goals as goal

pub returns : goal.returns
returns c =
    let a = c.args in
    let words = a.words.now in
    let named = c.name_positions-named.result.words in
    let bytes = c.bytes_to_try.result.words in
    enough a.positions words a.row named bytes c.requires
    (subst (λ (n : ℕ). Names words (ahead_row a.row) (64 * n) named) (c.div_ceil-used.ensures ∙ used-words a.positions)
    (subst (λ (row : List ℕ). Names words row (64 * c.div_ceil-used.result) named) c.ahead_of-ahead.ensures c.name_positions-named.ensures))
    (subst (λ (row : List ℕ). ToTry named row bytes) (sym (pair-at words 5880 (omega (arith, c.requires.room)))) c.bytes_to_try.ensures)
