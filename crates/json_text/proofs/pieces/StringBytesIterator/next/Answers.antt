-- A string's first byte, and the string behind it.
use Rattle.std.proofs.Common.{sym, ◌∙◌, ap, ℕ, List, ◌∷◌, length, rules}
use Rattle.json_text.specs.Machinery.Pieces.{content_of, bytes_left}
use Rattle.json_text.proofs.Contents.{content-closed, content-next}
use Rattle.json_text.proofs.pieces.StringBytesIterator.next.Goals as goal

pub returns-in_err-piece-clause-steps : goal.returns-in_err-piece-clause-steps
unfolding bytes_left
returns-in_err-piece-clause-steps c =
    let none = content-closed c.args.self.now.rest.now (sym c.piece_of.ensures ∙ c.in_err-piece.was) in
    rw c.from_residual.ensures (none, none)

pub returns-clause-steps : goal.returns-clause-steps
unfolding bytes_left
returns-clause-steps c =
    content-next c.args.self.now.rest.now c.in_ok-piece.piece (sym c.piece_of.ensures ∙ c.in_ok-piece.was)
    ∙ ap (λ (s : List ℕ). c.in_ok-piece.piece.byte ∷ content_of s) (sym c.behind-self.ensures)

pub returns-clause-goes : goal.returns-clause-goes
returns-clause-goes c = let shorter = ap length (returns-clause-steps c) in search rules
