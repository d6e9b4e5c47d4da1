-- The invariant: from the place at hand the walk finds the statement that it finds from its beginning.
use Rattle.std.proofs.Common.{◌≡◌, ◌≤◌}
use Rattle.json_text.specs.Machinery.Marks.{tokens_at}
use Rattle.json_text.specs.Machinery.TokensLeft.{walked, reached}
use Rattle.records.specs.Machinery.Rows.{AtMost, row_in}
use Rattle.records.proofs.rows.next_row.Given as goal

abbrev pub invariant-loop-token : goal.invariant-loop-token
invariant-loop-token l =
    let here = reached l.token-iterator in
    (walked l.token-iterator ≡ l.text) × (l.fn.from.at ≤ here.at) × AtMost here.at l.among × (row_in (tokens_at l.text here) l.among ≡ row_in (tokens_at l.text l.fn.from) l.fn.start)
