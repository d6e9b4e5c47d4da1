-- `records::cursor::rows` meets its contract: the statements from the next one on, by `rows_in`.
use Rattle.std.proofs.Common.{sym, ◌∙◌, ap}
use Rattle.json_text.specs.Machinery.Marks.{tokens_at}
use Rattle.records.specs.Machinery.Cursors.{last}
use Rattle.records.proofs.Sighting.{rows_by, rows_in}
use Rattle.records.proofs.cursor.rows.Goals as goal

pub returns-in-Some : goal.returns-in-Some
returns-in-Some c =
    rows_in last (tokens_at c.args.text.now c.args.from) c.args.among ∙ ap (rows_by last) (sym c.in-Some.ensures.row) ∙ c.statement.ensures

pub returns-in-None : goal.returns-in-None
returns-in-None c =
    rows_in last (tokens_at c.args.text.now c.args.from) c.args.among ∙ ap (rows_by last) (sym c.in-None.ensures.row) ∙ c.end.ensures
