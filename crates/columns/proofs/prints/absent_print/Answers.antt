-- The rows of each table that hold, the second's behind the first's.
use Rattle.std.proofs.Common.{◌∙◌}
use Rattle.judging.specs.Requests.{absent}
use Rattle.judging.specs.Meaning.{holds}
use Rattle.judging.specs.Judging.{rows_of}
use Rattle.columns.proofs.PrintWords.{both-fit, both-print}
use Rattle.columns.proofs.prints.absent_print.Goals as goal

pub joined-requires : goal.joined-requires
joined-requires c =
    let a = c.args in
    both-fit (holds a.column absent) (rows_of a.first.now) (rows_of a.second.now) a.size c.rows_in-own.result c.rows_in-other.result
    c.requires.2 c.requires.0 c.requires.1 c.rows_in-own.ensures c.rows_in-other.ensures

pub returns : goal.returns
returns c =
    let a = c.args in
    c.joined.ensures
    ∙ both-print (holds a.column absent) (rows_of a.first.now) (rows_of a.second.now) a.size c.rows_in-own.result c.rows_in-other.result
    c.requires.2 c.requires.0 c.requires.1 c.rows_in-own.ensures c.rows_in-other.ensures
