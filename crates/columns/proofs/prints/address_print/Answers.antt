-- The runs over the plans find the rows of each table that hold, the second's behind the first's.
use Rattle.std.proofs.Common.{◌∙◌}
use Rattle.stored.specs.Entries.{entries_of}
use Rattle.judging.specs.Requests.{number}
use Rattle.judging.specs.Meaning.{holds}
use Rattle.judging.specs.Judging.{rows_of}
use Rattle.columns.proofs.PrintWords.{address-side, both-fit, both-print}
use Rattle.columns.proofs.prints.address_print.Goals as goal

pub joined-requires : goal.joined-requires
joined-requires c =
    let a = c.args in
    let read = a.tables.both_read in
    both-fit (holds 7 (number a.x)) (rows_of a.tables.first.now) (rows_of a.tables.second.now) a.tables.size c.address_rows-own.result c.address_rows-other.result
    read.rows read.few read.more
    (c.address_rows-own.ensures ∙ address-side a.x (entries_of a.tables.first.now) c.own.result.now (c.own.ensures ∙ c.requires.0.own) read.few)
    (c.address_rows-other.ensures ∙ address-side a.x (entries_of a.tables.second.now) c.other.result.now (c.other.ensures ∙ c.requires.0.other) read.more)

pub returns : goal.returns
returns c =
    let a = c.args in
    let read = a.tables.both_read in
    c.joined.ensures
    ∙ both-print (holds 7 (number a.x)) (rows_of a.tables.first.now) (rows_of a.tables.second.now) a.tables.size c.address_rows-own.result c.address_rows-other.result
    read.rows read.few read.more
    (c.address_rows-own.ensures ∙ address-side a.x (entries_of a.tables.first.now) c.own.result.now (c.own.ensures ∙ c.requires.0.own) read.few)
    (c.address_rows-other.ensures ∙ address-side a.x (entries_of a.tables.second.now) c.other.result.now (c.other.ensures ∙ c.requires.0.other) read.more)
