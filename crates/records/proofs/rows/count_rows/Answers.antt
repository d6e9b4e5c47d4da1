-- `records::rows::count_rows` meets its contract: each statement counts one, by `count-in`.
use Rattle.std.proofs.Common.{sym, ◌∙◌, ap, arith, suc, Bool}
use Rattle.json_text.specs.Choice.{pick}
use Rattle.json_text.specs.Machinery.Marks.{tokens_at}
use Rattle.records.specs.Machinery.Rows.{sighted}
use Rattle.records.specs.Machinery.Streams.{count_from}
use Rattle.records.specs.Machinery.Streams.Among.{inside}
use Rattle.records.proofs.Sighting.{counted_by, count-in}
use Rattle.records.proofs.rows.count_rows.Goals as goal

pub returns-else-row : goal.returns-else-row
returns-else-row c =
    let l = c.loop-row in
    let text = c.args.text.now in
    let seen = count-in (tokens_at text l.here) l.among ∙ ap counted_by (sym c.in-Some.ensures.row)
    ∙ ap (λ (b : Bool). pick b (suc (count_from (tokens_at text c.in-Some.row.members) (inside 1))) 1) c.if-row.false in
    omega (arith, seen, l.invariant.2)

pub loop-row-preserved : goal.loop-row-preserved
loop-row-preserved c =
    let l = c.loop-row in
    let text = c.args.text.now in
    let seen = count-in (tokens_at text l.here) l.among ∙ ap counted_by (sym c.in-Some.ensures.row)
    ∙ ap (λ (b : Bool). pick b (suc (count_from (tokens_at text c.in-Some.row.members) (inside 1))) 1) c.if-row.true in
    (omega (arith, l.invariant.0, c.in-Some.ensures.ahead.0), omega arith, omega (arith, seen, l.invariant.2))

pub returns : goal.returns
returns c =
    let l = c.loop-row in
    let text = c.args.text.now in
    let none = count-in (tokens_at text l.here) l.among ∙ ap counted_by (sym c.next_row.ensures.row ∙ ap (sighted text) c.in_default.is) in
    omega (arith, none, l.invariant.2)
