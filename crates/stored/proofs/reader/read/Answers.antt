use Rattle.std.proofs.Common.{sym, ◌-◌, length, ◌∙◌, arith}
use Rattle.std.proofs.lemmas.Bool.{lt-ltb, le-ltb}
use Rattle.stored.specs.Reading.{reading}
use Rattle.stored.proofs.Steps.{goes-inside, goes, stops, at-end}
use Rattle.stored.proofs.reader.read.Goals as goal

pub returns-then-table-gt-MOST_BYTES : goal.returns-then-table-gt-MOST_BYTES
unfolding reading
returns-then-table-gt-MOST_BYTES c = simp (lt-ltb _ _ c.if-table-gt-MOST_BYTES.true)

pub loop-at-smaller : goal.loop-at-smaller
loop-at-smaller c =
    let on = goes-inside _ _ _ _ _ (sym c.in-Ok.ensures) in
    omega arith

pub loop-at-preserved : goal.loop-at-preserved
loop-at-preserved c =
    let on = goes-inside _ _ _ _ _ (sym c.in-Ok.ensures) in
    (on.1, sym (goes _ _ _ _ _ c.loop-at-test.true (sym c.in-Ok.ensures)) ∙ c.loop-at.invariant.1)

pub returns-in-Err : goal.returns-in-Err
unfolding reading
returns-in-Err c =
    simp (le-ltb _ _ c.if-table-gt-MOST_BYTES.false)
    (sym (stops _ _ _ _ c.loop-at-test.true (sym c.in-Err.ensures)) ∙ c.loop-at.invariant.1)

pub returns : goal.returns
unfolding reading
returns c =
    simp (le-ltb _ _ c.if-table-gt-MOST_BYTES.false)
    (c.finish.ensures ∙ sym (at-end (length c.args.table.now - c.loop-at.at) _ _ _ c.loop-at-test.false) ∙ c.loop-at.invariant.1)
