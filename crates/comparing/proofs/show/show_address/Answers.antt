use Rattle.std.proofs.Common.{ℕ, sym, ◌∙◌, ap, subst, ◌++◌, arith}
use Rattle.judging.specs.Requests.{is_present}
use Rattle.judging.specs.Judging.{rows_of}
use Rattle.columns.specs.Values.{networks_in}
use Rattle.columns.proofs.Edges.{edge-high, next-edge-above}
use Rattle.comparing.specs.Compared.{address_in}
use Rattle.comparing.specs.Machinery.ShownValues.{NoneBelow}
use Rattle.comparing.proofs.show.FirstFound.{absence-found, address-found, none_more}
use Rattle.comparing.proofs.show.show_address.Goals as goal

pub returns-then-absent_print-print : goal.returns-then-absent_print-print
returns-then-absent_print-print c =
    let a = c.args in
    λ v w.
    let e = absence-found (rows_of a.tables.first.now) (rows_of a.tables.second.now) 7 a.print (omega arith) (sym c.absent_print.ensures ∙ c.if-absent_print-print.true) v w in
    (ap is_present (sym e), ap address_in (sym e))

pub returns-then-address_print-print : goal.returns-then-address_print-print
returns-then-address_print-print c =
    let a = c.args in
    let l = c.loop-x in
    λ v w.
    let e = address-found (rows_of a.tables.first.now) (rows_of a.tables.second.now) a.print l.x c.loop-x-test.true l.invariant.2 (sym c.address_print.ensures ∙ c.if-address_print-print.true) l.invariant.1 v w in
    (ap is_present (sym e), ap address_in (sym e))

pub loop-x-smaller : goal.loop-x-smaller
loop-x-smaller c =
    let a = c.args in
    let l = c.loop-x in
    let low = c.loop-x-test.true in
    omega (arith, low, c.next_edge-x.ensures, next-edge-above (networks_in (rows_of a.tables.first.now ++ rows_of a.tables.second.now)) l.x low)

pub loop-x-preserved : goal.loop-x-preserved
loop-x-preserved c =
    let a = c.args in
    let l = c.loop-x in
    let edge = c.next_edge-x.ensures in (
      omega (arith, edge, edge-high (networks_in (rows_of a.tables.first.now ++ rows_of a.tables.second.now)) l.x),
      l.invariant.1,
      subst (λ (x : ℕ). NoneBelow (rows_of a.tables.first.now) (rows_of a.tables.second.now) a.print x) (sym edge)
          (none_more (rows_of a.tables.first.now) (rows_of a.tables.second.now) a.print l.x l.invariant.2 (λ shown. c.if-address_print-print.false (c.address_print.ensures ∙ shown))),
    )
