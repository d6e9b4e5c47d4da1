use Rattle.std.proofs.Common.{ℕ, ◌+◌, refl, sym, ◌∙◌, subst, false, ◌++◌, arith}
use Rattle.judging.specs.Judging.{rows_of}
use Rattle.states.specs.Machinery.Rows.{prints_at}
use Rattle.states.proofs.Parts.{front_kept}
use Rattle.columns.specs.Values.{networks_in}
use Rattle.columns.proofs.Edges.{edge-high, next-edge-above}
use Rattle.columns.proofs.PlansLaid.{plans-stay}
use Rattle.comparing.proofs.survey.AddressesUpto.{AddressesUpto, upto-room, upto-begins, upto-on, upto-ends}
use Rattle.comparing.proofs.survey.gather_addresses.Goals as goal

pub loop-x-init : goal.loop-x-init
loop-x-init c =
    let a = c.args in (
      omega arith,
      c.add_print-to.ensures.low,
      refl,
      refl,
      upto-begins (rows_of a.tables.first.now) (rows_of a.tables.second.now) c.requires.0 a.words.now c.add_print-to.new.words a.from c.add_print-to.result c.absent_print-absent.result
          (omega (arith, c.requires.1.low, c.requires.1.room, c.add_print-to.ensures.same)) c.absent_print-absent.ensures c.add_print-to.ensures,
    )

pub address_print-print-requires : goal.address_print-print-requires
address_print-print-requires c =
    let l = c.loop-x in
    let a = c.args in (
      plans-stay a.tables.first.now a.tables.second.now 7 false 0 a.words.now l.words a.plans
          (front_kept l.words a.words.now (prints_at + a.from) prints_at (l.invariant.3 ∙ c.add_print-to.ensures.kept) (omega arith)) c.requires.2,
      omega (arith, c.requires.1.room, l.invariant.2, c.add_print-to.ensures.same),
    )

pub add_print-to-requires-in-loop-x : goal.add_print-to-requires-in-loop-x
add_print-to-requires-in-loop-x c =
    let l = c.loop-x in
    let a = c.args in (
      l.invariant.1,
      omega (
        arith,
        c.requires.1.low,
        c.requires.1.room,
        l.invariant.2,
        c.add_print-to.ensures.same,
        upto-room (rows_of a.tables.first.now) (rows_of a.tables.second.now) c.requires.0 l.words a.from l.to l.x l.invariant.4,
      ),
    )

pub next_edge-x-requires : goal.next_edge-x-requires
next_edge-x-requires c =
    let l = c.loop-x in
    let a = c.args in
    let stays = front_kept c.add_print-to-in-loop-x.new.words l.words (prints_at + l.to) (prints_at + a.from) c.add_print-to-in-loop-x.ensures.kept (omega (arith, l.invariant.1)) ∙ l.invariant.3 ∙ c.add_print-to.ensures.kept in (
      c.args.tables.both_read.one,
      c.args.tables.both_read.two,
      plans-stay a.tables.first.now a.tables.second.now 7 false 0 a.words.now c.add_print-to-in-loop-x.new.words a.plans
          (front_kept c.add_print-to-in-loop-x.new.words a.words.now (prints_at + a.from) prints_at stays (omega arith)) c.requires.2,
      omega (arith, c.requires.1.room, l.invariant.2, c.add_print-to.ensures.same, c.add_print-to-in-loop-x.ensures.same),
    )

pub loop-x-smaller : goal.loop-x-smaller
loop-x-smaller c =
    let a = c.args in
    let l = c.loop-x in
    omega (arith, c.next_edge-x.ensures, next-edge-above (networks_in (rows_of a.tables.first.now ++ rows_of a.tables.second.now)) l.x (omega arith))

pub loop-x-preserved : goal.loop-x-preserved
loop-x-preserved c =
    let a = c.args in
    let l = c.loop-x in
    let ns = networks_in (rows_of a.tables.first.now ++ rows_of a.tables.second.now) in (
      omega (arith, c.next_edge-x.ensures, edge-high ns l.x),
      omega (arith, l.invariant.1, c.add_print-to-in-loop-x.ensures.low),
      c.add_print-to-in-loop-x.ensures.same ∙ l.invariant.2,
      front_kept c.add_print-to-in-loop-x.new.words l.words (prints_at + l.to) (prints_at + a.from) c.add_print-to-in-loop-x.ensures.kept (omega (arith, l.invariant.1)) ∙ l.invariant.3,
      subst (λ (x : ℕ). AddressesUpto (rows_of a.tables.first.now) (rows_of a.tables.second.now) c.add_print-to-in-loop-x.new.words a.from c.add_print-to-in-loop-x.result x) (sym c.next_edge-x.ensures)
          (upto-on (rows_of a.tables.first.now) (rows_of a.tables.second.now) c.requires.0 l.words c.add_print-to-in-loop-x.new.words a.from l.to l.x c.address_print-print.result c.add_print-to-in-loop-x.result
          l.invariant.1
          (omega (
            arith,
            c.requires.1.low,
            c.requires.1.room,
            l.invariant.2,
            c.add_print-to.ensures.same,
            c.add_print-to-in-loop-x.ensures.same,
            upto-room (rows_of a.tables.first.now) (rows_of a.tables.second.now) c.requires.0 l.words a.from l.to l.x l.invariant.4,
          ))
          (omega arith) c.address_print-print.ensures l.invariant.4 c.add_print-to-in-loop-x.ensures),
    )

pub returns : goal.returns
returns c =
    let a = c.args in
    let l = c.loop-x in
    upto-ends (rows_of a.tables.first.now) (rows_of a.tables.second.now) c.requires.0 a.words.now l.words a.from l.to l.x (omega arith) l.invariant.4
    (l.invariant.3 ∙ c.add_print-to.ensures.kept) (l.invariant.2 ∙ c.add_print-to.ensures.same)
