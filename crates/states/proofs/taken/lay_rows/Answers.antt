use Rattle.std.proofs.Common.{◌+◌, arith, get_or}
use Rattle.states.specs.Machinery.Rows.{codes_at, codes_laid}
use Rattle.states.proofs.TakenRows.{with_rows, rows-begin, rows_start, rows_next, rows_end, rows_whole, code_read}
use Rattle.states.proofs.taken.lay_rows.Goals as goal

pub loop-p-init : goal.loop-p-init
loop-p-init c =
    let a = c.args in
    let words = a.words.now in
    let cleared = with_rows words c.clear.new.words in
    rows_start (codes_laid a.positions cleared) words cleared (rows-begin (codes_laid a.positions cleared) words c.clear.new.words c.requires.1 c.clear.ensures)

pub loop-p-preserved : goal.loop-p-preserved
loop-p-preserved c =
    let a = c.args in
    let l = c.loop-p in
    let cleared = with_rows a.words.now c.clear.new.words in
    rows_next (codes_laid a.positions cleared) cleared l.words c.mark_code.new.words l.p (get_or l.words (codes_at + l.p) 0) (omega arith)
    (code_read a.positions cleared l.words l.p c.requires.0 (omega arith) l.invariant.front) l.invariant c.mark_code.ensures

pub returns : goal.returns
returns c =
    let a = c.args in
    let l = c.loop-p in
    let words = a.words.now in
    let part = c.clear.new.words in
    let cleared = with_rows words part in
    rows_whole a.positions words cleared l.words c.requires.0 (rows-begin (codes_laid a.positions cleared) words part c.requires.1 c.clear.ensures)
    (rows_end a.positions cleared cleared l.words l.p (omega arith) l.invariant)
