-- The byte that the row was found by comes first, and then those of the older row's string.
use Rattle.std.proofs.Common.{◌+◌, ◌<◌, length, ap, arith}
use Rattle.states.proofs.StringsOfRows.{chain-parent, older-string}
use Rattle.states.proofs.strings.FromLastIterator.next.Goals as goal

pub returns-clause-steps : goal.returns-clause-steps
returns-clause-steps c =
    let s = c.args.self.now in
    let more : 0 < s.row = omega arith in
    chain-parent s.words.now (s.row + 1) c.requires.keyed s.row more c.requires.low

pub returns-clause-goes : goal.returns-clause-goes
returns-clause-goes c =
    let s = c.args.self.now in
    let more : 0 < s.row = omega arith in
    let on = older-string s.words.now s.row (s.row + 1) c.requires more in
    let shorter = ap length (chain-parent s.words.now (s.row + 1) c.requires.keyed s.row more c.requires.low) in
    record { on = λ finite. (on, finite, omega (arith, shorter)); keeps = on; rests = λ finite. tt }
