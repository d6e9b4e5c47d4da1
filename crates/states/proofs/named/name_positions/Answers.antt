use Rattle.states.proofs.NamedBytes.{names_more}
use Rattle.states.proofs.named.name_positions.Goals as goal

pub loop-i-preserved : goal.loop-i-preserved
loop-i-preserved c =
    let l = c.loop-i in
    let a = c.args in
    names_more a.words.now a.row l.named.words c.name_word-named.result.words l.i l.invariant c.name_word-named.ensures
