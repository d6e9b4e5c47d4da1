use Rattle.std.proofs.Common.{drop, arith, length-drop}
use Rattle.std.proofs.lemmas.List.{take_rest}
use Rattle.cases.proofs.Scanning.{one_behind}
use Rattle.cases.proofs.text.behind_next.Goals as goal

pub returns-clause-value : goal.returns-clause-value
returns-clause-value c =
    let a = c.args in
    let before = rw (take_rest a.text.now a.from) at c.place_of.ensures.value in
    omega (arith, before, one_behind a.separator (drop a.from a.text.now), length-drop a.from a.text.now)
