-- The rows of the bytes, then the row of the stars behind them, then the set of the bytes that follow others.
use Rattle.std.proofs.Common.{ℕ, ◌+◌, ◌-◌, ap, ◌∙◌, subst, List, arith, take, drop}
use Rattle.matching.specs.Machinery.Words.{star_row}
use Rattle.states.specs.Machinery.Rows.{codes_at}
use Rattle.states.specs.Machinery.Taken.{FollowersSet}
use Rattle.states.proofs.TakenRows.{taken-laid}
use Rattle.states.proofs.taken.lay_taken.Goals as goal

pub returns : goal.returns
returns c =
    let a = c.args in
    taken-laid a.positions a.words.now c.lay_rows.new.words c.lay_followers.new.words c.stars_of-stars.result c.requires.0 c.requires.1 c.lay_rows.ensures
    (c.stars_of-stars.ensures ∙ ap (λ (k : ℕ). star_row (take k (drop codes_at c.lay_rows.new.words))) {x = codes_at + a.positions - codes_at} {y = a.positions} (omega arith))
    (subst (λ (w : List ℕ). FollowersSet w c.lay_followers.new.words) c.put_row.ensures c.lay_followers.ensures)
