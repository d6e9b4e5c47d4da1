use Rattle.states.specs.Machinery.Rows.{taken_laid}
use Rattle.states.proofs.Followers.{followers-begin}
use Rattle.states.proofs.taken.followers_of.Goals as goal

pub loop-b-init : goal.loop-b-init
loop-b-init c = followers-begin (taken_laid c.args.words.now)
