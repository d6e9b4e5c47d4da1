use Rattle.matching.specs.Machinery.Codes.{takes_byte}
use Rattle.states.proofs.ByteSets.{set-added}
use Rattle.states.proofs.named.named_by.Goals as goal

pub returns : goal.returns
returns c = set-added (takes_byte c.args.code) c.with_named.result.words c.with_named.ensures
