-- `records::effects::effect_of` meets its contract: a statement with no effect has none that is known.
use Rattle.std.proofs.Common.{sym, ◌∙◌, ap}
use Rattle.records.specs.Machinery.Streams.{effect_from}
use Rattle.records.proofs.Wishing.{no-effect-left}
use Rattle.records.proofs.effects.effect_of.Goals as goal

pub returns-in-None : goal.returns-in-None
returns-in-None c = ap effect_from (sym c.in-None.ensures) ∙ no-effect-left c.args.text.now
