-- `records::effects::effect_on` meets its contract: the effect of the next token, by `effect-met`.
use Rattle.std.proofs.Common.{◌+◌, sym, ◌∙◌, ap, drop}
use Rattle.json_text.specs.Machinery.Marks.{tokens_at}
use Rattle.records.specs.Machinery.Streams.{effect_on}
use Rattle.records.specs.Machinery.Cursors.{wish_of}
use Rattle.records.specs.declared.wishes.Wish as Code
use Rattle.records.proofs.Wishing.{no-effect-left, effect-met}
use Rattle.records.proofs.effects.effect_on.Goals as goal

pub returns-in-Some : goal.returns-in-Some
returns-in-Some c =
    let text = c.args.text.now in
    let x = c.in-Some.token in
    ap effect_on c.in-Some.ensures.tokens
    ∙ effect-met text x.at (drop (x.at + 1) text) (tokens_at text x.behind) x.event
    ∙ ap (λ (w : Code.Wish). wish_of text w x.at) (sym c.effect_by.ensures)

pub returns-in-None : goal.returns-in-None
returns-in-None c = ap effect_on c.in-None.ensures.tokens ∙ no-effect-left c.args.text.now
