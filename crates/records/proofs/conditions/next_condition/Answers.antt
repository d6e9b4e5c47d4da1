-- `records::conditions::next_condition` meets its contract: a string under an operator is what the operator's lists are made of.
use Rattle.std.proofs.Common.{Some, sym, ◌∙◌, ap, ◌∷◌}
use Rattle.json_text.specs.Machinery.Marks.{tokens_at}
use Rattle.records.specs.Machinery.Streams.{conditions_from}
use Rattle.records.specs.Machinery.Cursors.{wish_of, spot_of}
use Rattle.records.specs.declared.wishes.Wish as Code
use Rattle.records.proofs.Hearing.{turns}
use Rattle.records.proofs.conditions.next_condition.Goals as goal

pub returns-in-Text : goal.returns-in-Text
returns-in-Text c =
    let l = c.loop-token in
    let text = c.args.text.now in
    let x = c.in-Some.token in
    λ behind. l.invariant behind ∙ turns text behind (tokens_at text x.behind) x.at (tokens_at text l.here) x.event l.spot c.in-Some.ensures.tokens (sym c.in_ok-further.ensures ∙ ap Some c.in-Text.is)
    ∙ ap (λ (w : Code.Wish). wish_of text w x.at ∷ conditions_from behind (tokens_at text x.behind) (spot_of text c.in-Text.spot)) (sym c.string_kind.ensures)
