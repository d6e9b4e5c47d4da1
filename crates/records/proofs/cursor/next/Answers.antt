-- `records::cursor::next` meets its contract: a place behind the text's end says what its end says.
use Rattle.std.proofs.Common.{sym, ◌∙◌, ap, ◌∷◌}
use Rattle.records.specs.Wishes.{Wish}
use Rattle.records.specs.Machinery.Cursors.{wish_of, wishes_left}
use Rattle.records.proofs.Wishing.{clipped}
use Rattle.records.proofs.cursor.next.Goals as goal

pub returns-clause-wishes : goal.returns-clause-wishes
returns-clause-wishes c =
    let text = c.args.text.now in
    let x = c.in_ok-wished.wished in
    c.in_ok-wished.ensures
    ∙ ap (λ (w : Wish). w ∷ wishes_left text x.cursor) (clipped text x.wish x.place ∙ ap (wish_of text x.wish) (sym c.min.ensures))
