-- The words of the row are a part laid over those that were there.
use Rattle.std.proofs.Common.{◌+◌, ◌-◌, ◌*◌, ◌∙◌, ap, arith}
use borrow.Rule.Slice.PartMut.{put_mid}
use Rattle.states.proofs.Parts.{put_mid-sets}
use Rattle.states.proofs.rows.put_row.Goals as goal

pub returns : goal.returns
returns c =
    let a = c.args in
    ap (put_mid (a.i * 8) (a.i * 8 + 8 - a.i * 8) a.words.now) c.copy_from_slice.ensures.after
    ∙ put_mid-sets a.words.now a.row (a.i * 8) (a.i * 8 + 8 - a.i * 8) (omega arith) (omega arith)
