-- The bytes are a part laid over those that were there.
use Rattle.std.proofs.Common.{◌+◌, ◌-◌, ap, ◌∙◌, length, arith, rules}
use borrow.Rule.Slice.PartMut.{put_mid}
use Rattle.printing.proofs.Laying.{copied}
use Rattle.printing.proofs.put.Goals as goal

pub returns : goal.returns
returns c =
    let p = c.args in
    let size = p.at + length p.bytes.now - p.at in
    record {
      lies = ap (put_mid p.at size p.out.now) c.copy_from_slice.ensures.after ∙ copied p.out.now p.at size p.bytes.now (omega arith) c.requires;
      ends = search rules;
      within = search rules;
    }
