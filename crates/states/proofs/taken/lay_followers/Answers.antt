-- The two words of the set are laid down.
use Rattle.std.proofs.Common.{sym, ap, ◌∙◌, subst, arith}
use borrow.Rule.Slice.PartMut.{put_mid}
use Rattle.states.specs.Machinery.Taken.{FollowersSet}
use Rattle.states.proofs.Parts.{put_mid-sets}
use Rattle.states.proofs.TakenRows.{followers-set}
use Rattle.states.proofs.taken.lay_followers.Goals as goal

pub returns : goal.returns
returns c =
    let words = c.args.words.now in
    let set = c.followers_of-set.result.words in
    subst (FollowersSet words)
    (sym (ap (put_mid 5880 2 words) c.copy_from_slice.ensures.after ∙ put_mid-sets words set 5880 2 (omega arith) (omega arith)))
    (followers-set words set c.requires (omega arith) c.followers_of-set.ensures)
