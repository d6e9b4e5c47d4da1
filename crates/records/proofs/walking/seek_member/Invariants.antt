-- The invariant: from the place and depth at hand the walk finds what it finds from its beginning.
use Rattle.std.proofs.Common.{◌≡◌, ◌≤◌, suc}
use Rattle.json_text.specs.Machinery.Marks.{tokens_at}
use Rattle.json_text.specs.Machinery.TokensLeft.{walked, reached}
use Rattle.records.specs.Machinery.Walkers.{seek}
use Rattle.records.proofs.walking.seek_member.Given as goal

abbrev pub invariant-loop-token : goal.invariant-loop-token
invariant-loop-token g l =
    let slot = g.N.Name.slot_of (suc (g.N.Name.index l.like)) in
    let here = reached l.token-iterator in
    (walked l.token-iterator ≡ l.text) × (l.depth ≤ here.at)
    × (seek g.N.Name.kind_of g.N.Name.slot_of slot (tokens_at l.text here) l.depth ≡ seek g.N.Name.kind_of g.N.Name.slot_of slot (tokens_at l.text l.fn.from) 0)
