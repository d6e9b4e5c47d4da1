-- The loop's invariant: with the codes left laid down behind those that are, the memory is as it is with all codes laid down from the
-- beginning; and the room that is left is what they need.
use Rattle.std.proofs.Common.{◌≡◌, ◌+◌}
use Rattle.std.proofs.lemmas.List.Edits.{sets}
use Rattle.stored.specs.Entries.{entries_of}
use Rattle.matching.specs.Machinery.Codes.{codes_of}
use Rattle.columns.specs.Values.{sum_of}
use Rattle.columns.specs.Machinery.Contents.{texts}
use Rattle.columns.specs.Machinery.ContentsLeft.{contents_left, all_contents}
use Rattle.columns.proofs.contents.lay_codes.Given as goal

abbrev pub invariant-loop-content : goal.invariant-loop-content
invariant-loop-content l =
    (l.to + sum_of (texts (contents_left l.content-iterator)) ≡ l.from + sum_of (texts (all_contents l.column (entries_of l.table))))
    × (sets l.codes l.to (codes_of (texts (contents_left l.content-iterator)))
    ≡ sets l.initial.codes l.from (codes_of (texts (all_contents l.column (entries_of l.table)))))
