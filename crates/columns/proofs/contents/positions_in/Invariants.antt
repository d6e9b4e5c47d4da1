-- The loop's invariant: the sum so far and the sum of what is left make the sum of the whole column.
use Rattle.std.proofs.Common.{◌≡◌, ◌+◌}
use Rattle.stored.specs.Entries.{entries_of}
use Rattle.columns.specs.Values.{sum_of}
use Rattle.columns.specs.Machinery.Contents.{texts}
use Rattle.columns.specs.Machinery.ContentsLeft.{contents_left, all_contents}
use Rattle.columns.proofs.contents.positions_in.Given as goal

abbrev pub invariant-loop-content : goal.invariant-loop-content
invariant-loop-content l =
    l.sum + sum_of (texts (contents_left l.content-iterator)) ≡ sum_of (texts (all_contents l.column (entries_of l.table)))
