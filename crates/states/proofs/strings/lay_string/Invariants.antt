-- The bytes that are left are still to be laid down, in front of those that are there already: that is the invariant.
use Rattle.std.proofs.Common.{◌≡◌, ◌+◌, length}
use Rattle.std.proofs.lemmas.List.Edits.{sets}
use Rattle.matching.specs.Machinery.Rows.{forward}
use Rattle.states.specs.Machinery.Search.{string_of}
use Rattle.states.specs.Machinery.StringLeft.{bytes_left}
use Rattle.states.proofs.strings.lay_string.Given as goal

abbrev pub invariant-loop-place : goal.invariant-loop-place
invariant-loop-place l =
    let left = bytes_left l.place-iterator.b in
    (l.place-iterator.a.iter.start ≡ l.at)
    × (l.place-iterator.a.iter.end ≡ l.at + length left)
    × goal.iterator-loop-place.can_next l.place-iterator
    × (sets l.values l.at (forward left) ≡ sets l.initial.values l.at (string_of l.words l.i))
