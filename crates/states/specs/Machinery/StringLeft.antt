-- What an iterator over the bytes of a row's string has still to give.
use Rattle.std.specs.Prelude.{ℕ, List}
use Rattle.states.specs.Machinery.Search.{chain}
use Rattle.states.specs.declared.strings.FromLast.{FromLast}

-- the bytes that are still to come, the last one first
abbrev pub bytes_left : FromLast → List ℕ
bytes_left iterator = chain iterator.row iterator.words.now iterator.row
