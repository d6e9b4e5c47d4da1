-- What an iterator over the records of a table has still to give.
use Rattle.std.specs.Prelude.{List}
use Rattle.stored.specs.Entries.{Entry, entries_of}
use Rattle.stored.specs.declared.entries.Entries.{Entries}

-- the entries that are still to come
unfoldable pub entries_left : Entries → List Entry
entries_left iterator = entries_of iterator.rest.now
