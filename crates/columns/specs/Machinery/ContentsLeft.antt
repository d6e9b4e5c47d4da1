-- What an iterator over the contents of a column has still to give.
use Rattle.std.specs.Prelude.{ℕ, false, List, [], ◌∷◌, Option, Some, None}
use Rattle.stored.specs.Entries.{Entry}
use Rattle.stored.specs.EntriesLeft.{entries_left}
use Rattle.stored.specs.Tables.{Listed}
use Rattle.matching.specs.declared.reading.Reading.{Reading}
use Rattle.matching.specs.declared.reading.Reading.TheVariants as R
use Rattle.columns.specs.declared.contents.Listed.TheVariants as L
use Rattle.columns.specs.declared.contents.Listed.{Listed as ListedCode}
use Rattle.columns.specs.declared.contents.Content.{Content}
use Rattle.columns.specs.declared.contents.Contents.{Contents}
use Rattle.columns.specs.Machinery.Contents.{contents_from}

abbrev pub listed_of : ListedCode → Listed
listed_of (L.Text value) = Listed.text value.now
listed_of (L.Range address prefix) = Listed.range address prefix

abbrev pub content_of : Content → Reading × Listed
content_of content = (content.reading, listed_of content.listed)

-- what a record adds, if anything
abbrev pub as_found : Option Content → List (Reading × Listed)
as_found None = []
as_found (Some content) = content_of content ∷ []

-- the contents that are still to come
unfoldable pub contents_left : Contents → List (Reading × Listed)
contents_left iterator = contents_from iterator.column iterator.list.here iterator.list.reading (entries_left iterator.entries)

-- all contents of a column in entries
abbrev pub all_contents : ℕ → List Entry → List (Reading × Listed)
all_contents column es = contents_from column false R.Literal es
