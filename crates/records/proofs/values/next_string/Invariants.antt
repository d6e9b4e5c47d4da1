-- The invariant: the wishes from the place at hand are those from the beginning of the walk; no string was passed over.
use Rattle.std.proofs.Common.{◌≡◌, List}
use Rattle.json_text.specs.Machinery.Marks.{tokens_at}
use Rattle.json_text.specs.Machinery.TokensLeft.{walked, reached}
use Rattle.stored.specs.declared.items.Sort.TheVariants as So
use Rattle.records.specs.Wishes.{Wish}
use Rattle.records.specs.Machinery.Streams.{values_from}
use Rattle.records.specs.Machinery.Cursors.{hold_of}
use Rattle.records.proofs.values.next_string.Given as goal

abbrev pub invariant-loop-token : goal.invariant-loop-token
invariant-loop-token l =
    (walked l.token-iterator ≡ l.text)
    × ((behind : List Wish) → values_from So.Text behind (tokens_at l.text l.fn.from) (hold_of l.text l.fn.start) ≡ values_from So.Text behind (tokens_at l.text (reached l.token-iterator)) (hold_of l.text l.hold))
