-- The invariant: a wildcard was found, or stands in the bytes from the index on.
use Rattle.std.proofs.Common.{◌≡◌, ◌||◌, drop}
use Rattle.stored.specs.Values.{has_wildcard}
use Rattle.stored.proofs.values.has_wildcard.Given as goal

abbrev pub invariant-loop-byte : goal.invariant-loop-byte
invariant-loop-byte l = (l.found || has_wildcard (drop l.byte-index l.bytes)) ≡ has_wildcard l.bytes
