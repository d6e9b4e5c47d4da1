-- The invariant: the bytes before the index lie in range, and so do those from it on.
use Rattle.std.proofs.Common.{◌≡◌, ◌&&◌, drop}
use Rattle.stored.specs.Values.{in_range}
use Rattle.stored.proofs.values.is_in_range.Given as goal

abbrev pub invariant-loop-byte : goal.invariant-loop-byte
invariant-loop-byte l = (l.every && in_range (drop l.byte-index l.bytes)) ≡ in_range l.bytes
