-- The invariant: `${` was found, or begins with the byte before the index, or stands in the bytes from the index on.
use Rattle.std.proofs.Common.{◌≡◌, ◌&&◌, ◌||◌, eqb, get_or, drop}
use Rattle.stored.specs.Values.{has_variable}
use Rattle.stored.proofs.values.has_variable.Given as goal

abbrev pub invariant-loop-byte : goal.invariant-loop-byte
invariant-loop-byte l =
    (l.found || ((l.dollar && eqb (get_or (drop l.byte-index l.bytes) 0 0) 0x7B) || has_variable (drop l.byte-index l.bytes))) ≡ has_variable l.bytes
