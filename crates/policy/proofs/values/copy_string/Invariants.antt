-- The invariant: what is copied, and what the string has still to say, is what the whole string says.
use Rattle.std.proofs.Common.{◌≡◌, ◌++◌, take, drop}
use Rattle.json_text.specs.Machinery.Pieces.{content_of, bytes_left}
use Rattle.policy.proofs.values.copy_string.Given as goal

abbrev pub invariant-loop-i : goal.invariant-loop-i
invariant-loop-i l = take l.i l.bytes ++ bytes_left l.said ≡ content_of (drop l.from l.text)
