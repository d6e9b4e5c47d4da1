-- The invariant: what is left to read, from the place and the state at hand, gives the answer for the whole text.
use Rattle.std.proofs.Common.{◌≤◌, ◌-◌, ◌≡◌, length, drop}
use Rattle.json_text.specs.Machinery.Machine.{start_state}
use Rattle.json_text.specs.Machinery.Reading.{fault_from}
use Rattle.json_text.proofs.reader.json_fault.Given as goal

abbrev pub invariant-loop-at : goal.invariant-loop-at
invariant-loop-at l = (l.at ≤ length l.text) × (fault_from (drop l.at l.text) l.at l.state ≡ fault_from l.text 0 start_state)

abbrev pub decreases-loop-at : goal.decreases-loop-at
decreases-loop-at l = length l.text - l.at
