-- The invariant: what is read of the number and the address, and what the string has still to say, is what the whole string says.
use Rattle.std.proofs.Common.{◌≡◌, drop}
use Rattle.json_text.specs.Machinery.Pieces.{content_of, bytes_left}
use Rattle.records.specs.Networks.{network_of}
use Rattle.policy.specs.Machinery.NetworkTexts.{read_by}
use Rattle.policy.proofs.NetworkTexts.{Sound}
use Rattle.policy.proofs.networks.read_network.Given as goal

abbrev pub invariant-loop-byte : goal.invariant-loop-byte
invariant-loop-byte l =
    Sound l.seen.part l.seen.number × (read_by l.seen.part l.seen.number (bytes_left l.byte-iterator) ≡ network_of (content_of (drop l.from l.text)))
