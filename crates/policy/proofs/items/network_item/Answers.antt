-- A string that is no network is refused by its length, of which its first 129 bytes say enough.
use Rattle.std.proofs.Common.{◌≡◌, sym, ◌∙◌, ap, ℕ, arith, length, take, drop}
use Rattle.json_text.specs.Machinery.Pieces.{content_of}
use Rattle.stored.specs.Machine.{Turn as T}
use Rattle.policy.specs.Machinery.NetworkTexts.{read_of}
use Rattle.policy.proofs.Standing.{network-asks, network-refused}
use Rattle.policy.proofs.items.network_item.Goals as goal

pub returns-in-Some : goal.returns-in-Some
returns-in-Some c =
    let a = c.args in
    let n = c.in-Some.network in
    network-asks a.state a.text.now a.bytes.now a.place c.advance-from.result n.address n.prefix
    c.advance-from.ensures (ap read_of (sym c.in-Some.is) ∙ c.read_network.ensures)

pub returns-in-None : goal.returns-in-None
returns-in-None c =
    let a = c.args in
    let from = c.advance-from.result in
    let room : length a.bytes.now ≡ 129 = omega arith in
    network-refused a.state a.text.now c.copy_string.new.bytes a.place from c.copy_string.result c.advance-from.ensures
    (ap read_of (sym c.in-None.is) ∙ c.read_network.ensures)
    (c.copy_string.auto.bytes ∙ room) (omega (arith, c.copy_string.ensures.inside, room))
    (c.copy_string.ensures.copied ∙ ap (λ (n : ℕ). take n (content_of (drop from a.text.now))) room)
    ∙ ap T.Refused (sym c.unread.ensures)
