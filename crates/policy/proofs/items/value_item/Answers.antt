-- The first 129 bytes of a string stand for its value.
use Rattle.std.proofs.Common.{◌≡◌, ◌∙◌, ap, ℕ, arith, length, take, drop}
use Rattle.json_text.specs.Machinery.Pieces.{content_of}
use Rattle.policy.proofs.Standing.{value-asks}
use Rattle.policy.proofs.items.value_item.Goals as goal

pub returns : goal.returns
returns c =
    λ s.
    let a = c.args in
    let room : length a.bytes.now ≡ 129 = omega arith in
    value-asks s a.text.now c.copy_string.new.bytes a.place c.advance-from.result c.copy_string.result c.advance-from.ensures
    (c.copy_string.auto.bytes ∙ room) (omega (arith, c.copy_string.ensures.inside, room))
    (c.copy_string.ensures.copied ∙ ap (λ (n : ℕ). take n (content_of (drop c.advance-from.result a.text.now))) room)
