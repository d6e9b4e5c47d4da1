-- The column stands in its 512 bytes.
use Rattle.std.proofs.Common.{◌≡◌, ℕ, ◌+◌, ◌-◌, ◌*◌, ◌∙◌, ap, arith, length-take, take, drop}
use Rattle.std.proofs.lemmas.List.{take_min}
use Rattle.gaps.proofs.lines.value_in.Goals as goal

pub returns : goal.returns
returns c =
    let a = c.args in
    let behind = drop (a.column * 512) a.values.now in
    let width : a.column * 512 + 512 - a.column * 512 ≡ 512 = omega arith in
    let room = take (a.column * 512 + 512 - a.column * 512) behind in (
      ap (λ (n : ℕ). take n room) c.min.ensures ∙ take_min a.size room ∙ ap (λ (n : ℕ). take a.size (take n behind)) width,
      omega (arith, length-take c.min.result room, length-take (a.column * 512 + 512 - a.column * 512) behind),
    )
