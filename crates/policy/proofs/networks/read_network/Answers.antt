-- `policy::networks::read_network` meets its contract: one byte more, a byte that fails, the end.
use Rattle.std.proofs.Common.{◌≡◌, Some, None, sym, ◌∙◌, ap, arith}
use Rattle.json_text.specs.Machinery.Pieces.{bytes_left}
use Rattle.records.specs.Networks.{network_of}
use Rattle.policy.specs.Machinery.NetworkTexts.{step_of, read_of, read_by}
use Rattle.policy.specs.declared.networks.Part.TheVariants as P
use Rattle.policy.proofs.NetworkTexts.{has_room, step-sound, goes_on_lem, fails, closes}
use Rattle.policy.proofs.networks.read_network.Goals as goal

pub loop-byte-init : goal.loop-byte-init
unfolding network_of
loop-byte-init c =
    let whole = ap bytes_left c.into_iter-byte-iterator.ensures.into_iter_gives ∙ c.string_at-byte-items.ensures in
    (record { room = omega arith; small = tt }, ap (read_by (P.Dotted 3 0) None) whole)

pub end-requires : goal.end-requires
end-requires c = has_room c.loop-byte.seen.part c.loop-byte.invariant.0.room

pub returns : goal.returns
returns c =
    let l = c.loop-byte in
    ap read_of c.end.ensures ∙ sym (closes (bytes_left l.byte-iterator) l.seen c.in-None.ensures.steps.0) ∙ l.invariant.1

pub step-requires : goal.step-requires
step-requires c = has_room c.loop-byte.seen.part c.loop-byte.invariant.0.room

pub loop-byte-preserved : goal.loop-byte-preserved
loop-byte-preserved c =
    let l = c.loop-byte in
    let b = c.in-Some.byte in
    let next = c.in_ok-seen.seen in
    let f : step_of l.seen b ≡ Some next = sym c.step.ensures ∙ c.in_ok-seen.was in (
      rw f at (step-sound l.seen.part l.seen.number b l.invariant.0),
      sym (goes_on_lem (bytes_left l.byte-iterator) l.seen b (bytes_left c.next.new.self) next c.in-Some.ensures.steps f) ∙ l.invariant.1,
    )

pub returns-in_err-seen : goal.returns-in_err-seen
returns-in_err-seen c =
    let l = c.loop-byte in
    ap read_of c.from_residual.ensures
    ∙ sym (fails (bytes_left l.byte-iterator) l.seen c.in-Some.byte (bytes_left c.next.new.self) c.in-Some.ensures.steps (sym c.step.ensures ∙ c.in_err-seen.was))
    ∙ l.invariant.1
