-- As many bytes come, the last one first, as the string has.
use Rattle.std.proofs.Common.{ℕ, length, arith, refl, sym, ap, inl, ◌∙◌}
use Rattle.std.proofs.Math.ListN.{length-map}
use Rattle.std.proofs.lemmas.Iterator.{items_from_drains}
use Rattle.std.proofs.lemmas.Iterator.Consumers.{YieldsList-from_first}
use Rattle.states.specs.Machinery.Search.{chain}
use Rattle.states.specs.Machinery.StringLeft.{bytes_left}
use Rattle.states.proofs.StringsOfRows.{chain-short, length-forward}
use Rattle.states.proofs.strings.string_length.Goals as goal

pub count-requires-clause-fits : goal.count-requires-clause-fits
count-requires-clause-fits c =
    let short = chain-short c.args.words.now c.args.i c.args.i in
    inl (omega (arith, short, c.ranges.i.fits))

pub returns : goal.returns
returns c =
    let string = chain c.args.i c.args.words.now c.args.i in
    let ran = c.count.ensures.ran in
    let came = items_from_drains ran.0 (ran.1.1.0, ran.1.1.1, λ _. (ran.1.0, ran.1.1.2)) (YieldsList-from_first (λ (b : ℕ). b) bytes_left string refl) in
    ran.2 ∙ sym (length-map ran.0 (λ b. b)) ∙ ap length came ∙ sym (length-forward string)
