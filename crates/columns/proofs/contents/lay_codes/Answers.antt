-- A value's codes go in front of those that are left; a network has none.
use Rattle.std.proofs.Common.{◌+◌, ℕ, List, arith, ap, ap₂, sym, ◌∙◌}
use Rattle.std.proofs.lemmas.List.Edits.{sets}
use Rattle.stored.specs.Tables.{Listed}
use Rattle.matching.specs.declared.reading.Reading.{Reading}
use Rattle.matching.specs.Machinery.Codes.{value_codes, codes_of}
use Rattle.columns.specs.Values.{sum_of}
use Rattle.columns.specs.Machinery.Contents.{texts}
use Rattle.columns.specs.Machinery.ContentsLeft.{contents_left}
use Rattle.columns.proofs.Laying.{sets-append}
use Rattle.columns.proofs.LeftInColumn.{all-values}
use Rattle.columns.proofs.Widths.{codes-length}
use Rattle.columns.proofs.contents.lay_codes.Goals as goal

pub lay_value-to-requires : goal.lay_value-to-requires
lay_value-to-requires c =
    let more = rw c.in-Text.is at (ap (λ (l : List (Reading × Listed)). sum_of (texts l)) c.in-Some.ensures.steps) in
    let all = ap sum_of (all-values c.args.column c.args.table.now c.requires.0) in
    omega (arith, c.requires.1, c.loop-content.invariant.0)

pub loop-content-preserved-in-Text : goal.loop-content-preserved-in-Text
loop-content-preserved-in-Text c =
    let l = c.loop-content in
    let value = c.in-Text.value.now in
    let run = value_codes c.in-Some.content.reading value in
    let rest = codes_of (texts (contents_left c.next.new.self)) in
    let more = rw c.in-Text.is at (ap (λ (l : List (Reading × Listed)). sum_of (texts l)) c.in-Some.ensures.steps) in
    let codes = rw c.in-Text.is at (ap (λ (l : List (Reading × Listed)). codes_of (texts l)) c.in-Some.ensures.steps) in (
      omega (arith, l.invariant.0, c.lay_value-to.ensures.next),
      ap₂ (λ (codes : List ℕ) (n : ℕ). sets codes n rest) c.lay_value-to.ensures.laid
          (c.lay_value-to.ensures.next ∙ ap (λ (n : ℕ). l.to + n) (sym (codes-length c.in-Some.content.reading value)))
          ∙ sets-append l.codes l.to run rest
          ∙ ap (sets l.codes l.to) (sym codes)
          ∙ l.invariant.1,
    )

pub returns-clause-next : goal.returns-clause-next
returns-clause-next c =
    let none = ap (λ (l : List (Reading × Listed)). sum_of (texts l)) c.in-None.ensures.steps.0 in
    let all = ap sum_of (all-values c.args.column c.args.table.now c.requires.0) in
    omega (arith, c.loop-content.invariant.0)

pub returns-clause-laid : goal.returns-clause-laid
returns-clause-laid c =
    let l = c.loop-content in
    sym (ap (λ (left : List (Reading × Listed)). sets l.codes l.to (codes_of (texts left))) c.in-None.ensures.steps.0)
    ∙ l.invariant.1
    ∙ ap (λ (values : List (Reading × List ℕ)). sets c.args.codes.now c.args.from (codes_of values)) (all-values c.args.column c.args.table.now c.requires.0)
