-- The loop's invariant: with the codes left laid down behind those that are, the memory is as it is with all codes laid down from the
-- beginning.
use Rattle.std.proofs.Common.{◌≡◌, ◌+◌, length}
use Rattle.std.proofs.lemmas.List.Edits.{sets}
use Rattle.matching.specs.Machinery.Codes.{symbol_codes}
use Rattle.matching.specs.Machinery.SymbolsLeft.{symbols_left}
use Rattle.columns.proofs.contents.lay_value.Given as goal

abbrev pub invariant-loop-code : goal.invariant-loop-code
invariant-loop-code l =
    (l.to + length (symbols_left l.code-iterator) ≡ l.initial.to + length (symbol_codes l.fn.reading l.fn.value))
    × (sets l.codes l.to (symbols_left l.code-iterator) ≡ sets l.initial.codes l.initial.to (symbol_codes l.fn.reading l.fn.value))
