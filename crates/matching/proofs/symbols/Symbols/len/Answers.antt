-- A symbol for each byte.
use Rattle.std.proofs.Common.{sym}
use Rattle.std.proofs.Math.ListN.{length-map}
use Rattle.matching.specs.Machinery.SymbolsLeft.{symbols_left}
use Rattle.matching.proofs.symbols.Symbols.len.Goals as goal

pub returns : goal.returns
unfolding symbols_left
returns c = sym (length-map c.args.self.now.bytes.now _)
