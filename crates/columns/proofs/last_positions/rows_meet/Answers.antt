-- Some word of one row meets the word of the other that stands beside it.
use Rattle.std.proofs.Common.{ℕ, not, eqb, rules, ◌∙◌}
use Rattle.std.specs.Int.Bits.{bit_and}
use Rattle.std.proofs.lemmas.Iterator.{YieldsList-from_zip, YieldsList-from_slice}
use Rattle.std.proofs.lemmas.Iterator.Search.{any_from_yields_List}
use Rattle.columns.proofs.LastPositions.{meet-any}
use Rattle.columns.proofs.last_positions.rows_meet.Goals as goal

pub returns : goal.returns
returns c =
    any_from_yields_List (λ (p : ℕ × ℕ). not (eqb (bit_and p.0 p.1) 0)) c.any.new.self _ _ c.any.ensures.ran
    (YieldsList-from_zip {s = c.zip.result} (YieldsList-from_slice c.args.row (search rules)) (YieldsList-from_slice c.args.other (search rules)))
    (λ x b q k. search rules)
    ∙ meet-any c.args.row c.args.other
