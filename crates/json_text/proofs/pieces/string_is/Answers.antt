-- `eq` compares the bytes of the string with those of the name.
use Rattle.std.proofs.Common.{◌≡◌, refl, ap, ◌∙◌}
use Rattle.std.specs.Iterator.Adapters.{copied_source}
use Rattle.std.specs.Slice.Iter.{iter_rest}
use Rattle.std.proofs.lemmas.Iterator.{YieldsList-from_slice}
use Rattle.std.proofs.lemmas.Iterator.Consumers.{YieldsList-from_first, YieldsList-from_copied}
use Rattle.json_text.specs.Machinery.Pieces.{bytes_left}
use Rattle.json_text.proofs.Comparing.{eq-of-bytes}
use Rattle.json_text.proofs.pieces.string_is.Goals as goal

pub returns : goal.returns
returns c =
    eq-of-bytes (λ s it. it ≡ s) _ _ c.eq.ensures.ran
    (YieldsList-from_first (λ x. x) bytes_left _ c.string_at.ensures)
    (λ it same. YieldsList-from_copied (YieldsList-from_slice c.args.name.now (ap (λ s. iter_rest (copied_source s)) same ∙ ap iter_rest c.copied.ensures.source ∙ c.iter.ensures.rest)))
    (λ x y. refl)
