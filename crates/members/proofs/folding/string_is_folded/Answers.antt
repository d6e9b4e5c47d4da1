-- `eq` compares the bytes of the string, in small letters, with those of the name.
use Rattle.std.proofs.Common.{◌≡◌, refl, ap, ◌∙◌, rules}
use Rattle.std.specs.Iterator.Adapters.{copied_source}
use Rattle.std.specs.Slice.Iter.{iter_rest}
use Rattle.std.proofs.lemmas.Iterator.{YieldsList-from_slice, YieldsList-from_map}
use Rattle.std.proofs.lemmas.Iterator.Consumers.{YieldsList-from_first, YieldsList-from_copied}
use Rattle.json_text.specs.Machinery.Pieces.{bytes_left}
use Rattle.json_text.proofs.Comparing.{eq-of-bytes}
use Rattle.members.specs.Members.{small}
use Rattle.members.proofs.folding.string_is_folded.Goals as goal

pub returns : goal.returns
returns c =
    eq-of-bytes (λ s it. it ≡ s) _ _ c.eq.ensures.ran
    (YieldsList-from_map _ small (YieldsList-from_first (λ x. x) bytes_left _ (ap bytes_left c.map.ensures.source ∙ c.string_at.ensures)) refl (λ x r q k. search rules))
    (λ it same. YieldsList-from_copied (YieldsList-from_slice c.args.name.now (ap (λ s. iter_rest (copied_source s)) same ∙ ap iter_rest c.copied.ensures.source ∙ c.iter.ensures.rest)))
    (λ x y. refl)
