-- What the reader of texts finds is what is said of them.
use Rattle.std.proofs.Common.{Option, Some, None, ℕ, ◌≡◌, refl, sym, ◌∙◌, true, false, List, [], ◌++◌, take, arith}
use Rattle.json_text.specs.Machinery.Reading.{fault_of}
use Rattle.json_text.specs.Grammar.{Text}
use Rattle.json_text.specs.Answers.{Says}
use Rattle.json_text.specs.declared.machine.Phase.TheVariants as P
use Rattle.json_text.proofs.Choosing.{never}
use Rattle.json_text.proofs.Complete.{complete}
use Rattle.json_text.proofs.Sound.{sound}
use Rattle.json_text.proofs.Faults.{Outcome, outcome}

-- "The place of 20 is the length of the longest beginning of the text that some text free of 20 has too: the first byte that no such text
-- could have there, or the text's length where it only ends too early." `fault_of` is what the reader answers.
pub json-first-fault : (t : List ℕ) → Says t (fault_of t)
unfolding fault_of
json-first-fault t = go (fault_of t) (outcome t 0 P.Value [] tt)
  where
    go : (f : Option ℕ) → Outcome t 0 P.Value 1 f → Says t f
    go None h = sound t h
    go (Some p) h =
        let x = h.2 in
        let same : p ≡ h.0 = omega (arith, h.1) in
        rw same (record {
          inside = x.inside;
          begins = (x.begins.0, sound (take h.0 t ++ x.begins.0) x.begins.1);
          longest = λ m l k b. x.longest m l k b.0 (complete b.1);
          no_text = λ y. let z : false ≡ true = sym x.refused ∙ complete y in never (cc);
        })

-- "JSON is RFC 8259": a text has no fault.
pub json-sound : (t : List ℕ) → Text t → fault_of t ≡ None
json-sound t x = go (fault_of t) (json-first-fault t)
  where
    go : (f : Option ℕ) → Says t f → f ≡ None
    go None h = refl
    go (Some p) h = absurd (h.no_text x)
