-- Where neither table has a value in a needed column, all strings are alike there, and the first admitted one is `!`.
use Rattle.std.proofs.Common.{ℕ, ◌<◌, ◌≡◌, refl, sym, ap, ◌∙◌, true, List, [], ◌∷◌, ◌++◌, ◌⊎◌, inl, inr, arith, length}
use Rattle.stored.specs.Tables.{Statement}
use Rattle.stored.specs.Values.{in_range}
use Rattle.matching.specs.declared.reading.Reading.{Reading}
use Rattle.matching.specs.State.{state_of}
use Rattle.judging.specs.Requests.{Value, absent, text, number}
use Rattle.columns.specs.Values.{values_in, sum_of}
use Rattle.comparing.specs.Order.{Before, Smaller, In}
use Rattle.comparing.specs.Requests.{AdmitsNeeded}
use Rattle.comparing.specs.Gaps.{Alike, FirstOf}
use Rattle.comparing.specs.Machinery.Product.{Firsts}
use Rattle.comparing.proofs.survey.Admitting.{needed, is-needed}
use Rattle.comparing.proofs.Deciding.{state-decides}
use Rattle.comparing.proofs.Ranks.{ranged}

-- no position, no value
pub no-values : (vs : List (Reading × List ℕ)) → sum_of vs ≡ 0 → vs ≡ []
no-values [] e = refl
no-values (v ∷ vs) e = absurd (omega arith)

module _ (first second : List Statement) (column : ℕ) (none : values_in column (first ++ second) ≡ []) where
  pub texts-alike : (s t : List ℕ) → Alike first second column (text s) (text t)
  texts-alike s t = state-decides first second column s t (ap (λ (vs : List (Reading × List ℕ)). state_of vs s) none ∙ ap (λ (vs : List (Reading × List ℕ)). state_of vs t) (sym none))

  pub firsts-none : column < 3 → Firsts first second column (text (0x21 ∷ []) ∷ [])
  firsts-none low =
      record {
        all = λ v h. all v h;
        order = ((λ y h. absurd h), tt);
        complete = λ v ok. (text (0x21 ∷ []), inl refl, complete v (needed column low v ok));
      }
    where
      lowest : (s : List ℕ) → 0 < length s → in_range s ≡ true → (length s < 1) ⊎ ((length s ≡ 1) × Smaller s (0x21 ∷ [])) → ⊥
      lowest s some ok (inl h) = omega arith
      lowest [] some ok (inr h) = omega arith
      lowest (b ∷ s) some ok (inr (e, inl h)) = omega (arith, (ranged (b ∷ s) ok).0)
      lowest (b ∷ []) some ok (inr (e, inr h)) = h.1
      lowest (b ∷ d ∷ s) some ok (inr (e, inr h)) = omega arith

      least : (w : Value) → AdmitsNeeded w → Before w (text (0x21 ∷ [])) → ⊥
      least absent ok h = ok
      least (text s) ok h = lowest s ok.0 ok.1 h
      least (number n) ok h = ok

      all : (v : Value) → In v (text (0x21 ∷ []) ∷ []) → FirstOf first second column v
      all v (inl e) =
          rw e (record { ok = is-needed column low (text (0x21 ∷ [])) (omega arith, refl); least = λ w ok alike before. least w (needed column low w ok) before })
      all v (inr h) = absurd h

      complete : (v : Value) → AdmitsNeeded v → Alike first second column v (text (0x21 ∷ []))
      complete absent ok = absurd ok
      complete (text s) ok = texts-alike s (0x21 ∷ [])
      complete (number n) ok = absurd ok
