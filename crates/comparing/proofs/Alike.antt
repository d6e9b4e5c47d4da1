-- Requests that are alike in every column are allowed by the same tables: a statement applies exactly when it holds in all eight
-- columns, and whether it holds is what a footprint says.
use Rattle.std.proofs.Common.{ℕ, suc, ◌+◌, ◌≡◌, refl, sym, ◌∙◌, ap, ap₂, Bool, true, false, not, ◌&&◌, List, [], ◌∷◌, ◌++◌, arith, length}
use Rattle.stored.specs.Choice.{pick}
use Rattle.stored.specs.Tables.{Statement}
use Rattle.judging.specs.Requests.{Value, columns}
use Rattle.judging.specs.Meaning.{holds, applies, is_allow, is_allowed, some_allows, some_denies}
use Rattle.judging.specs.Judging.{verdict, Judgement as J}
use Rattle.judging.proofs.ByColumn.{by-column}
use Rattle.comparing.specs.Order.{In}
use Rattle.comparing.specs.Requests.{Each}
use Rattle.comparing.specs.Gaps.{footprint, AlikeFrom}
use Rattle.comparing.proofs.Eight.{of-eight}
use Rattle.comparing.proofs.Members.{in_left, in_right, some_same, agree-in}

-- a statement holds in each column from a column on
abbrev pub holds_from : ℕ → List Value → Statement → Bool
holds_from column [] s = true
holds_from column (v ∷ r) s = holds column v s && holds_from (suc column) r s

regroup : (a b c d e f g h : Bool) → (a && b && c && d && e && f && g && h) ≡ (a && (b && (c && (d && (e && (f && (g && (h && true))))))))
regroup false b c d e f g h = refl
regroup true false c d e f g h = refl
regroup true true false d e f g h = refl
regroup true true true false e f g h = refl
regroup true true true true false f g h = refl
regroup true true true true true false g h = refl
regroup true true true true true true false h = refl
regroup true true true true true true true true = refl
regroup true true true true true true true false = refl

-- a statement applies to a request of eight columns exactly when it holds in each
pub applies-from : (r : List Value) → length r ≡ columns → (s : Statement) → applies r s ≡ holds_from 0 r s
applies-from =
    of-eight (λ r. (s : Statement) → applies r s ≡ holds_from 0 r s)
    (λ a b c d e f g h s.
    by-column (a ∷ b ∷ c ∷ d ∷ e ∷ f ∷ g ∷ h ∷ []) s
    ∙ regroup (holds 0 a s) (holds 1 b s) (holds 2 c s) (holds 3 d s) (holds 4 e s) (holds 5 f s) (holds 6 g s) (holds 7 h s))

-- what says something of each column has a value for each
pub each-length : (P : ℕ → Value → Type 0) (column : ℕ) (r : List Value) → Each P column r → column + length r ≡ columns
each-length P column [] e = omega (arith, e)
each-length P column (v ∷ r) e = omega (arith, each-length P (suc column) r e.1)

-- requests to which the same statements apply are given one verdict, and are allowed alike
module _ (r s : List Value) (rows : List Statement) (e : (x : Statement) → In x rows → applies r x ≡ applies s x) where
  allows-same : some_allows r rows ≡ some_allows s rows
  allows-same =
      some_same (λ x. is_allow x.effect && applies r x) (λ x. is_allow x.effect && applies s x) rows
      (λ x i. ap (λ (t : Bool). is_allow x.effect && t) (e x i))

  denies-same : some_denies r rows ≡ some_denies s rows
  denies-same =
      some_same (λ x. not (is_allow x.effect) && applies r x) (λ x. not (is_allow x.effect) && applies s x) rows
      (λ x i. ap (λ (t : Bool). not (is_allow x.effect) && t) (e x i))

  pub allowed_same : is_allowed r rows ≡ is_allowed s rows
  allowed_same = ap₂ (λ (t u : Bool). t && not u) allows-same denies-same

  pub verdict-same : verdict r rows ≡ verdict s rows
  verdict-same = ap₂ (λ (t u : Bool). pick u J.DeniedByRule (pick t J.Allowed J.NotMentioned)) allows-same denies-same

module _ (first second : List Statement) where
  -- requests that are alike: every statement says the same of both
  pub alike-holds : (column : ℕ) (r s : List Value) → AlikeFrom first second column r s
      → (x : Statement) → In x (first ++ second) → holds_from column r x ≡ holds_from column s x
  unfolding footprint
  alike-holds column [] [] e x i = refl
  alike-holds column [] (w ∷ s) e x i = absurd e
  alike-holds column (v ∷ r) [] e x i = absurd e
  alike-holds column (v ∷ r) (w ∷ s) e x i =
      ap₂ ◌&&◌ (agree-in (holds column v) (holds column w) (first ++ second) e.0 x i) (alike-holds (suc column) r s e.1 x i)

  module _ (r s : List Value) (lr : length r ≡ columns) (ls : length s ≡ columns) (alike : AlikeFrom first second 0 r s) where
    alike-applies : (x : Statement) → In x (first ++ second) → applies r x ≡ applies s x
    alike-applies x i = applies-from r lr x ∙ alike-holds 0 r s alike x i ∙ sym (applies-from s ls x)

    -- the first table allows both or neither, and gives both one verdict; and so does the second
    pub alike-first : is_allowed r first ≡ is_allowed s first
    alike-first = allowed_same r s first (λ x i. alike-applies x (in_left x first second i))

    pub alike-second : is_allowed r second ≡ is_allowed s second
    alike-second = allowed_same r s second (λ x i. alike-applies x (in_right x first second i))

    pub verdict-first : verdict r first ≡ verdict s first
    verdict-first = verdict-same r s first (λ x i. alike-applies x (in_left x first second i))

    pub verdict-second : verdict r second ≡ verdict s second
    verdict-second = verdict-same r s second (λ x i. alike-applies x (in_right x first second i))
