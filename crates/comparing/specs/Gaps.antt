-- Kinds of request, and the gaps: the kinds that the first table allows and the second does not (RULES 6).
use Rattle.std.specs.Prelude.{ℕ, suc, ◌<◌, ◌≡◌, Bool, true, false, List, [], ◌∷◌, ◌++◌, map, length, get_or}
use Rattle.stored.specs.Tables.{Statement}
use Rattle.judging.specs.Requests.{Value}
use Rattle.judging.specs.Meaning.{holds, is_allowed}
use Rattle.comparing.specs.Order.{Before, Earlier, In, Ascending}
use Rattle.comparing.specs.Requests.{Admitted, Each, IsRequest}

-- the footprint of a value in a column: of each statement of the first table, then of the second, whether it holds there
unfoldable pub footprint : List Statement → List Statement → ℕ → Value → List Bool
footprint first second column v = map (holds column v) (first ++ second)

-- every statement of both tables says the same of both values
abbrev pub Alike : List Statement → List Statement → ℕ → Value → Value → Type 0
Alike first second column v w = footprint first second column v ≡ footprint first second column w

-- column by column
abbrev pub AlikeFrom : List Statement → List Statement → ℕ → List Value → List Value → Type 0
AlikeFrom first second column [] [] = Unit {0}
AlikeFrom first second column [] (w ∷ s) = ⊥
AlikeFrom first second column (v ∷ r) [] = ⊥
AlikeFrom first second column (v ∷ r) (w ∷ s) = Alike first second column v w × AlikeFrom first second (suc column) r s

-- v is the first admitted value that shows its footprint
pub record FirstOf (first second : List Statement) (column : ℕ) (v : Value) : Type 0 where
  pub ok : Admitted column v
  pub least : (w : Value) → Admitted column w → Alike first second column w v → Before w v → ⊥

-- the first table allows the request, and the second does not
pub record Gap (first second : List Statement) (request : List Value) : Type 0 where
  pub allowed : is_allowed request first ≡ true
  pub missed : is_allowed request second ≡ false

-- the list of gaps: each shown by the first value of every column; in order; every request that the first table allows and the
-- second does not is alike to one in the list
pub record Gaps (first second : List Statement) (list : List (List Value)) : Type 0 where
  pub firsts : (r : List Value) → In r list → Each (FirstOf first second) 0 r
  pub gap : (r : List Value) → In r list → Gap first second r
  pub order : Ascending Earlier list
  pub complete :
      (r : List Value) → IsRequest r → Gap first second r
      → (s : List Value) × In s list × AlikeFrom first second 0 r s

-- the number of gaps
pub record Counted (first second : List Statement) (n : ℕ) : Type 0 where
  pub list : List (List Value)
  pub gaps : Gaps first second list
  pub size : n ≡ length list

-- gap k, counted from 0
pub record IsGap (first second : List Statement) (k : ℕ) (request : List Value) : Type 0 where
  pub list : List (List Value)
  pub gaps : Gaps first second list
  pub low : k < length list
  pub here : request ≡ get_or list k []
