-- Which conditions a JSON text can say: those of one operator stand together, and no operator has a key twice.
use Rattle.std.specs.Prelude.{◌≡◌, List, [], ◌∷◌, ◌⊎◌}
use Rattle.stored.specs.Choice.{In}
use Rattle.stored.specs.Tables.{Condition, Statement}
use Rattle.stored.specs.declared.items.Operator.{Operator}

-- no condition has the operator
abbrev pub Without : Operator → List Condition → Type 0
Without o cs = (x : Condition) → In x cs → x.operator ≡ o → ⊥

-- behind each condition stands one of its operator, or none of them stands later
abbrev pub Together : List Condition → Type 0
Together [] = Unit {0}
Together (c ∷ []) = Unit {0}
Together (c ∷ d ∷ cs) = ((d.operator ≡ c.operator) ⊎ Without c.operator (d ∷ cs)) × Together (d ∷ cs)

-- no two conditions have the same operator and the same key
abbrev pub NoneTwice : List Condition → Type 0
NoneTwice [] = Unit {0}
NoneTwice (c ∷ cs) = ((x : Condition) → In x cs → x.operator ≡ c.operator → x.key ≡ c.key → ⊥) × NoneTwice cs

-- a statement whose conditions stand so
pub record Grouped (s : Statement) : Type 0 where
  pub together : Together s.conditions
  pub none_twice : NoneTwice s.conditions
