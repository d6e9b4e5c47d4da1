-- Conditions by their operators: neighbours of one operator make a group.
use Rattle.std.specs.Prelude.{ℕ, ◌≡◌, List, [], ◌∷◌, Bool, eqb}
use Rattle.stored.specs.Choice.{pick}
use Rattle.stored.specs.Tables.{Listed, Condition}
use Rattle.stored.specs.declared.items.Operator.{Operator}
use Rattle.stored.specs.declared.items.Operator.TheVariants as O
use Rattle.stored.specs.declared.items.Key.{Key}
use Rattle.stored.specs.declared.items.Key.TheVariants as K

-- an operator's place among the names of operators, and a key's among those of keys
abbrev pub operator_number : Operator → ℕ
operator_number O.StringEquals = 1
operator_number O.StringNotEquals = 2
operator_number O.StringLike = 3
operator_number O.StringNotLike = 4
operator_number O.IpAddress = 5
operator_number O.NotIpAddress = 6
operator_number O.StringEqualsIfExists = 7
operator_number O.StringNotEqualsIfExists = 8
operator_number O.StringLikeIfExists = 9
operator_number O.StringNotLikeIfExists = 10
operator_number O.IpAddressIfExists = 11
operator_number O.NotIpAddressIfExists = 12

abbrev pub key_number : Key → ℕ
key_number K.SourceVpc = 1
key_number K.Prefix = 2
key_number K.SourceVpce = 3
key_number K.Referer = 4
key_number K.SourceIp = 5

pub record Keyed : Type 0 where
  pub key : Key
  pub values : List Listed

-- the conditions of one operator
pub record Group : Type 0 where
  pub operator : Operator
  pub keys : List Keyed

-- the conditions of groups, one after the other
abbrev pub keyed_conditions : Operator → List Keyed → List Condition → List Condition
keyed_conditions o [] cs = cs
keyed_conditions o (k ∷ ks) cs = record { operator = o; key = k.key; values = k.values } ∷ keyed_conditions o ks cs

abbrev pub group_conditions : List Group → List Condition
group_conditions [] = []
group_conditions (g ∷ gs) = keyed_conditions g.operator g.keys (group_conditions gs)

abbrev pub is_of : Operator → Operator → Bool
is_of o p = eqb (operator_number o) (operator_number p)

-- a condition in front of groups: it stands in the first of them if that is of its operator
abbrev pub joined : Operator → Keyed → List Group → List Group
joined o k [] = record { operator = o; keys = k ∷ [] } ∷ []
joined o k (g ∷ gs) =
    pick (is_of o g.operator) (record { operator = o; keys = k ∷ g.keys } ∷ gs) (record { operator = o; keys = k ∷ [] } ∷ g ∷ gs)

abbrev pub groups_of : List Condition → List Group
groups_of [] = []
groups_of (c ∷ cs) = joined c.operator (record { key = c.key; values = c.values }) (groups_of cs)

-- each operator has one group, and in it each key stands once
abbrev pub NoKey : Key → List Keyed → Type 0
NoKey k [] = Unit {0}
NoKey k (x ∷ xs) = (x.key ≡ k → ⊥) × NoKey k xs

abbrev pub KeysOnce : List Keyed → Type 0
KeysOnce [] = Unit {0}
KeysOnce (x ∷ xs) = NoKey x.key xs × KeysOnce xs

abbrev pub NoOperator : Operator → List Group → Type 0
NoOperator o [] = Unit {0}
NoOperator o (g ∷ gs) = (g.operator ≡ o → ⊥) × NoOperator o gs

abbrev pub GroupsOnce : List Group → Type 0
GroupsOnce [] = Unit {0}
GroupsOnce (g ∷ gs) = NoOperator g.operator gs × KeysOnce g.keys × GroupsOnce gs
