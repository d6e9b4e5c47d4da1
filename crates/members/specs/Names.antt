-- The names that code gives to members, operators and keys, by their indices in the lists of names.
use Rattle.std.specs.Prelude.{ℕ, suc, ◌≡◌, false, eqb, Option, Some, None}
use mathlib.Core.Path.{refl}
use Rattle.members.specs.Members.{row_slot}
use Rattle.members.specs.declared.names.TopName.{TopName}
use Rattle.members.specs.declared.names.TopName.TheVariants as T
use Rattle.members.specs.declared.names.RowName.{RowName}
use Rattle.members.specs.declared.names.RowName.TheVariants as R
use Rattle.members.specs.declared.names.AwsName.{AwsName}
use Rattle.members.specs.declared.names.AwsName.TheVariants as A
use Rattle.members.specs.declared.names.OperatorName.{OperatorName}
use Rattle.members.specs.declared.names.OperatorName.TheVariants as O
use Rattle.members.specs.declared.names.KeyName.{KeyName}
use Rattle.members.specs.declared.names.KeyName.TheVariants as K

-- the kind of a name: its place from 1, 0 for none
abbrev pub kind_in : {A : Type 0} → (A → ℕ) → Option A → ℕ
kind_in index None = 0
kind_in index (Some name) = suc (index name)

abbrev pub index_of_top : TopName → ℕ
index_of_top T.Version = 0
index_of_top T.Statement = 1

abbrev pub index_of_row : RowName → ℕ
index_of_row R.Sid = 0
index_of_row R.Effect = 1
index_of_row R.Principal = 2
index_of_row R.NotPrincipal = 3
index_of_row R.Action = 4
index_of_row R.NotAction = 5
index_of_row R.Resource = 6
index_of_row R.NotResource = 7
index_of_row R.Condition = 8

abbrev pub index_of_aws : AwsName → ℕ
index_of_aws A.Aws = 0

abbrev pub index_of_operator : OperatorName → ℕ
index_of_operator O.StringEquals = 0
index_of_operator O.StringNotEquals = 1
index_of_operator O.StringLike = 2
index_of_operator O.StringNotLike = 3
index_of_operator O.IpAddress = 4
index_of_operator O.NotIpAddress = 5
index_of_operator O.StringEqualsIfExists = 6
index_of_operator O.StringNotEqualsIfExists = 7
index_of_operator O.StringLikeIfExists = 8
index_of_operator O.StringNotLikeIfExists = 9
index_of_operator O.IpAddressIfExists = 10
index_of_operator O.NotIpAddressIfExists = 11

abbrev pub index_of_key : KeyName → ℕ
index_of_key K.SourceVpc = 0
index_of_key K.Prefix = 1
index_of_key K.SourceVpce = 2
index_of_key K.Referer = 3
index_of_key K.SourceIp = 4

-- no member of a statement counts as what is none
pub row_apart : (name : RowName) → eqb (row_slot 0) (row_slot (suc (index_of_row name))) ≡ false
row_apart R.Sid = refl
row_apart R.Effect = refl
row_apart R.Principal = refl
row_apart R.NotPrincipal = refl
row_apart R.Action = refl
row_apart R.NotAction = refl
row_apart R.Resource = refl
row_apart R.NotResource = refl
row_apart R.Condition = refl
