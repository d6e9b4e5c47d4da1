-- The names that are printed are those that are read.
use Rattle.std.proofs.Common.{◌≡◌, refl, true, false, eqb}
use Rattle.members.specs.Members.{top_names, row_names, operator_names, key_names, version_text, operator_kind, key_kind}
use Rattle.records.specs.Documents.{operator_at, key_at, allow_text, deny_text}
use Rattle.stored.specs.Values.{in_range}
use Rattle.stored.specs.declared.items.Effect.{Effect}
use Rattle.stored.specs.declared.items.Effect.TheVariants as E
use Rattle.stored.specs.declared.items.Column.{Column}
use Rattle.stored.specs.declared.items.Column.TheVariants as C
use Rattle.stored.specs.declared.items.Operator.{Operator}
use Rattle.stored.specs.declared.items.Operator.TheVariants as O
use Rattle.stored.specs.declared.items.Key.{Key}
use Rattle.stored.specs.declared.items.Key.TheVariants as K
use Rattle.printed.specs.Machinery.Groups.{operator_number, key_number}
use Rattle.printed.specs.Machinery.Plans.{version_name, statement_name, effect_name, condition_name, aws_name, column_name, operator_name, key_name, effect_text}

-- operators and keys by their numbers
pub operator-back : (o : Operator) → operator_at (operator_number o) ≡ o
operator-back O.StringEquals = refl
operator-back O.StringNotEquals = refl
operator-back O.StringLike = refl
operator-back O.StringNotLike = refl
operator-back O.IpAddress = refl
operator-back O.NotIpAddress = refl
operator-back O.StringEqualsIfExists = refl
operator-back O.StringNotEqualsIfExists = refl
operator-back O.StringLikeIfExists = refl
operator-back O.StringNotLikeIfExists = refl
operator-back O.IpAddressIfExists = refl
operator-back O.NotIpAddressIfExists = refl

pub key_back : (k : Key) → key_at (key_number k) ≡ k
key_back K.SourceVpc = refl
key_back K.Prefix = refl
key_back K.SourceVpce = refl
key_back K.Referer = refl
key_back K.SourceIp = refl

pub operator-some : (o : Operator) → eqb (operator_number o) 0 ≡ false
operator-some O.StringEquals = refl
operator-some O.StringNotEquals = refl
operator-some O.StringLike = refl
operator-some O.StringNotLike = refl
operator-some O.IpAddress = refl
operator-some O.NotIpAddress = refl
operator-some O.StringEqualsIfExists = refl
operator-some O.StringNotEqualsIfExists = refl
operator-some O.StringLikeIfExists = refl
operator-some O.StringNotLikeIfExists = refl
operator-some O.IpAddressIfExists = refl
operator-some O.NotIpAddressIfExists = refl

pub key-some : (k : Key) → eqb (key_number k) 0 ≡ false
key-some K.SourceVpc = refl
key-some K.Prefix = refl
key-some K.SourceVpce = refl
key-some K.Referer = refl
key-some K.SourceIp = refl

pub operator-kind : (o : Operator) → operator_kind (operator_name o) ≡ operator_number o
unfolding operator_kind operator_names operator_name
operator-kind O.StringEquals = refl
operator-kind O.StringNotEquals = refl
operator-kind O.StringLike = refl
operator-kind O.StringNotLike = refl
operator-kind O.IpAddress = refl
operator-kind O.NotIpAddress = refl
operator-kind O.StringEqualsIfExists = refl
operator-kind O.StringNotEqualsIfExists = refl
operator-kind O.StringLikeIfExists = refl
operator-kind O.StringNotLikeIfExists = refl
operator-kind O.IpAddressIfExists = refl
operator-kind O.NotIpAddressIfExists = refl

pub key-kind : (k : Key) → key_kind (key_name k) ≡ key_number k
unfolding key_kind key_names key_name
key-kind K.SourceVpc = refl
key-kind K.Prefix = refl
key-kind K.SourceVpce = refl
key-kind K.Referer = refl
key-kind K.SourceIp = refl

-- their bytes lie in 21 to 7E hex
pub operator-shown : (o : Operator) → in_range (operator_name o) ≡ true
unfolding operator_names operator_name
operator-shown O.StringEquals = refl
operator-shown O.StringNotEquals = refl
operator-shown O.StringLike = refl
operator-shown O.StringNotLike = refl
operator-shown O.IpAddress = refl
operator-shown O.NotIpAddress = refl
operator-shown O.StringEqualsIfExists = refl
operator-shown O.StringNotEqualsIfExists = refl
operator-shown O.StringLikeIfExists = refl
operator-shown O.StringNotLikeIfExists = refl
operator-shown O.IpAddressIfExists = refl
operator-shown O.NotIpAddressIfExists = refl

pub key-shown : (k : Key) → in_range (key_name k) ≡ true
unfolding key_names key_name
key-shown K.SourceVpc = refl
key-shown K.Prefix = refl
key-shown K.SourceVpce = refl
key-shown K.Referer = refl
key-shown K.SourceIp = refl

pub column-shown : (c : Column) → in_range (column_name c) ≡ true
unfolding row_names column_name
column-shown C.Principal = refl
column-shown C.NotPrincipal = refl
column-shown C.Action = refl
column-shown C.NotAction = refl
column-shown C.Resource = refl
column-shown C.NotResource = refl

pub effect-shown : (e : Effect) → in_range (effect_text e) ≡ true
unfolding allow_text deny_text
effect-shown E.Allow = refl
effect-shown E.Deny = refl

pub effect-name-shown : in_range effect_name ≡ true
unfolding effect_name row_names
effect-name-shown = refl

pub condition-name-shown : in_range condition_name ≡ true
unfolding condition_name row_names
condition-name-shown = refl

pub aws-shown : in_range aws_name ≡ true
unfolding aws_name
aws-shown = refl

pub version-name-shown : in_range version_name ≡ true
unfolding version_name top_names
version-name-shown = refl

pub statement-name-shown : in_range statement_name ≡ true
unfolding statement_name top_names
statement-name-shown = refl

pub version-shown : in_range version_text ≡ true
unfolding version_text
version-shown = refl
