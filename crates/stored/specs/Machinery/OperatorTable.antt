-- Where the rows of the constant operator table stand.
use Rattle.std.specs.Prelude.{ℕ}
use Rattle.stored.specs.declared.items.Operator.{Operator}
use Rattle.stored.specs.declared.items.Operator.TheVariants as O

-- where its row stands in the table: the six operators by their codes, then their IfExists forms
abbrev pub row_place : Operator → ℕ
row_place O.StringEquals = 0
row_place O.StringNotEquals = 1
row_place O.StringLike = 2
row_place O.StringNotLike = 3
row_place O.IpAddress = 4
row_place O.NotIpAddress = 5
row_place O.StringEqualsIfExists = 6
row_place O.StringNotEqualsIfExists = 7
row_place O.StringLikeIfExists = 8
row_place O.StringNotLikeIfExists = 9
row_place O.IpAddressIfExists = 10
row_place O.NotIpAddressIfExists = 11
