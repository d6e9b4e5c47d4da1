-- The operators by their codes: 1 StringEquals, 2 StringNotEquals, 3 StringLike, 4 StringNotLike, 5 IpAddress, 6 NotIpAddress; the same
-- plus hex 10 is the IfExists form (RULES 2.4).
use Rattle.std.specs.Prelude.{ℕ, ◌%◌, Bool, eqb, leb, Option, Some, None}
use Rattle.stored.specs.Choice.{pick}
use Rattle.stored.specs.declared.items.Operator.{Operator}
use Rattle.stored.specs.declared.items.Operator.TheVariants as O
use Rattle.stored.specs.declared.items.Sort.{Sort}
use Rattle.stored.specs.declared.items.Sort.TheVariants as S
use Rattle.stored.specs.declared.operators.OperatorRow.{OperatorRow}

-- the code of an operator
abbrev pub code_of : Operator → ℕ
code_of O.StringEquals = 0x01
code_of O.StringNotEquals = 0x02
code_of O.StringLike = 0x03
code_of O.StringNotLike = 0x04
code_of O.IpAddress = 0x05
code_of O.NotIpAddress = 0x06
code_of O.StringEqualsIfExists = 0x11
code_of O.StringNotEqualsIfExists = 0x12
code_of O.StringLikeIfExists = 0x13
code_of O.StringNotLikeIfExists = 0x14
code_of O.IpAddressIfExists = 0x15
code_of O.NotIpAddressIfExists = 0x16

-- 1 to 4 go with strings, 5 and 6 with the address
abbrev pub sort_of_code : ℕ → Sort
sort_of_code n = pick (leb 5 (n % 16)) S.Address S.Text

-- the even ones are negated
abbrev pub negated_code : ℕ → Bool
negated_code n = eqb (n % 2) 0

-- in StringEquals and StringNotEquals `*` and `?` are plain bytes
abbrev pub literal_code : ℕ → Bool
literal_code n = leb (n % 16) 2

-- without IfExists every operator needs the key present; with IfExists it holds when the key is absent
abbrev pub absent_code : ℕ → Bool
absent_code n = leb 0x10 n

-- what an operator is, by its code
abbrev pub row_of : Operator → OperatorRow
row_of o =
    record {
      code = code_of o;
      operator = o;
      sort = sort_of_code (code_of o);
      negated = negated_code (code_of o);
      literal = literal_code (code_of o);
      absent = absent_code (code_of o);
    }

-- the operator with a code, where one has it
abbrev pub operator_of : ℕ → Option Operator
operator_of n =
    pick (eqb n 0x01) (Some O.StringEquals)
    (pick (eqb n 0x02) (Some O.StringNotEquals)
    (pick (eqb n 0x03) (Some O.StringLike)
    (pick (eqb n 0x04) (Some O.StringNotLike)
    (pick (eqb n 0x05) (Some O.IpAddress)
    (pick (eqb n 0x06) (Some O.NotIpAddress)
    (pick (eqb n 0x11) (Some O.StringEqualsIfExists)
    (pick (eqb n 0x12) (Some O.StringNotEqualsIfExists)
    (pick (eqb n 0x13) (Some O.StringLikeIfExists)
    (pick (eqb n 0x14) (Some O.StringNotLikeIfExists)
    (pick (eqb n 0x15) (Some O.IpAddressIfExists)
    (pick (eqb n 0x16) (Some O.NotIpAddressIfExists) None)))))))))))
