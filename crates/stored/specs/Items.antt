-- The codes of effects, columns and keys (RULES 2).
use Rattle.std.specs.Prelude.{ℕ, Bool, true, false, eqb, Option, Some, None}
use Rattle.stored.specs.Choice.{pick}
use Rattle.stored.specs.declared.items.Effect.{Effect}
use Rattle.stored.specs.declared.items.Effect.TheVariants as E
use Rattle.stored.specs.declared.items.Column.{Column}
use Rattle.stored.specs.declared.items.Column.TheVariants as C
use Rattle.stored.specs.declared.items.Key.{Key}
use Rattle.stored.specs.declared.items.Key.TheVariants as K
use Rattle.stored.specs.declared.items.Sort.{Sort}
use Rattle.stored.specs.declared.items.Sort.TheVariants as S

-- 0 deny, 1 allow
abbrev pub effect_code : Effect → ℕ
effect_code E.Deny = 0
effect_code E.Allow = 1

-- 00, 01, 02 principal, action, resource; 10, 11, 12 the Not-forms
abbrev pub column_code : Column → ℕ
column_code C.Principal = 0x00
column_code C.Action = 0x01
column_code C.Resource = 0x02
column_code C.NotPrincipal = 0x10
column_code C.NotAction = 0x11
column_code C.NotResource = 0x12

-- where an element stands in a statement, and which column of a request it speaks of; a Not-form is the same column
abbrev pub column_place : Column → ℕ
column_place C.Principal = 0
column_place C.Action = 1
column_place C.Resource = 2
column_place C.NotPrincipal = 0
column_place C.NotAction = 1
column_place C.NotResource = 2

-- a Not-form
abbrev pub column_negated : Column → Bool
column_negated C.Principal = false
column_negated C.Action = false
column_negated C.Resource = false
column_negated C.NotPrincipal = true
column_negated C.NotAction = true
column_negated C.NotResource = true

-- the string keys 0 to 3, then the address
abbrev pub key_code : Key → ℕ
key_code K.SourceVpc = 0
key_code K.Prefix = 1
key_code K.SourceVpce = 2
key_code K.Referer = 3
key_code K.SourceIp = 4

-- the key with a code, where one has it
abbrev pub key_of : ℕ → Option Key
key_of n =
    pick (eqb n 0) (Some K.SourceVpc)
    (pick (eqb n 1) (Some K.Prefix)
    (pick (eqb n 2) (Some K.SourceVpce)
    (pick (eqb n 3) (Some K.Referer)
    (pick (eqb n 4) (Some K.SourceIp) None))))

-- keys 0 to 3 hold strings, key 4 an address
abbrev pub key_sort : Key → Sort
key_sort K.SourceVpc = S.Text
key_sort K.Prefix = S.Text
key_sort K.SourceVpce = S.Text
key_sort K.Referer = S.Text
key_sort K.SourceIp = S.Address
