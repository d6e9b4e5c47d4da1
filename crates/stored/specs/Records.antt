-- A record: one byte of kind, then a body whose length the kind fixes (RULES 2).
use Rattle.std.specs.Prelude.{ℕ, ◌+◌, ◌-◌, ◌*◌, ◌&&◌, List, eqb, leb, ltb, length, get_or, take, drop, Option, Some, None, Result, Ok, Err}
use Rattle.stored.specs.Choice.{pick}
use Rattle.stored.specs.Items.{key_of}
use Rattle.stored.specs.Operators.{operator_of}
use Rattle.stored.specs.declared.items.Effect.TheVariants as E
use Rattle.stored.specs.declared.items.Column.TheVariants as C
use Rattle.stored.specs.declared.items.Item.{Item}
use Rattle.stored.specs.declared.items.Item.TheVariants as I
use Rattle.stored.specs.declared.items.Key.{Key}
use Rattle.stored.specs.declared.items.Operator.{Operator}
use Rattle.stored.specs.declared.records.Kind.{Kind}
use Rattle.stored.specs.declared.records.Kind.TheVariants as K
use Rattle.stored.specs.declared.records.Record as Code
use Rattle.stored.specs.declared.records.RecordFault.{RecordFault}
use Rattle.stored.specs.declared.records.RecordFault.TheVariants as F
use Rattle.refusals.specs.declared.Reason.{Reason}
use Rattle.refusals.specs.declared.Reason.TheVariants as Q

-- the record at a place: its item, where its body starts and how long that is (the next record is behind it); or the bytes end inside it or
-- before it; or its kind or one of its codes is unknown
pub data Record : Type 0 where
  Is : Item → ℕ → ℕ → Record
  Cut : Record
  Strange : Record

-- what the code answers for a record, as one
abbrev pub as_record : Result Code.Record RecordFault → Record
as_record (Ok r) = Is r.item r.start r.size
as_record (Err F.Cut) = Cut
as_record (Err F.Strange) = Strange

-- why no record that is cut or strange is taken: 2, 3
abbrev pub reason_of : RecordFault → Reason
reason_of F.Cut = Q.Cut
reason_of F.Strange = Q.Unknown

-- 01 to 06 are single kinds; 40 to BF is a value of 1 to 128 bytes; every other byte is unknown
abbrev pub kind_of : ℕ → Kind
kind_of b =
    pick (eqb b 0x01) K.Start
    (pick (eqb b 0x02) K.Statement
    (pick (eqb b 0x03) K.Column
    (pick (eqb b 0x04) K.Condition
    (pick (eqb b 0x05) K.End
    (pick (eqb b 0x06) K.Network
    (pick (leb 0x40 b && leb b 0xBF) (K.Value (b - 0x3F)) K.Unknown))))))

-- the size of the body
abbrev pub size_of : Kind → ℕ
size_of K.Start = 1
size_of K.Statement = 1
size_of K.Column = 1
size_of K.Condition = 2
size_of K.End = 0
size_of K.Network = 5
size_of (K.Value n) = n
size_of K.Unknown = 0

-- 0 deny, 1 allow
abbrev pub statement_of : ℕ → Option Item
statement_of n = pick (eqb n 0) (Some (I.Statement E.Deny)) (pick (eqb n 1) (Some (I.Statement E.Allow)) None)

-- 00, 01, 02 principal, action, resource; 10, 11, 12 the Not-forms
abbrev pub column_of : ℕ → Option Item
column_of n =
    pick (eqb n 0x00) (Some (I.Column C.Principal))
    (pick (eqb n 0x01) (Some (I.Column C.Action))
    (pick (eqb n 0x02) (Some (I.Column C.Resource))
    (pick (eqb n 0x10) (Some (I.Column C.NotPrincipal))
    (pick (eqb n 0x11) (Some (I.Column C.NotAction))
    (pick (eqb n 0x12) (Some (I.Column C.NotResource)) None)))))

-- both codes are known
abbrev pub condition_of_found : Option Operator → Option Key → Option Item
condition_of_found (Some o) (Some k) = Some (I.Condition o k)
condition_of_found (Some o) None = None
condition_of_found None k = None

abbrev pub condition_of : ℕ → ℕ → Option Item
condition_of o k = condition_of_found (operator_of o) (key_of k)

-- four address bytes, high first
abbrev pub address_of : ℕ → ℕ → ℕ → ℕ → ℕ
address_of a b c d = a * 0x1000000 + b * 0x10000 + c * 0x100 + d

abbrev pub network_of : ℕ → ℕ → ℕ → ℕ → ℕ → Item
network_of a b c d n = I.Network (address_of a b c d) n

-- what a body says
abbrev pub decode_of : Kind → List ℕ → Option Item
decode_of K.Start body = Some (I.Start (get_or body 0 0))
decode_of K.Statement body = statement_of (get_or body 0 0)
decode_of K.Column body = column_of (get_or body 0 0)
decode_of K.Condition body = condition_of (get_or body 0 0) (get_or body 1 0)
decode_of K.End body = Some I.End
decode_of K.Network body = Some (network_of (get_or body 0 0) (get_or body 1 0) (get_or body 2 0) (get_or body 3 0) (get_or body 4 0))
decode_of (K.Value n) body = Some I.Value
decode_of K.Unknown body = None

abbrev pub known : ℕ → ℕ → Option Item → Record
known start size (Some i) = Is i start size
known start size None = Strange

-- the record whose kind is known and whose body starts at a place
abbrev pub record_behind : List ℕ → ℕ → Kind → Record
record_behind t start k =
    pick (ltb (length t - start) (size_of k)) Cut
    (known start (size_of k) (decode_of k (take (size_of k) (drop start t))))

-- the record at a place of any byte string
unfoldable pub record_at : List ℕ → ℕ → Record
record_at t at = pick (ltb at (length t)) (record_behind t (at + 1) (kind_of (get_or t at 0))) Cut
