-- A table as the list of its records: entries, how they are written down, the walk that finds them in a byte string, and how a writer
-- takes them one after the other.
use Rattle.std.specs.Prelude.{ℕ, zero, suc, ◌+◌, ◌-◌, ◌^◌, ◌≤◌, ◌<◌, ◌≡◌, List, [], ◌∷◌, ◌++◌, length, take, drop}
use Rattle.std.proofs.lemmas.List.Edits.{sets}
use Rattle.stored.specs.Records.{Record as R, Record, record_at}
use Rattle.stored.specs.Writing.{WriteAnswer as W, record_of, writing}
use Rattle.stored.specs.declared.items.Effect.{Effect}
use Rattle.stored.specs.declared.items.Column.{Column}
use Rattle.stored.specs.declared.items.Operator.{Operator}
use Rattle.stored.specs.declared.items.Key.{Key}
use Rattle.stored.specs.declared.items.Item.{Item}
use Rattle.stored.specs.declared.items.Item.TheVariants as I
use Rattle.stored.specs.declared.writer.Writer.{Writer}

-- a record as data
pub data Entry : Type 0 where
  start : ℕ → Entry
  statement : Effect → Entry
  column : Column → Entry
  condition : Operator → Key → Entry
  network : ℕ → ℕ → Entry
  value : List ℕ → Entry
  end : Entry

-- an item with the bytes beside it, as an entry, and back
abbrev pub entry_of : Item → List ℕ → Entry
entry_of (I.Start n) bs = start n
entry_of (I.Statement e) bs = statement e
entry_of (I.Column c) bs = column c
entry_of (I.Condition o k) bs = condition o k
entry_of (I.Network a n) bs = network a n
entry_of I.Value bs = value bs
entry_of I.End bs = end

abbrev pub item_of : Entry → Item
item_of (start n) = I.Start n
item_of (statement e) = I.Statement e
item_of (column c) = I.Column c
item_of (condition o k) = I.Condition o k
item_of (network a n) = I.Network a n
item_of (value bs) = I.Value
item_of end = I.End

abbrev pub bytes_of : Entry → List ℕ
bytes_of (start n) = []
bytes_of (statement e) = []
bytes_of (column c) = []
bytes_of (condition o k) = []
bytes_of (network a n) = []
bytes_of (value bs) = bs
bytes_of end = []

-- the bytes of entries, one record behind the other
abbrev pub encode : List Entry → List ℕ
encode [] = []
encode (e ∷ es) = record_of (item_of e) (bytes_of e) ++ encode es

-- the records from a place on, at most as many as the first number says: up to the first cut or strange one
abbrev pub after_record : List ℕ → (ℕ → List Entry) → Record → List Entry
after_record t go (R.Is i begin size) = entry_of i (take size (drop begin t)) ∷ go (begin + size)
after_record t go R.Cut = []
after_record t go R.Strange = []

abbrev pub walk : ℕ → List ℕ → ℕ → List Entry
walk zero t at = []
walk (suc fuel) t at = after_record t (walk fuel t) (record_at t at)

-- every record takes a byte at least, so that the bytes left are enough
unfoldable pub entries_from : List ℕ → ℕ → List Entry
entries_from t at = walk (length t - at) t at

-- the entries of a byte string
abbrev pub entries_of : List ℕ → List Entry
entries_of t = entries_from t 0

-- every number of the list is a byte
abbrev pub Bytes : List ℕ → Type 0
Bytes [] = Unit {0}
Bytes (b ∷ bs) = (b < 256) × Bytes bs

-- an address has 32 bits
abbrev pub Fits : Entry → Type 0
Fits (start n) = Unit {0}
Fits (statement e) = Unit {0}
Fits (column c) = Unit {0}
Fits (condition o k) = Unit {0}
Fits (network a n) = a < 2 ^ 32
Fits (value bs) = Unit {0}
Fits end = Unit {0}

abbrev pub AllFit : List Entry → Type 0
AllFit [] = Unit {0}
AllFit (e ∷ es) = Fits e × AllFit es

-- the bytes of an entry's record say the entry: an address has 32 bits, and a value 1 to 128 bytes (the kinds 40 to BF say no other length)
abbrev pub HasRecord : Entry → Type 0
HasRecord (start n) = Unit {0}
HasRecord (statement e) = Unit {0}
HasRecord (column c) = Unit {0}
HasRecord (condition o k) = Unit {0}
HasRecord (network a n) = a < 2 ^ 32
HasRecord (value bs) = (0 < length bs) × (length bs ≤ 128)
HasRecord end = Unit {0}

-- a writer and its buffer take these entries one after the other, and are left as the last two say
abbrev pub Writes : Writer → List ℕ → List Entry → Writer → List ℕ → Type 0
Writes w buffer [] last left = (w ≡ last) × (buffer ≡ left)
Writes w buffer (e ∷ es) last left =
    (next : Writer)
    × (writing w (item_of e) (bytes_of e) (length buffer) ≡ W.Added next)
    × Writes next (sets buffer w.at (record_of (item_of e) (bytes_of e))) es last left
