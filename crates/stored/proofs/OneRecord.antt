-- The round trip of one record: the record of an entry, wherever it stands, is found as that entry's, and the bytes of a found
-- record are the record of its item.
use Rattle.std.proofs.Common.{Some, ℕ, zero, suc, ◌+◌, ◌-◌, ◌/◌, ◌%◌, ◌^◌, ◌≤◌, ◌<◌, ◌≡◌, refl, sym, ◌∙◌, ap, List, [], ◌∷◌, ◌++◌, arith, add-one, length, get_or, take, drop, length-append, drop-cons, lt-ltb, le-ltb, le-leb, ne_eqb}
use Rattle.std.proofs.Math.Seq.{take-append_seam, drop-append-add, get_or-append_seam}
use Rattle.stored.specs.Machine.{Turn as T}
use Rattle.stored.specs.Items.{effect_code, column_code, key_code, key_of}
use Rattle.stored.specs.Operators.{code_of, operator_of}
use Rattle.stored.specs.Records.{Record as R, kind_of, size_of, decode_of, statement_of, column_of, condition_of, address_of, known, record_at}
use Rattle.stored.specs.Writing.{record_of}
use Rattle.stored.specs.Entries.{Entry, entry_of, item_of, bytes_of, Bytes, Fits, HasRecord}
use Rattle.stored.specs.Machinery.Following.{admit}
use Rattle.stored.specs.Entries.Entry.{start, statement, column, condition, network, value, end}
use Rattle.stored.specs.declared.items.Effect.{Effect}
use Rattle.stored.specs.declared.items.Effect.TheVariants as E
use Rattle.stored.specs.declared.items.Column.{Column}
use Rattle.stored.specs.declared.items.Column.TheVariants as C
use Rattle.stored.specs.declared.items.Key.{Key}
use Rattle.stored.specs.declared.items.Key.TheVariants as Q
use Rattle.stored.specs.declared.items.Operator.{Operator}
use Rattle.stored.specs.declared.items.Operator.TheVariants as O
use Rattle.stored.specs.declared.items.Item.{Item}
use Rattle.stored.specs.declared.items.Item.TheVariants as I
use Rattle.stored.specs.declared.records.Kind.TheVariants as K
use Rattle.stored.specs.declared.machine.State.{State}
use Rattle.stored.proofs.Decoding.{kind-is, record-bytes}
use Rattle.stored.proofs.Walking.{stands, body-length}
use Rattle.stored.proofs.Turns.{admitted, Turned, turned}

-- every code says what it is the code of
statement-said : (e : Effect) → statement_of (effect_code e) ≡ Some (I.Statement e)
statement-said E.Deny = refl
statement-said E.Allow = refl

column-said : (c : Column) → column_of (column_code c) ≡ Some (I.Column c)
column-said C.Principal = refl
column-said C.Action = refl
column-said C.Resource = refl
column-said C.NotPrincipal = refl
column-said C.NotAction = refl
column-said C.NotResource = refl

operator-said : (o : Operator) → operator_of (code_of o) ≡ Some o
operator-said O.StringEquals = refl
operator-said O.StringNotEquals = refl
operator-said O.StringLike = refl
operator-said O.StringNotLike = refl
operator-said O.IpAddress = refl
operator-said O.NotIpAddress = refl
operator-said O.StringEqualsIfExists = refl
operator-said O.StringNotEqualsIfExists = refl
operator-said O.StringLikeIfExists = refl
operator-said O.StringNotLikeIfExists = refl
operator-said O.IpAddressIfExists = refl
operator-said O.NotIpAddressIfExists = refl

key-said : (k : Key) → key_of (key_code k) ≡ Some k
key-said Q.SourceVpc = refl
key-said Q.Prefix = refl
key-said Q.SourceVpce = refl
key-said Q.Referer = refl
key-said Q.SourceIp = refl

condition-said : (o : Operator) (k : Key) → condition_of (code_of o) (key_code k) ≡ Some (I.Condition o k)
condition-said o k = rw (operator-said o, key-said k)

-- the four bytes of an address give it back
address-said : (a : ℕ) → a < 2 ^ 32
    → address_of (a / 0x1000000 % 0x100) (a / 0x10000 % 0x100) (a / 0x100 % 0x100) (a % 0x100) ≡ a
address-said a h =
    let high : a / 0x1000000 % 0x100 ≡ a / 0x1000000 = omega arith in
    let third : a / 0x1000000 ≡ a / 0x10000 / 0x100 = omega arith in
    let second : a / 0x10000 ≡ a / 0x100 / 0x100 = omega arith in
    omega arith

-- the kind of a value says its length
value-said : (n : ℕ) → 0 < n → n ≤ 128 → kind_of (n + 0x3F) ≡ K.Value n
value-said n low high =
    rw (
      ne_eqb (n + 0x3F) 0x01 (omega arith),
      ne_eqb (n + 0x3F) 0x02 (omega arith),
      ne_eqb (n + 0x3F) 0x03 (omega arith),
      ne_eqb (n + 0x3F) 0x04 (omega arith),
      ne_eqb (n + 0x3F) 0x05 (omega arith),
      ne_eqb (n + 0x3F) 0x06 (omega arith),
      le-leb 0x40 (n + 0x3F) (omega arith),
      le-leb (n + 0x3F) 0xBF (omega arith),
    )
    (ap K.Value (omega arith))

-- a kind byte and a body of its size are found wherever they stand
body-there : (front body back : List ℕ) (b : ℕ) → size_of (kind_of b) ≡ length body
    → take (length body) (drop (length front + 1) (front ++ b ∷ (body ++ back))) ≡ body
body-there front body back b size = rw (drop-append-add front (b ∷ (body ++ back)) 1) (take-append_seam body back)

bytes-there : (front body back : List ℕ) (b : ℕ) → size_of (kind_of b) ≡ length body
    → record_at (front ++ b ∷ (body ++ back)) (length front) ≡ known (length front + 1) (length body) (decode_of (kind_of b) body)
unfolding record_at
bytes-there front body back b size =
    let t = front ++ b ∷ (body ++ back) in
    let long : length t ≡ length front + suc (length body + length back)
    = length-append front (b ∷ (body ++ back)) ∙ ap (λ (n : ℕ). length front + suc n) (length-append body back) in
    rw (
      lt-ltb (length front) (length t) (omega arith),
      get_or-append_seam front b (body ++ back) 0,
      size,
      le-ltb (length t - (length front + 1)) (length body) (omega arith),
      body-there front body back b size,
    )

-- the record of an entry stands at a place
pub record There (e : Entry) (t : List ℕ) (at : ℕ) : Type 0 where
  pub found : record_at t at ≡ R.Is (item_of e) (at + 1) (length (record_of (item_of e) (bytes_of e)) - 1)
  pub again : entry_of (item_of e) (take (length (record_of (item_of e) (bytes_of e)) - 1) (drop (at + 1) t)) ≡ e

-- an entry that has a record is found by it, wherever it stands
pub there : (e : Entry) → HasRecord e → (front back : List ℕ)
    → There e (front ++ (record_of (item_of e) (bytes_of e) ++ back)) (length front)
there (start n) h front back = record { found = bytes-there front (n ∷ []) back 0x01 refl; again = refl }
there (statement e) h front back =
    record {
      found = bytes-there front (effect_code e ∷ []) back 0x02 refl ∙ ap (known (length front + 1) 1) (statement-said e);
      again = refl;
    }
there (column c) h front back =
    record {
      found = bytes-there front (column_code c ∷ []) back 0x03 refl ∙ ap (known (length front + 1) 1) (column-said c);
      again = refl;
    }
there (condition o k) h front back =
    record {
      found = bytes-there front (code_of o ∷ key_code k ∷ []) back 0x04 refl ∙ ap (known (length front + 1) 2) (condition-said o k);
      again = refl;
    }
there (network a n) h front back =
    record {
      found =
          bytes-there front ((a / 0x1000000 % 0x100) ∷ (a / 0x10000 % 0x100) ∷ (a / 0x100 % 0x100) ∷ (a % 0x100) ∷ n ∷ []) back 0x06 refl
          ∙ ap (λ (x : ℕ). R.Is (I.Network x n) (length front + 1) 5) (address-said a h);
      again = refl;
    }
there (value bs) h front back =
    let kind = value-said (length bs) h.0 h.1 in
    let size : suc (length bs) - 1 ≡ length bs = omega arith in
    let same : size_of (kind_of (length bs + 0x3F)) ≡ length bs = rw kind in
    record {
      found =
          bytes-there front bs back (length bs + 0x3F) same
          ∙ rw (kind, size);
      again = rw size (ap value (body-there front bs back (length bs + 0x3F) same));
    }
there end h front back = record { found = bytes-there front [] back 0x05 refl; again = refl }

-- an entry that the state machine takes has a record, where its address has 32 bits
has-record : (s : State) (e : Entry) (u : State) → Fits e → Turned s e u → HasRecord e
has-record s (start n) u f h = tt
has-record s (statement e) u f h = tt
has-record s (column c) u f h = tt
has-record s (condition o k) u f h = tt
has-record s (network a n) u f h = f
has-record s (value bs) u f h = (h.0, h.1)
has-record s end u f h = tt

-- the record of an entry that the state machine takes is found as that entry's, wherever it stands
pub entry-there : (s : State) (e : Entry) (u : State) → Fits e → admit s e ≡ T.Next u → (front back : List ℕ)
    → There e (front ++ (record_of (item_of e) (bytes_of e) ++ back)) (length front)
entry-there s e u f h = there e (has-record s e u f (turned s e u (admitted s (item_of e) (bytes_of e) u h).1))

-- a part of a byte string is one
pub bytes_take : (n : ℕ) (l : List ℕ) → Bytes l → Bytes (take n l)
bytes_take zero l h = tt
bytes_take (suc n) [] h = tt
bytes_take (suc n) (a ∷ l) h = (h.0, bytes_take n l h.1)

pub bytes_drop : (n : ℕ) (l : List ℕ) → Bytes l → Bytes (drop n l)
bytes_drop zero l h = h
bytes_drop (suc n) [] h = tt
bytes_drop (suc n) (a ∷ l) h = bytes_drop n l h.1

-- the bytes of a record are the record of its item
pub record-again : (t : List ℕ) (at : ℕ) (i : Item) (s n : ℕ) → record_at t at ≡ R.Is i s n → Bytes t
    → take (suc n) (drop at t) ≡ record_of i (take n (drop s t))
record-again t at i s n e h =
    let r = stands t at i s n e in
    let b = get_or t at 0 in
    let body = take n (drop s t) in
    rw (drop-cons t at 0 r.low)
    (ap (λ (m : ℕ). b ∷ take n (drop m t)) (sym (r.behind ∙ add-one at))
    ∙ record-bytes b (kind_of b) (kind-is b) body (body-length t at i s n e ∙ r.size) (bytes_take n (drop s t) (bytes_drop s t h)) i r.says)

-- only a value's record holds the bytes beside its item
pub same-record : (i : Item) (bs : List ℕ) → record_of (item_of (entry_of i bs)) (bytes_of (entry_of i bs)) ≡ record_of i bs
same-record (I.Start n) bs = refl
same-record (I.Statement e) bs = refl
same-record (I.Column c) bs = refl
same-record (I.Condition o k) bs = refl
same-record (I.Network a n) bs = refl
same-record I.Value bs = refl
same-record I.End bs = refl
