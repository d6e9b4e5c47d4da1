-- What the bytes of a record say: which kind a byte is, which item a body holds, and that the item's record is these bytes again.
use Rattle.std.proofs.Common.{Option, Some, None, ℕ, zero, suc, ◌+◌, ◌-◌, ◌/◌, ◌%◌, ◌≤◌, ◌<◌, ◌≡◌, refl, sym, ap, subst, ◌&&◌, List, [], ◌∷◌, arith, eqb, leb, length, get_or, eqb-true, leb-true}
use Rattle.stored.specs.Items.{key_code, key_of}
use Rattle.stored.specs.Operators.{code_of, operator_of}
use Rattle.stored.specs.Records.{kind_of, size_of, decode_of, statement_of, column_of, condition_of_found, address_of}
use Rattle.stored.specs.Machine.{kind_of_item}
use Rattle.stored.specs.Writing.{record_of}
use Rattle.stored.specs.Entries.{Bytes}
use Rattle.stored.specs.declared.items.Key.{Key}
use Rattle.stored.specs.declared.items.Operator.{Operator}
use Rattle.stored.specs.declared.items.Item.{Item}
use Rattle.stored.specs.declared.items.Item.TheVariants as I
use Rattle.stored.specs.declared.records.Kind.{Kind}
use Rattle.stored.specs.declared.records.Kind.TheVariants as K
use Rattle.stored.proofs.Choosing.{pick-cases, both_left, both_right}

-- a kind byte with its kind
pub data KindIs (b : ℕ) : Kind → Type 0 where
  is_start : b ≡ 0x01 → KindIs b K.Start
  is_statement : b ≡ 0x02 → KindIs b K.Statement
  is_column : b ≡ 0x03 → KindIs b K.Column
  is_condition : b ≡ 0x04 → KindIs b K.Condition
  is_end : b ≡ 0x05 → KindIs b K.End
  is_network : b ≡ 0x06 → KindIs b K.Network
  is_value : 0x40 ≤ b → b ≤ 0xBF → KindIs b (K.Value (b - 0x3F))
  is_unknown : KindIs b K.Unknown

pub kind-is : (b : ℕ) → KindIs b (kind_of b)
kind-is b =
    pick-cases (KindIs b) (eqb b 0x01) _ _ (λ e. is_start (eqb-true b 0x01 e)) λ _.
    pick-cases (KindIs b) (eqb b 0x02) _ _ (λ e. is_statement (eqb-true b 0x02 e)) λ _.
    pick-cases (KindIs b) (eqb b 0x03) _ _ (λ e. is_column (eqb-true b 0x03 e)) λ _.
    pick-cases (KindIs b) (eqb b 0x04) _ _ (λ e. is_condition (eqb-true b 0x04 e)) λ _.
    pick-cases (KindIs b) (eqb b 0x05) _ _ (λ e. is_end (eqb-true b 0x05 e)) λ _.
    pick-cases (KindIs b) (eqb b 0x06) _ _ (λ e. is_network (eqb-true b 0x06 e)) λ _.
    pick-cases (KindIs b) (leb 0x40 b && leb b 0xBF) _ _
    (λ e. is_value (leb-true 0x40 b (both_left (leb 0x40 b) (leb b 0xBF) e)) (leb-true b 0xBF (both_right (leb 0x40 b) (leb b 0xBF) e)))
    (λ _. is_unknown)

-- the record that a decoded body stands for is these bytes
abbrev Written : List ℕ → Option Item → Type 0
Written bytes (Some i) = (bs : List ℕ) → record_of i bs ≡ bytes
Written bytes None = Unit {0}

statement-written : (n : ℕ) → Written (0x02 ∷ n ∷ []) (statement_of n)
statement-written n =
    pick-cases (Written (0x02 ∷ n ∷ [])) (eqb n 0) _ _ (λ e bs. rw (eqb-true n 0 e)) λ _.
    pick-cases (Written (0x02 ∷ n ∷ [])) (eqb n 1) _ _ (λ e bs. rw (eqb-true n 1 e)) (λ _. tt)

column-written : (n : ℕ) → Written (0x03 ∷ n ∷ []) (column_of n)
column-written n =
    pick-cases (Written (0x03 ∷ n ∷ [])) (eqb n 0x00) _ _ (λ e bs. rw (eqb-true n 0x00 e)) λ _.
    pick-cases (Written (0x03 ∷ n ∷ [])) (eqb n 0x01) _ _ (λ e bs. rw (eqb-true n 0x01 e)) λ _.
    pick-cases (Written (0x03 ∷ n ∷ [])) (eqb n 0x02) _ _ (λ e bs. rw (eqb-true n 0x02 e)) λ _.
    pick-cases (Written (0x03 ∷ n ∷ [])) (eqb n 0x10) _ _ (λ e bs. rw (eqb-true n 0x10 e)) λ _.
    pick-cases (Written (0x03 ∷ n ∷ [])) (eqb n 0x11) _ _ (λ e bs. rw (eqb-true n 0x11 e)) λ _.
    pick-cases (Written (0x03 ∷ n ∷ [])) (eqb n 0x12) _ _ (λ e bs. rw (eqb-true n 0x12 e)) (λ _. tt)

-- an operator and a key are found by their codes
abbrev OperatorHas : ℕ → Option Operator → Type 0
OperatorHas n (Some o) = code_of o ≡ n
OperatorHas n None = Unit {0}

operator-has : (n : ℕ) → OperatorHas n (operator_of n)
operator-has n =
    pick-cases (OperatorHas n) (eqb n 0x01) _ _ (λ e. sym (eqb-true n 0x01 e)) λ _.
    pick-cases (OperatorHas n) (eqb n 0x02) _ _ (λ e. sym (eqb-true n 0x02 e)) λ _.
    pick-cases (OperatorHas n) (eqb n 0x03) _ _ (λ e. sym (eqb-true n 0x03 e)) λ _.
    pick-cases (OperatorHas n) (eqb n 0x04) _ _ (λ e. sym (eqb-true n 0x04 e)) λ _.
    pick-cases (OperatorHas n) (eqb n 0x05) _ _ (λ e. sym (eqb-true n 0x05 e)) λ _.
    pick-cases (OperatorHas n) (eqb n 0x06) _ _ (λ e. sym (eqb-true n 0x06 e)) λ _.
    pick-cases (OperatorHas n) (eqb n 0x11) _ _ (λ e. sym (eqb-true n 0x11 e)) λ _.
    pick-cases (OperatorHas n) (eqb n 0x12) _ _ (λ e. sym (eqb-true n 0x12 e)) λ _.
    pick-cases (OperatorHas n) (eqb n 0x13) _ _ (λ e. sym (eqb-true n 0x13 e)) λ _.
    pick-cases (OperatorHas n) (eqb n 0x14) _ _ (λ e. sym (eqb-true n 0x14 e)) λ _.
    pick-cases (OperatorHas n) (eqb n 0x15) _ _ (λ e. sym (eqb-true n 0x15 e)) λ _.
    pick-cases (OperatorHas n) (eqb n 0x16) _ _ (λ e. sym (eqb-true n 0x16 e)) (λ _. tt)

abbrev KeyHas : ℕ → Option Key → Type 0
KeyHas n (Some k) = key_code k ≡ n
KeyHas n None = Unit {0}

key_has : (n : ℕ) → KeyHas n (key_of n)
key_has n =
    pick-cases (KeyHas n) (eqb n 0) _ _ (λ e. sym (eqb-true n 0 e)) λ _.
    pick-cases (KeyHas n) (eqb n 1) _ _ (λ e. sym (eqb-true n 1 e)) λ _.
    pick-cases (KeyHas n) (eqb n 2) _ _ (λ e. sym (eqb-true n 2 e)) λ _.
    pick-cases (KeyHas n) (eqb n 3) _ _ (λ e. sym (eqb-true n 3 e)) λ _.
    pick-cases (KeyHas n) (eqb n 4) _ _ (λ e. sym (eqb-true n 4 e)) (λ _. tt)

condition-written : (o k : ℕ) (operator : Option Operator) (key : Option Key) → OperatorHas o operator → KeyHas k key
    → Written (0x04 ∷ o ∷ k ∷ []) (condition_of_found operator key)
condition-written o k (Some operator) (Some key) e h = λ bs. rw (e, h)
condition-written o k (Some operator) None e h = tt
condition-written o k None key e h = tt

-- a list of one, two or five numbers by its elements
one : (l : List ℕ) → length l ≡ 1 → l ≡ get_or l 0 0 ∷ []
one [] e = absurd (cc)
one (a ∷ []) e = refl
one (a ∷ b ∷ l) e = absurd (omega arith)

two : (l : List ℕ) → length l ≡ 2 → l ≡ get_or l 0 0 ∷ get_or l 1 0 ∷ []
two [] e = absurd (omega arith)
two (a ∷ l) e = ap (a ∷◌) (one l (omega arith))

five : (l : List ℕ) → length l ≡ 5 → l ≡ get_or l 0 0 ∷ get_or l 1 0 ∷ get_or l 2 0 ∷ get_or l 3 0 ∷ get_or l 4 0 ∷ []
five [] e = absurd (omega arith)
five (a ∷ []) e = absurd (omega arith)
five (a ∷ b ∷ []) e = absurd (omega arith)
five (a ∷ b ∷ c ∷ l) e = ap (λ (r : List ℕ). a ∷ b ∷ c ∷ r) (two l (omega arith))

-- every element of a byte string is a byte
pub byte_at : (l : List ℕ) → Bytes l → (k : ℕ) → get_or l k 0 < 256
byte_at [] h k = omega arith
byte_at (a ∷ l) h zero = h.0
byte_at (a ∷ l) h (suc k) = byte_at l h.1 k

-- a list of bytes, each told by its place, is a byte string
pub all-bytes : (l : List ℕ) → ((k : ℕ) → k < length l → get_or l k 0 < 256) → Bytes l
all-bytes [] h = tt
all-bytes (a ∷ l) h = (h 0 (omega arith), all-bytes l (λ k r. h (suc k) (omega arith)))

network-written : (a b c d n : ℕ) → a < 256 → b < 256 → c < 256 → d < 256 → (bs : List ℕ)
    → record_of (I.Network (address_of a b c d) n) bs ≡ 0x06 ∷ a ∷ b ∷ c ∷ d ∷ n ∷ []
network-written a b c d n ha hb hc hd bs =
    let e1 : address_of a b c d / 0x1000000 % 0x100 ≡ a = omega arith in
    let e2 : address_of a b c d / 0x10000 % 0x100 ≡ b = omega arith in
    let e3 : address_of a b c d / 0x100 % 0x100 ≡ c = omega arith in
    let e4 : address_of a b c d % 0x100 ≡ d = omega arith in
    cc

-- the bytes of a record are the record of the item that they say
pub record-bytes : (b : ℕ) (k : Kind) → KindIs b k → (body : List ℕ) → length body ≡ size_of k → Bytes body
    → (i : Item) → decode_of k body ≡ Some i → b ∷ body ≡ record_of i body
record-bytes b k (is_start e) body size bytes i says =
    let f = one body size in
    let g : I.Start (get_or body 0 0) ≡ i = cc in
    rw (← g) (cc)
record-bytes b k (is_statement e) body size bytes i says =
    let f = one body size in
    let g = subst (Written (0x02 ∷ get_or body 0 0 ∷ [])) says (statement-written (get_or body 0 0)) body in
    cc
record-bytes b k (is_column e) body size bytes i says =
    let f = one body size in
    let g = subst (Written (0x03 ∷ get_or body 0 0 ∷ [])) says (column-written (get_or body 0 0)) body in
    cc
record-bytes b k (is_condition e) body size bytes i says =
    let o = get_or body 0 0 in
    let q = get_or body 1 0 in
    let f = two body size in
    let g = subst (Written (0x04 ∷ o ∷ q ∷ [])) says (condition-written o q (operator_of o) (key_of q) (operator-has o) (key_has q)) body in
    cc
record-bytes b k (is_end e) [] size bytes i says =
    let g : I.End ≡ i = cc in
    rw (← g, e)
record-bytes b k (is_end e) (a ∷ body) size bytes i says = absurd (omega arith)
record-bytes b k (is_network e) body size bytes i says =
    let f = five body size in
    let g : I.Network (address_of (get_or body 0 0) (get_or body 1 0) (get_or body 2 0) (get_or body 3 0)) (get_or body 4 0) ≡ i = cc in
    let w = network-written (get_or body 0 0) (get_or body 1 0) (get_or body 2 0) (get_or body 3 0) (get_or body 4 0)
    (byte_at body bytes 0) (byte_at body bytes 1) (byte_at body bytes 2) (byte_at body bytes 3) body in
    rw (← g) (cc)
record-bytes b k (is_value low high) body size bytes i says =
    let g : I.Value ≡ i = cc in
    let e : b ≡ length body + 0x3F = omega arith in
    rw (← g) (ap (◌∷ body) e)
record-bytes b k is_unknown body size bytes i says = absurd (cc)

-- a decoded body holds an item of this kind
abbrev OfKind : Kind → ℕ → Option Item → Type 0
OfKind k size (Some i) = kind_of_item i size ≡ k
OfKind k size None = Unit {0}

of-kind : (k : Kind) (body : List ℕ) → length body ≡ size_of k → OfKind k (length body) (decode_of k body)
of-kind K.Start body size = refl
of-kind K.Statement body size =
    pick-cases (OfKind K.Statement (length body)) (eqb (get_or body 0 0) 0) _ _ (λ _. refl) λ _.
    pick-cases (OfKind K.Statement (length body)) (eqb (get_or body 0 0) 1) _ _ (λ _. refl) (λ _. tt)
of-kind K.Column body size =
    pick-cases (OfKind K.Column (length body)) (eqb (get_or body 0 0) 0x00) _ _ (λ _. refl) λ _.
    pick-cases (OfKind K.Column (length body)) (eqb (get_or body 0 0) 0x01) _ _ (λ _. refl) λ _.
    pick-cases (OfKind K.Column (length body)) (eqb (get_or body 0 0) 0x02) _ _ (λ _. refl) λ _.
    pick-cases (OfKind K.Column (length body)) (eqb (get_or body 0 0) 0x10) _ _ (λ _. refl) λ _.
    pick-cases (OfKind K.Column (length body)) (eqb (get_or body 0 0) 0x11) _ _ (λ _. refl) λ _.
    pick-cases (OfKind K.Column (length body)) (eqb (get_or body 0 0) 0x12) _ _ (λ _. refl) (λ _. tt)
of-kind K.Condition body size = found (operator_of (get_or body 0 0)) (key_of (get_or body 1 0))
  where
    found : (o : Option Operator) (k : Option Key) → OfKind K.Condition (length body) (condition_of_found o k)
    found (Some o) (Some k) = refl
    found (Some o) None = tt
    found None k = tt
of-kind K.End body size = refl
of-kind K.Network body size = refl
of-kind (K.Value n) body size = ap K.Value size
of-kind K.Unknown body size = tt

-- the kind of the item that a body says is the record's kind
pub same_kind : (k : Kind) (body : List ℕ) → length body ≡ size_of k → (i : Item) → decode_of k body ≡ Some i
    → kind_of_item i (length body) ≡ k
same_kind k body size i says = subst (OfKind k (length body)) says (of-kind k body size)

-- a kind of value says a length of 1 to 128
pub value-size : (b : ℕ) (k : Kind) → KindIs b k → (n : ℕ) → k ≡ K.Value n → (0 < n) × (n ≤ 128)
value-size b k (is_start e) n h = absurd (cc)
value-size b k (is_statement e) n h = absurd (cc)
value-size b k (is_column e) n h = absurd (cc)
value-size b k (is_condition e) n h = absurd (cc)
value-size b k (is_end e) n h = absurd (cc)
value-size b k (is_network e) n h = absurd (cc)
value-size b k (is_value low high) n h =
    let e : b - 0x3F ≡ n = cc in
    (omega arith, omega arith)
value-size b k is_unknown n h = absurd (cc)
