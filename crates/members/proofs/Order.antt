-- The faults of a document come in the order of the text, no two at one place.
use Rattle.std.proofs.Common.{ℕ, ◌≤◌, ◌<◌, Bool, true, false, List, [], ◌∷◌, ◌++◌, arith, eqb, leb}
use Rattle.json_text.specs.Choice.{pick, same_bytes}
use Rattle.json_text.specs.Texts.{ascii}
use Rattle.json_text.specs.Trees.{Tree}
use Rattle.json_text.specs.Trees.Shape.{one, several, named}
use Rattle.json_text.specs.Trees.Tree.{text, other, list, object, end_list, element, end_object, member}
use Rattle.members.specs.Members.{version_text, top_kind, row_kind, aws_kind, operator_kind, key_kind, row_slot, itself}
use Rattle.members.specs.Faults.{MemberFault, bad_name, bad_value, among, all_among, member_faults, text_faults, this_text_faults, each_text_faults, string_faults, object_faults, operator_faults, condition_faults, principal_faults, row_value_faults, row_faults, each_row_faults, rows_faults, top_value_faults, faults}
use Rattle.members.proofs.Places.{InOrder, spans}

abbrev pub Falling : List MemberFault → ℕ → ℕ → Type 0
Falling [] high low = Unit {0}
Falling (f ∷ fs) high low = (low ≤ f.left) × (f.left < high) × Falling fs f.left low

raised : (fs : List MemberFault) (high low more : ℕ) → high ≤ more → Falling fs high low → Falling fs more low
raised [] high low more h p = tt
raised (f ∷ fs) high low more h p = (p.0, omega arith, p.2)

both : (fs gs : List MemberFault) (high mid low : ℕ) → low ≤ mid → mid ≤ high → Falling fs high mid → Falling gs mid low → Falling (fs ++ gs) high low
both [] gs high mid low a b p q = raised gs mid low high b q
both (f ∷ fs) gs high mid low a b p q = (omega arith, p.1, both fs gs f.left mid low a p.0 p.2 q)

-- what a value of a sort holds falls where its places do
abbrev Falls : (Tree one → List MemberFault) → Type 0
Falls of = (v : Tree one) (high low : ℕ) → InOrder v high low → Falling (of v) high low

text-falls : Falls text_faults
text-falls (text n bs) high low p = tt
text-falls (other n) high low p = (p.0, p.1, tt)
text-falls (list n es) high low p = let e = spans es n low p.1 in (omega arith, p.0, tt)
text-falls (object n ms) high low p = let e = spans ms n low p.1 in (omega arith, p.0, tt)

perhaps : (b : Bool) (n high low : ℕ) → low ≤ n → n < high → Falling (pick b [] (bad_value n)) high low
perhaps true n high low a b = tt
perhaps false n high low a b = (a, b, tt)

this-falls : (x : List ℕ) → Falls (this_text_faults x)
this-falls x (text n bs) high low p = perhaps (same_bytes bs x) n high low p.0 p.1
this-falls x (other n) high low p = (p.0, p.1, tt)
this-falls x (list n es) high low p = let e = spans es n low p.1 in (omega arith, p.0, tt)
this-falls x (object n ms) high low p = let e = spans ms n low p.1 in (omega arith, p.0, tt)

each-falls : (es : Tree several) (high low : ℕ) → InOrder es high low → Falling (each_text_faults es) high low
each-falls (end_list n) high low p = tt
each-falls (element v es) high low p =
    let a = spans v high p.0 p.1 in
    let b = spans es p.0 low p.2 in
    both (text_faults v) (each_text_faults es) high p.0 low (omega arith) (omega arith) (text-falls v high p.0 p.1) (each-falls es p.0 low p.2)

strings-fall : Falls string_faults
strings-fall (text n bs) high low p = tt
strings-fall (other n) high low p = (p.0, p.1, tt)
strings-fall (list n es) high low p = raised (each_text_faults es) n low high (omega arith) (each-falls es n low p.1)
strings-fall (object n ms) high low p = let e = spans ms n low p.1 in (omega arith, p.0, tt)

-- an object's members
member-falls : (unknown twice : Bool) (n : ℕ) (others fs gs : List MemberFault) (high mid low : ℕ) → low ≤ mid → mid ≤ n → n < high
    → Falling others mid low → Falling fs n mid → Falling gs mid low
    → Falling (pick unknown (bad_name n ++ others) (pick twice (bad_name n) [] ++ (fs ++ gs))) high low
member-falls true twice n others fs gs high mid low a b c p q r = (omega arith, c, raised others mid low n b p)
member-falls false true n others fs gs high mid low a b c p q r = (omega arith, c, both fs gs n mid low a b q r)
member-falls false false n others fs gs high mid low a b c p q r = raised (fs ++ gs) n low high (omega arith) (both fs gs n mid low a b q r)

module _ (kind_of : List ℕ → ℕ) (slot_of : ℕ → ℕ) (value_faults : ℕ → Tree one → List MemberFault) (needed : List ℕ)
    (falls : (k : ℕ) → Falls (value_faults k)) where
  members-fall : (ms : Tree named) (seen : List ℕ) (high low : ℕ) → InOrder ms high low
      → Falling (member_faults kind_of slot_of value_faults needed seen ms) high low
  members-fall (end_object n) seen high low p = perhaps (all_among seen needed) n high low p.0 p.1
  members-fall (member n x v ms) seen high low p =
      let k = kind_of x in
      let mid = p.1.0 in
      let a = spans v n mid p.1.1 in
      let b = spans ms mid low p.1.2 in
      member-falls (eqb k 0) (among seen (slot_of k)) n (member_faults kind_of slot_of value_faults needed seen ms) (value_faults k v)
      (member_faults kind_of slot_of value_faults needed (slot_of k ∷ seen) ms) high mid low (omega arith) (omega arith) p.0
      (members-fall ms seen mid low p.1.2) (falls k v n mid p.1.1) (members-fall ms (slot_of k ∷ seen) mid low p.1.2)

  object-falls : Falls (object_faults (member_faults kind_of slot_of value_faults needed []))
  object-falls (text n bs) high low p = (p.0, p.1, tt)
  object-falls (other n) high low p = (p.0, p.1, tt)
  object-falls (list n es) high low p = let e = spans es n low p.1 in (omega arith, p.0, tt)
  object-falls (object n ms) high low p =
      raised (member_faults kind_of slot_of value_faults needed [] ms) n low high (omega arith) (members-fall ms [] n low p.1)

operator-falls : (k : ℕ) → Falls operator_faults
operator-falls k = object-falls key_kind itself (λ k v. string_faults v) [] (λ k. strings-fall)

condition-falls : Falls condition_faults
condition-falls = object-falls operator_kind itself (λ k v. operator_faults v) [] operator-falls

principal-falls : Falls principal_faults
principal-falls (text n bs) high low p = perhaps (same_bytes bs (ascii "*")) n high low p.0 p.1
principal-falls (other n) high low p = (p.0, p.1, tt)
principal-falls (list n es) high low p = let e = spans es n low p.1 in (omega arith, p.0, tt)
principal-falls (object n ms) high low p =
    object-falls aws_kind itself (λ k v. string_faults v) (1 ∷ []) (λ k. strings-fall) (object n ms) high low p

row-value-falls : (k : ℕ) → Falls (row_value_faults k)
row-value-falls k v high low p = by (leb k 2) (leb k 4) (leb k 8)
  where
    by : (x y z : Bool) → Falling (pick x (text_faults v) (pick y (principal_faults v) (pick z (string_faults v) (condition_faults v)))) high low
    by true y z = text-falls v high low p
    by false true z = principal-falls v high low p
    by false false true = strings-fall v high low p
    by false false false = condition-falls v high low p

row-falls : Falls row_faults
row-falls = object-falls row_kind row_slot row_value_faults (2 ∷ 3 ∷ 4 ∷ 5 ∷ []) row-value-falls

each-row-falls : (es : Tree several) (high low : ℕ) → InOrder es high low → Falling (each_row_faults es) high low
each-row-falls (end_list n) high low p = tt
each-row-falls (element v es) high low p =
    let a = spans v high p.0 p.1 in
    let b = spans es p.0 low p.2 in
    both (row_faults v) (each_row_faults es) high p.0 low (omega arith) (omega arith) (row-falls v high p.0 p.1) (each-row-falls es p.0 low p.2)

rows-fall : Falls rows_faults
rows-fall (text n bs) high low p = (p.0, p.1, tt)
rows-fall (other n) high low p = (p.0, p.1, tt)
rows-fall (list n es) high low p = raised (each_row_faults es) n low high (omega arith) (each-row-falls es n low p.1)
rows-fall (object n ms) high low p = row-falls (object n ms) high low p

top-value-falls : (k : ℕ) → Falls (top_value_faults k)
top-value-falls k v high low p = by (eqb k 1)
  where
    by : (x : Bool) → Falling (pick x (this_text_faults version_text v) (rows_faults v)) high low
    by true = this-falls version_text v high low p
    by false = rows-fall v high low p

pub faults-fall : Falls faults
faults-fall = object-falls top_kind itself top_value_faults (1 ∷ 2 ∷ []) top-value-falls
