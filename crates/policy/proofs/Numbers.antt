-- The numbers of refusals: 21 and 22 for members, 3 to 8 for records.
use Prim.{tt}
use Rattle.std.proofs.Common.{ℕ, ◌≤◌, Bool, true, false, ◌||◌, ◌≡◌, sym, List, [], ◌∷◌, ◌++◌, arith, eqb, leb, ltb, length}
use Rattle.json_text.specs.Choice.{pick, same_bytes}
use Rattle.json_text.specs.Texts.{ascii}
use Rattle.json_text.specs.Trees.{Tree}
use Rattle.json_text.specs.Trees.Shape.{one, several, named}
use Rattle.json_text.specs.Trees.Tree.{text, other, list, object, end_list, element, end_object, member}
use Rattle.stored.specs.Machine.{admit_item}
use Rattle.stored.specs.Entries.{item_of, bytes_of}
use Rattle.stored.specs.declared.machine.State.{State}
use Rattle.stored.specs.Machine.{Turn as T, Turn}
use Rattle.stored.proofs.Numbers.{Numbered, refused-item}
use Rattle.stored.proofs.Choosing.{never}
use Rattle.members.specs.Members.{top_kind, row_kind, aws_kind, operator_kind, key_kind, row_slot, itself, version_text}
use Rattle.members.specs.Members.Verdict.{refused}
use Rattle.members.specs.Faults.{MemberFault, Lowest, bad_name, bad_value, among, all_among, member_faults, text_faults, this_text_faults, each_text_faults, string_faults, operator_faults, condition_faults, principal_faults, row_value_faults, row_faults, each_row_faults, rows_faults, top_value_faults, faults}
use Rattle.records.specs.Wishes.{Wish}
use Rattle.records.specs.Wishes.Wish.{made, strange, empty, unread}
use Rattle.records.specs.Records.{wish_turn, wish_place, after_wish, running}

-- Members

abbrev Ranged : List MemberFault → Type 0
Ranged [] = Unit {0}
Ranged (f ∷ fs) = (21 ≤ f.number) × (f.number ≤ 22) × Ranged fs

name : (n : ℕ) → Ranged (bad_name n)
name n = (omega arith, omega arith, tt)

bad : (n : ℕ) → Ranged (bad_value n)
bad n = (omega arith, omega arith, tt)

both : (fs gs : List MemberFault) → Ranged fs → Ranged gs → Ranged (fs ++ gs)
both [] gs a b = b
both (f ∷ fs) gs a b = (a.0, a.1, both fs gs a.2 b)

either : (x : Bool) (fs gs : List MemberFault) → Ranged fs → Ranged gs → Ranged (pick x fs gs)
either true fs gs a b = a
either false fs gs a b = b

module _ (kind_of : List ℕ → ℕ) (slot_of : ℕ → ℕ) (value_faults : ℕ → Tree one → List MemberFault) (needed : List ℕ)
    (fit : (k : ℕ) (v : Tree one) → Ranged (value_faults k v)) where
  in_members : (seen : List ℕ) (ms : Tree named) → Ranged (member_faults kind_of slot_of value_faults needed seen ms)
  in_members seen (end_object n) = either (all_among seen needed) [] (bad_value n) tt (bad n)
  in_members seen (member n x v ms) =
      let kind = kind_of x in
      let twice = pick (among seen (slot_of kind)) (bad_name n) [] in
      let rest = member_faults kind_of slot_of value_faults needed (slot_of kind ∷ seen) ms in
      let beyond = member_faults kind_of slot_of value_faults needed seen ms in
      either (eqb kind 0) (bad_name n ++ beyond) (twice ++ (value_faults kind v ++ rest))
      (both (bad_name n) beyond (name n) (in_members seen ms))
      (both twice (value_faults kind v ++ rest) (either (among seen (slot_of kind)) (bad_name n) [] (name n) tt)
      (both (value_faults kind v) rest (fit kind v) (in_members (slot_of kind ∷ seen) ms)))

in-text : (v : Tree one) → Ranged (text_faults v)
in-text (text n bs) = tt
in-text (other n) = bad n
in-text (list n es) = bad n
in-text (object n ms) = bad n

in-this : (x : List ℕ) (v : Tree one) → Ranged (this_text_faults x v)
in-this x (text n bs) = either (same_bytes bs x) [] (bad_value n) tt (bad n)
in-this x (other n) = bad n
in-this x (list n es) = bad n
in-this x (object n ms) = bad n

in-each-text : (es : Tree several) → Ranged (each_text_faults es)
in-each-text (end_list n) = tt
in-each-text (element v es) = both (text_faults v) (each_text_faults es) (in-text v) (in-each-text es)

in-strings : (v : Tree one) → Ranged (string_faults v)
in-strings (text n bs) = tt
in-strings (other n) = bad n
in-strings (list n es) = in-each-text es
in-strings (object n ms) = bad n

in-operator : (v : Tree one) → Ranged (operator_faults v)
in-operator (text n bs) = bad n
in-operator (other n) = bad n
in-operator (list n es) = bad n
in-operator (object n ms) = in_members key_kind itself (λ k v. string_faults v) [] (λ k v. in-strings v) [] ms

in-condition : (v : Tree one) → Ranged (condition_faults v)
in-condition (text n bs) = bad n
in-condition (other n) = bad n
in-condition (list n es) = bad n
in-condition (object n ms) = in_members operator_kind itself (λ k v. operator_faults v) [] (λ k v. in-operator v) [] ms

in-principal : (v : Tree one) → Ranged (principal_faults v)
in-principal (text n bs) = either (same_bytes bs (ascii "*")) [] (bad_value n) tt (bad n)
in-principal (other n) = bad n
in-principal (list n es) = bad n
in-principal (object n ms) = in_members aws_kind itself (λ k v. string_faults v) (1 ∷ []) (λ k v. in-strings v) [] ms

in-row-value : (k : ℕ) (v : Tree one) → Ranged (row_value_faults k v)
in-row-value k v =
    let last = pick (leb k 8) (string_faults v) (condition_faults v) in
    either (leb k 2) (text_faults v) (pick (leb k 4) (principal_faults v) last) (in-text v)
    (either (leb k 4) (principal_faults v) last (in-principal v) (either (leb k 8) (string_faults v) (condition_faults v) (in-strings v) (in-condition v)))

in_row : (v : Tree one) → Ranged (row_faults v)
in_row (text n bs) = bad n
in_row (other n) = bad n
in_row (list n es) = bad n
in_row (object n ms) = in_members row_kind row_slot row_value_faults (2 ∷ 3 ∷ 4 ∷ 5 ∷ []) in-row-value [] ms

in-each-row : (es : Tree several) → Ranged (each_row_faults es)
in-each-row (end_list n) = tt
in-each-row (element v es) = both (row_faults v) (each_row_faults es) (in_row v) (in-each-row es)

in_rows_lem : (v : Tree one) → Ranged (rows_faults v)
in_rows_lem (text n bs) = bad n
in_rows_lem (other n) = bad n
in_rows_lem (list n es) = in-each-row es
in_rows_lem (object n ms) = in_row (object n ms)

in-top-value : (k : ℕ) (v : Tree one) → Ranged (top_value_faults k v)
in-top-value k v = either (eqb k 1) (this_text_faults version_text v) (rows_faults v) (in-this version_text v) (in_rows_lem v)

in-document : (v : Tree one) → Ranged (faults v)
in-document (text n bs) = bad n
in-document (other n) = bad n
in-document (list n es) = bad n
in-document (object n ms) = in_members top_kind itself top_value_faults (1 ∷ 2 ∷ []) in-top-value [] ms

pub member-number : (v : Tree one) (size k p : ℕ) → Lowest size (faults v) k p → (21 ≤ k) × (k ≤ 22)
member-number v size k p l =
    let r = rw l.both at (in-document v) in
    (omega (arith, r.0, l.its_number), omega (arith, r.1, l.its_number))

-- Records

abbrev Low : Turn → Type 0
Low (T.Next s) = Unit {0}
Low (T.Refused k) = (3 ≤ k) × (k ≤ 8)

turn_low : (s : State) (x : Wish) → Low (wish_turn s x)
turn_low s (made n e) = by (admit_item s (item_of e) (bytes_of e)) (refused-item s (item_of e) (bytes_of e))
  where
    by : (t : Turn) → Numbered t → Low t
    by (T.Next u) h = tt
    by (T.Refused k) h = (omega (arith, h.0), h.1)
turn_low s (strange n) = (omega arith, omega arith)
turn_low s (empty n) = (omega arith, omega arith)
turn_low s (unread n bs) = by (eqb (length bs) 0 || (ltb 128 (length bs) || leb 64 s.values))
  where
    by : (x : Bool) → Low (T.Refused (pick x 6 8))
    by true = (omega arith, omega arith)
    by false = (omega arith, omega arith)

pub record-number : (ws : List Wish) (s : State) (k n : ℕ) → running ws s ≡ refused k n → (3 ≤ k) × (k ≤ 8)
record-number [] s k n h = never (cc)
record-number (x ∷ ws) s k n h = by (wish_turn s x) (turn_low s x) h (λ u e. record-number ws u k n e)
  where
    by : (t : Turn) → Low t → after_wish (running ws) (wish_place x) t ≡ refused k n → ((u : State) → running ws u ≡ refused k n → (3 ≤ k) × (k ≤ 8))
        → (3 ≤ k) × (k ≤ 8)
    by (T.Next u) l e go = go u e
    by (T.Refused m) l e go =
        let same : m ≡ k = cc in
        rw (sym same) l
