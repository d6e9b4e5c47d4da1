-- A document whose records are all taken is written as the table of its statements.
use Rattle.std.proofs.Common.{ℕ, ◌+◌, ◌≤◌, true, ◌≡◌, refl, ◌∙◌, ap, subst, List, [], ◌∷◌, ◌++◌, arith, length, take, le-ltb}
use lib.Seq.{sets, length-sets}
use Rattle.json_text.specs.Trees.{Tree}
use Rattle.json_text.specs.Trees.Shape.{one}
use Rattle.stored.specs.Machine.{fresh_state, is_ended}
use Rattle.stored.specs.Reading.{reading}
use Rattle.stored.specs.Writing.{fresh_writer, record_of, writing}
use Rattle.stored.specs.Entries.{Entry, item_of, bytes_of, entries_of, Writes}
use Rattle.stored.specs.Machinery.Following.{admit}
use Rattle.stored.specs.Entries.Entry.{start, statement, column, condition, network, value, end}
use Rattle.stored.specs.Tables.{Listed, Element, Condition, Statement, table_of}
use Rattle.stored.specs.declared.machine.State.{State}
use Rattle.stored.specs.Machine.{Turn, Turn as T}
use Rattle.stored.specs.Reading.{ReadAnswer as A}
use Rattle.stored.specs.declared.writer.Writer.{Writer}
use Rattle.stored.specs.Writing.{WriteAnswer as W}
use Rattle.stored.specs.Form.{listed_for, elements_for, conditions_for, statements_for}
use Rattle.stored.proofs.Promises.{read-write, end-ends}
use Rattle.stored.proofs.FormReads.{table-of-entries}
use Rattle.members.specs.Members.Verdict.{fine}
use Rattle.records.specs.Documents.{statements_of}
use Rattle.records.specs.Wishes.{Wish, wishes, entries}
use Rattle.records.specs.Wishes.Wish.{made, strange, empty, unread}
use Rattle.records.specs.Records.{after_wish, running, size_of, records_of}
use Rattle.records.proofs.Wished.{wished}
use Rattle.records.proofs.Addresses.{all_fit}

-- what is written of wishes that are all taken
pub record Written (ws : List Wish) (s : State) (at : ℕ) (buffer : List ℕ) : Type 0 where
  pub last : Writer
  pub left : List ℕ
  pub writes : Writes (record { state = s; at = at }) buffer (entries ws) last left
  pub size : last.at ≡ at + size_of ws

-- an entry that the machine takes, with room for it
one_more : (e : Entry) (s next : State) (at : ℕ) (buffer : List ℕ) → admit s e ≡ T.Next next
    → at + length (record_of (item_of e) (bytes_of e)) ≤ 16384 → at + length (record_of (item_of e) (bytes_of e)) ≤ length buffer
    → writing (record { state = s; at = at }) (item_of e) (bytes_of e) (length buffer)
    ≡ W.Added (record { state = next; at = at + length (record_of (item_of e) (bytes_of e)) })
unfolding writing
one_more e s next at buffer h a b = rw (h, le-ltb 16384 (at + length (record_of (item_of e) (bytes_of e))) a, le-ltb (length buffer) (at + length (record_of (item_of e) (bytes_of e))) b)

pub write-all : (ws : List Wish) (s : State) (at : ℕ) (buffer : List ℕ) → running ws s ≡ fine
    → at + size_of ws ≤ 16384 → at + size_of ws ≤ length buffer → Written ws s at buffer
write-all [] s at buffer h a b = record { last = record { state = s; at = at }; left = buffer; writes = (refl, refl); size = omega arith }
write-all (strange n ∷ ws) s at buffer h a b = absurd (cc)
write-all (empty n ∷ ws) s at buffer h a b = absurd (cc)
write-all (unread n bs ∷ ws) s at buffer h a b = absurd (cc)
write-all (made n e ∷ ws) s at buffer h a b =
    by (admit s e) refl h
    (λ next e1 e2.
    write-all ws next (at + length (record_of (item_of e) (bytes_of e))) (sets buffer at (record_of (item_of e) (bytes_of e))) e2
    (omega arith) (rw length-sets (omega arith)))
  where
    by : (x : Turn) → admit s e ≡ x → after_wish (running ws) n x ≡ fine
        → ((next : State) → admit s e ≡ T.Next next → running ws next ≡ fine
        → Written ws next (at + length (record_of (item_of e) (bytes_of e))) (sets buffer at (record_of (item_of e) (bytes_of e))))
        → Written (made n e ∷ ws) s at buffer
    by (T.Refused k) f g go = absurd (cc)
    by (T.Next next) f g go =
        let r = go next f g in
        record {
          last = r.last;
          left = r.left;
          writes = (
            record { state = next; at = at + length (record_of (item_of e) (bytes_of e)) },
            one_more e s next at buffer f (omega arith) (omega arith),
            r.writes,
          );
          size = r.size ∙ (omega arith);
        }

-- the last entry of a table is its end
listed-behind : (vs : List Listed) (es fs : List Entry) → listed_for vs (es ++ fs) ≡ listed_for vs es ++ fs
listed-behind [] es fs = refl
listed-behind (Listed.text bs ∷ vs) es fs = ap (λ (xs : List Entry). value bs ∷ xs) (listed-behind vs es fs)
listed-behind (Listed.range a n ∷ vs) es fs = ap (λ (xs : List Entry). network a n ∷ xs) (listed-behind vs es fs)

elements-behind : (xs : List Element) (es fs : List Entry) → elements_for xs (es ++ fs) ≡ elements_for xs es ++ fs
elements-behind [] es fs = refl
elements-behind (x ∷ xs) es fs =
    ap (λ (ys : List Entry). column x.name ∷ ys) (ap (listed_for x.values) (elements-behind xs es fs) ∙ listed-behind x.values (elements_for xs es) fs)

conditions-behind : (xs : List Condition) (es fs : List Entry) → conditions_for xs (es ++ fs) ≡ conditions_for xs es ++ fs
conditions-behind [] es fs = refl
conditions-behind (x ∷ xs) es fs =
    ap (λ (ys : List Entry). condition x.operator x.key ∷ ys)
    (ap (listed_for x.values) (conditions-behind xs es fs) ∙ listed-behind x.values (conditions_for xs es) fs)

statements-behind : (xs : List Statement) → (es : List Entry) × (statements_for xs ≡ es ++ (end ∷ []))
statements-behind [] = ([], refl)
statements-behind (x ∷ xs) =
    let r = statements-behind xs in (
      statement x.effect ∷ elements_for x.elements (conditions_for x.conditions r.0),
      ap (λ (ys : List Entry). statement x.effect ∷ ys)
          (ap (λ (ys : List Entry). elements_for x.elements (conditions_for x.conditions ys)) r.1
          ∙ ap (elements_for x.elements) (conditions-behind x.conditions r.0 (end ∷ []))
          ∙ elements-behind x.elements (conditions_for x.conditions r.0) (end ∷ [])),
    )

-- the table that is written
pub record Meant (v : Tree one) (buffer : List ℕ) : Type 0 where
  pub last : Writer
  pub left : List ℕ
  pub writes : Writes fresh_writer buffer (entries (wishes v)) last left
  pub size : last.at ≡ size_of (wishes v)
  pub reads : reading (take last.at left) ≡ A.Accepted last.state.rows
  pub says : table_of (entries_of (take last.at left)) ≡ statements_of v

-- "What the table means equals what the document says": where no record is refused and there is room, the table that the writer leaves is
-- read, and its statements are the document's.
pub json-means : (v : Tree one) (buffer : List ℕ) → records_of v ≡ fine → size_of (wishes v) ≤ 16384 → size_of (wishes v) ≤ length buffer
    → Meant v buffer
json-means v buffer h a b =
    let w = write-all (wishes v) fresh_state 0 buffer h (omega arith) (omega arith) in
    let front = statements-behind (statements_of v) in
    let es = start (length (statements_of v)) ∷ front.0 in
    let same : entries (wishes v) ≡ es ++ (end ∷ []) =
    wished v ∙ ap (λ (xs : List Entry). start (length (statements_of v)) ∷ xs) front.1 in
    let over : is_ended w.last.state.phase ≡ true =
    end-ends es buffer w.last w.left (subst (λ (xs : List Entry). Writes fresh_writer buffer xs w.last w.left) same w.writes) in
    let back = read-write (entries (wishes v)) buffer w.last w.left w.writes (all_fit v) over in
    record {
      last = w.last;
      left = w.left;
      writes = w.writes;
      size = w.size ∙ (omega arith);
      reads = back.0;
      says = ap table_of (back.1 ∙ wished v) ∙ table-of-entries (statements_of v);
    }
