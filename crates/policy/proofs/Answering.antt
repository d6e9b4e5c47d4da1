-- What the reader finds is what is answered, and nothing else is answered.
use Rattle.std.proofs.Common.{Option, Some, None, ℕ, ◌+◌, ◌-◌, ◌≤◌, ◌<◌, Bool, true, false, ◌≡◌, refl, sym, ◌∙◌, ap, subst, List, [], ◌++◌, arith, ltb, length, take, drop, take-append-drop, lt-ltb, le-ltb, ltb-true, ltb-false}
use Rattle.json_text.specs.Grammar.{Text}
use Rattle.json_text.specs.Machinery.Reading.{fault_of}
use Rattle.json_text.specs.Answers.{Says}
use Rattle.json_text.proofs.Answering.{json-first-fault, json-sound}
use Rattle.json_text.proofs.Promises.{one-fault}
use Rattle.json_text.proofs.Tokenizing.{text-tokens}
use Rattle.stored.specs.Machine.{fresh_state}
use Rattle.stored.specs.Writing.{fresh_writer}
use Rattle.stored.specs.Entries.{Entry, encode}
use Rattle.stored.specs.Tables.{Statement, rows_of}
use Rattle.stored.specs.Reading.{reading}
use Rattle.stored.specs.Reading.{ReadAnswer as R}
use Rattle.stored.proofs.Promises.{written-so-far, three-elements}
use Rattle.members.specs.Members.{Verdict}
use Rattle.members.specs.Faults.{faults, Decides}
use Rattle.members.specs.Machinery.Verdicts.{document}
use Rattle.members.specs.Members.Verdict.{fine, refused}
use Rattle.members.specs.Machinery.Levels.{members_of}
use Rattle.members.specs.Answers.{Checked as C, Checked}
use Rattle.members.proofs.FirstFault.{first, first-fault}
use Rattle.members.proofs.Answering.{json-members, json-lowest}
use Rattle.members.proofs.Promises.{one-decision}
use Rattle.records.specs.Documents.{statements_of}
use Rattle.records.specs.Wishes.{Wish, wishes, entries}
use Rattle.records.specs.Records.{running, size_of, records_of}
use Rattle.records.specs.Machinery.Streams.{document_from}
use Rattle.records.proofs.Streaming.{document-from}
use Rattle.records.proofs.Wished.{wished}
use Rattle.records.proofs.Means.{json-means}
use Rattle.policy.specs.Answers.{document_of, table_for, Taken, JsonAnswered}
use Rattle.policy.specs.Answers.JsonAnswered.{no_text, wrong_member, wrong_record, too_long, no_room, written}
use Rattle.policy.specs.Machinery.Runs.{wishes_of, capped, dried, dried_from, dried_of, pouring, poured_of}
use Rattle.policy.specs.Machinery.Endings.{Ending, Ends, by_records, by_members, ending_of}
use Rattle.policy.specs.Machinery.Runs.{Dried as D}
use Rattle.policy.specs.Answers.{JsonAnswer}
use Rattle.policy.proofs.DryRuns.{capped_same}
use Rattle.policy.proofs.Pouring.{size-encode, pours}

-- no fault among the members: the verdict on them is fine
no-fault : {t : List ℕ} (x : Text t) → faults (document_of x) ≡ [] → document (document_of x) ≡ fine
no-fault x e = first-fault (document_of x) ∙ ap first e

-- a text's wishes are its document's
same-wishes : {t : List ℕ} (x : Text t) → faults (document_of x) ≡ [] → wishes_of t ≡ wishes (document_of x)
unfolding wishes_of
same-wishes x e = ap document_from (text-tokens x) ∙ document-from (document_of x) [] (no-fault x e)

-- the dry run of a text without a 20, 21 or 22
module _ {t : List ℕ} (x : Text t) (fit : faults (document_of x) ≡ []) where
  dried-document : dried_of t ≡ dried (length t) (size_of (wishes (document_of x))) (records_of (document_of x))
  unfolding dried_of dried_from
  dried-document =
      ap (λ (ws : List Wish). dried (length t) (0 + size_of ws) (running ws fresh_state)) (same-wishes x fit)
      ∙ (let e : 0 + size_of (wishes (document_of x)) ≡ size_of (wishes (document_of x)) = omega arith in rw e)

  size-table : records_of (document_of x) ≡ fine → size_of (wishes (document_of x)) ≡ length (table_for x)
  size-table h = size-encode (wishes (document_of x)) fresh_state h ∙ ap (λ (es : List Entry). length (encode es)) (wished (document_of x))

  pub dried-fine : records_of (document_of x) ≡ fine → dried_of t ≡ D.Fine (capped (length (table_for x)))
  dried-fine h = dried-document ∙ rw (h, size-table h)

  pub dried-refused : (k n : ℕ) → records_of (document_of x) ≡ refused k n → dried_of t ≡ D.Refused k (length t - n)
  dried-refused k n h = dried-document ∙ rw h

  pub poured : (buffer : List ℕ) → records_of (document_of x) ≡ fine → length (table_for x) ≤ 16384 → length (table_for x) ≤ length buffer
      → poured_of t buffer ≡ record { size = length (table_for x); left = table_for x ++ drop (length (table_for x)) buffer }
  unfolding poured_of
  poured buffer h a b =
      let v = document_of x in
      let s = size-table h in
      let m = json-means v buffer h (omega arith) (omega arith) in
      let so_far = written-so-far (entries (wishes v)) buffer m.last m.left m.writes in
      let long : m.last.at ≡ length (table_for x) = m.size ∙ s in
      let front : take m.last.at m.left ≡ table_for x = so_far.1 ∙ ap encode (wished v) in
      let whole : m.left ≡ table_for x ++ drop (length (table_for x)) buffer =
      sym (take-append-drop m.last.at m.left)
      ∙ ap (λ (ys : List ℕ). ys ++ drop m.last.at m.left) front
      ∙ ap (λ (ys : List ℕ). table_for x ++ ys) (so_far.2 ∙ ap (λ (n : ℕ). drop n buffer) long) in
      ap (λ (ws : List Wish). pouring ws fresh_writer buffer) (same-wishes x fit)
      ∙ pours (wishes v) fresh_writer m.last buffer m.left h m.writes
      ∙ (rw (long, whole))

-- the table of a document that is taken reads as its statements
pub table-reads : {t : List ℕ} (x : Text t) → Taken x → length (table_for x) ≤ 16384
    → (reading (table_for x) ≡ R.Accepted (length (statements_of (document_of x)))) × (rows_of (table_for x) ≡ statements_of (document_of x))
table-reads x h a =
    let v = document_of x in
    let s = size-table x h.sound_members h.sound_records in
    let m = json-means v (table_for x) h.sound_records (omega arith) (omega arith) in
    let so_far = written-so-far (entries (wishes v)) (table_for x) m.last m.left m.writes in
    let front : take m.last.at m.left ≡ table_for x = so_far.1 ∙ ap encode (wished v) in
    let reads : reading (table_for x) ≡ R.Accepted m.last.state.rows = ap reading (sym front) ∙ m.reads in
    let rows : rows_of (table_for x) ≡ statements_of v = ap (λ (t : List ℕ). rows_of t) (sym front) ∙ m.says in
    let count : m.last.state.rows ≡ length (statements_of v) = sym (three-elements (table_for x) m.last.state.rows reads).0 ∙ ap (λ (l : List Statement). length l) rows in
    (reads ∙ ap R.Accepted count, rows)

capped-over : (n : ℕ) → 16384 < n → capped n ≡ 16385
capped-over n h = rw (lt-ltb 16384 n h)

-- the steps to an ending
module _ {t : List ℕ} (buffer : List ℕ) (x : Text t) where
  at-members : ending_of t buffer ≡ by_members t buffer (members_of t)
  at-members = rw (json-sound t x)

  at_records : faults (document_of x) ≡ [] → ending_of t buffer ≡ by_records t buffer (dried_of t)
  at_records e = at-members ∙ rw (json-members t x, no-fault x e)

  at_size : Taken x → ending_of t buffer ≡ by_records t buffer (D.Fine (capped (length (table_for x))))
  at_size h = at_records h.sound_members ∙ rw (dried-fine x h.sound_members h.sound_records)

-- what is answered is what the reader finds
pub found : {t buffer : List ℕ} {r : JsonAnswer} {left : List ℕ} → JsonAnswered t buffer r left → ending_of t buffer ≡ record { answer = r; left = left }
found {t} {buffer} (no_text {p} f) = rw (one-fault t (fault_of t) (Some p) (json-first-fault t) f)
found {t} {buffer} (wrong_member {k} {p} x l) =
    at-members buffer x ∙ ap (by_members t buffer) (one-decision (length t) (faults (document_of x)) (members_of t) (C.Refused k p) (json-lowest t x) l)
found {t} {buffer} (wrong_record {k} {n} x e f) = at_records buffer x e ∙ rw (dried-refused x e k n f)
found {t} {buffer} (too_long x h a) = at_size buffer x h ∙ rw (capped-over (length (table_for x)) a)
found {t} {buffer} (no_room x h a b) =
    at_size buffer x h
    ∙ rw (capped_same (length (table_for x)) (omega arith), le-ltb 16384 (length (table_for x)) a, lt-ltb (length buffer) (length (table_for x)) b)
found {t} {buffer} (written x h a b) =
    at_size buffer x h
    ∙ rw (capped_same (length (table_for x)) (omega arith), le-ltb 16384 (length (table_for x)) a, le-ltb (length buffer) (length (table_for x)) b, poured x h.sound_members buffer h.sound_records a b)

-- some answer to a text and a buffer
pub record SomeAnswer (t buffer : List ℕ) : Type 0 where
  pub answer : JsonAnswer
  pub left : List ℕ
  pub answered : JsonAnswered t buffer answer left

-- that of a text, by one of its derivations
module _ {t : List ℕ} (buffer : List ℕ) (x : Text t) where
  some_size : Taken x → (p q : Bool) → ltb 16384 (length (table_for x)) ≡ p → ltb (length buffer) (length (table_for x)) ≡ q → SomeAnswer t buffer
  some_size h true q e f = record { answer = _; left = _; answered = too_long x h (ltb-true 16384 (length (table_for x)) e) }
  some_size h false true e f =
      record { answer = _; left = _; answered = no_room x h (ltb-false 16384 (length (table_for x)) e) (ltb-true (length buffer) (length (table_for x)) f) }
  some_size h false false e f =
      record { answer = _; left = _; answered = written x h (ltb-false 16384 (length (table_for x)) e) (ltb-false (length buffer) (length (table_for x)) f) }

  some-record : faults (document_of x) ≡ [] → (v : Verdict) → records_of (document_of x) ≡ v → SomeAnswer t buffer
  some-record e fine f =
      some_size (record { sound_members = e; sound_records = f }) (ltb 16384 (length (table_for x))) (ltb (length buffer) (length (table_for x))) refl refl
  some-record e (refused k n) f = record { answer = _; left = _; answered = wrong_record x e f }

  some-member : (r : Checked) → Decides (length t) (faults (document_of x)) r → SomeAnswer t buffer
  some-member C.Sound e = some-record e (records_of (document_of x)) refl
  some-member (C.Refused k p) l = record { answer = _; left = _; answered = wrong_member x l }

-- every text and buffer has an answer
pub some-answer : (t buffer : List ℕ) → SomeAnswer t buffer
some-answer t buffer = by (fault_of t) (json-first-fault t)
  where
    by : (g : Option ℕ) → Says t g → SomeAnswer t buffer
    by None x = some-member buffer x (members_of t) (json-lowest t x)
    by (Some p) f = record { answer = _; left = _; answered = no_text f }

-- what the reader finds is answered
pub answers : (t buffer : List ℕ) (r : JsonAnswer) (left : List ℕ) → Ends (ending_of t buffer) r left → JsonAnswered t buffer r left
answers t buffer r left e =
    let s = some-answer t buffer in
    let f = found s.answered in
    let a : s.answer ≡ r = ap (λ (o : Ending). o.answer) (sym f) ∙ sym e.answers in
    let b : s.left ≡ left = ap (λ (o : Ending). o.left) (sym f) ∙ sym e.leaves in
    subst (λ (l : List ℕ). JsonAnswered t buffer r l) b (subst (λ (q : JsonAnswer). JsonAnswered t buffer q s.left) a s.answered)

-- two answers to one text and buffer are one
pub one_answer : (t buffer : List ℕ) (r q : JsonAnswer) (left rest : List ℕ) → JsonAnswered t buffer r left → JsonAnswered t buffer q rest → (r ≡ q) × (left ≡ rest)
one_answer t buffer r q left rest x y =
    let e : ◌≡◌ {A = Ending} (record { answer = r; left = left }) (record { answer = q; left = rest }) = sym (found x) ∙ found y in
    (ap (λ (o : Ending). o.answer) e, ap (λ (o : Ending). o.left) e)
