-- What is answered for a text and a buffer, and what the buffer then holds.
use Rattle.std.specs.Prelude.{ℕ, ◌-◌, ◌≤◌, ◌<◌, ◌≡◌, List, [], ◌++◌, length, drop, Result, Ok, Err}
use Rattle.json_text.specs.Grammar.{Text, FirstFault}
use Rattle.json_text.specs.Trees.{Tree, tree_of}
use Rattle.json_text.specs.Trees.Shape.{one}
use Rattle.stored.specs.Entries.{encode}
use Rattle.stored.specs.Form.{entries_for}
use Rattle.members.specs.Members.Verdict.{fine, refused}
use Rattle.members.specs.Faults.{faults, Lowest}
use Rattle.records.specs.Documents.{statements_of}
use Rattle.records.specs.Records.{records_of}
use Rattle.refusals.specs.declared.Refusal.{Refusal}
use Rattle.refusals.specs.Numbers.{number_of}

-- the bytes written, or the number of the refusal and its place
pub data JsonAnswer : Type 0 where
  Written : ℕ → JsonAnswer
  Refused : ℕ → ℕ → JsonAnswer

-- what the code answers
abbrev pub as_json : Result ℕ Refusal → JsonAnswer
as_json (Ok n) = Written n
as_json (Err e) = Refused (number_of e.reason) e.place

-- the document that a text is
abbrev pub document_of : {t : List ℕ} → Text t → Tree one
document_of x = tree_of x.value_first

-- the table of the statements that it says
abbrev pub table_for : {t : List ℕ} → Text t → List ℕ
table_for x = encode (entries_for (statements_of (document_of x)))

-- a document with no 21 or 22, and of whose records none is refused
pub record Taken {t : List ℕ} (x : Text t) : Type 0 where
  pub sound_members : faults (document_of x) ≡ []
  pub sound_records : records_of (document_of x) ≡ fine

-- Places are counted from the text's first byte; those of records are said as the bytes left there.
pub data JsonAnswered (t buffer : List ℕ) : JsonAnswer → List ℕ → Type 0 where
  -- the text is not JSON
  no_text : {p : ℕ} → FirstFault t p → JsonAnswered t buffer (Refused 20 p) buffer
  -- 21 and 22: the fault with the lowest place
  wrong_member : {k p : ℕ} (x : Text t) → Lowest (length t) (faults (document_of x)) k p → JsonAnswered t buffer (Refused k p) buffer
  -- 3 to 8: the first record that is refused
  wrong_record : {k n : ℕ} (x : Text t) → faults (document_of x) ≡ [] → records_of (document_of x) ≡ refused k n
      → JsonAnswered t buffer (Refused k (length t - n)) buffer
  -- the table would be over 16,384 bytes
  too_long : (x : Text t) → Taken x → 16384 < length (table_for x) → JsonAnswered t buffer (Refused 1 16384) buffer
  -- the buffer is shorter than the table
  no_room : (x : Text t) → Taken x → length (table_for x) ≤ 16384 → length buffer < length (table_for x) → JsonAnswered t buffer (Refused 14 0) buffer
  -- the buffer holds the table, and behind it what it held
  written : (x : Text t) → Taken x → length (table_for x) ≤ 16384 → length (table_for x) ≤ length buffer
      → JsonAnswered t buffer (Written (length (table_for x))) (table_for x ++ drop (length (table_for x)) buffer)
