-- What the stored form promises, in statements that can be read without their proofs. `reading` is what the reader answers, `writing`
-- what the writer answers, `Writes` says that a writer takes entries one after the other, `encode` lays their records one behind the
-- other, `entries_of` walks the records of a byte string, and `rows_of` has the statements that they make.
use Rattle.std.proofs.Common.{ℕ, ◌≤◌, ◌<◌, ◌≡◌, sym, ◌∙◌, ap, true, List, [], ◌∷◌, ◌++◌, ◌⊎◌, ◌↔◌, eqb, length, take, drop}
use Rattle.stored.specs.Choice.{pick, In}
use Rattle.stored.specs.Machine.{is_ended, due_of}
use Rattle.stored.specs.Reading.{ReadAnswer as A, reading}
use Rattle.stored.specs.Writing.{WriteAnswer as W, fresh_writer, record_of, writing}
use Rattle.stored.specs.Entries.{Entry, item_of, bytes_of, encode, entries_of, Bytes, AllFit, HasRecord, Writes}
use Rattle.stored.specs.Entries.Entry.{end}
use Rattle.stored.specs.Tables.{Statement, rows_of}
use Rattle.stored.specs.Form.{entries_for, WellFormed, SoundStatement}
use Rattle.stored.specs.declared.items.Item.{Item}
use Rattle.stored.specs.declared.items.Item.TheVariants as I
use Rattle.stored.specs.declared.records.Kind.TheVariants as K
use Rattle.stored.specs.declared.writer.Writer.{Writer}
use Rattle.stored.proofs.Accepting
use Rattle.stored.proofs.Steps
use Rattle.stored.proofs.Statements
use Rattle.stored.proofs.EntriesFor
use Rattle.stored.proofs.SoundValues
use Rattle.stored.proofs.Numbers
use Rattle.stored.proofs.RoundTrip
use Rattle.stored.proofs.SameRefusal
use Rattle.stored.proofs.FormReads

-- Demand 2, "a written table reads back as the same items" (RULES 3.4). Entries accepted one after the other by a fresh writer, the table
-- at its end, read back as the same entries (`AllFit`: addresses have 32 bits).
pub read-write : (es : List Entry) (buffer : List ℕ) (last : Writer) (left : List ℕ)
    → Writes fresh_writer buffer es last left → AllFit es → is_ended last.state.phase ≡ true
    → (reading (take last.at left) ≡ A.Accepted last.state.rows) × (entries_of (take last.at left) ≡ es)
read-write = RoundTrip.read-write

-- The table is at its end where the last of the entries is end.
pub end-ends : (es : List Entry) (buffer : List ℕ) (last : Writer) (left : List ℕ)
    → Writes fresh_writer buffer (es ++ (end ∷ [])) last left → is_ended last.state.phase ≡ true
end-ends es buffer last left = RoundTrip.ends es fresh_writer buffer last left

-- Demand 1, "a table past a limit is refused whole, never shortened" (RULES 2.2). A table that reads is the records of its entries, one
-- behind the other, and nothing else.
pub accepted-whole : (table : List ℕ) (n : ℕ) → Bytes table → reading table ≡ A.Accepted n → encode (entries_of table) ≡ table
accepted-whole = RoundTrip.accepted-whole

-- RULES 2.3. A table that reads as one of n statements has n, at most 32, and each has principal, action and resource in this order, each
-- with one value or more, 0 to 4 conditions, each with one value or more, and at most 64 values and networks together.
pub three-elements : (table : List ℕ) (n : ℕ) → reading table ≡ A.Accepted n
    → (length (rows_of table) ≡ n) × (n ≤ 32) × ((s : Statement) → In s (rows_of table) → WellFormed s)
three-elements table n e = (
  sym (Accepting.counted table n e),
  rw (Accepting.counted table n e) (Accepting.few table n e),
  Statements.well_formed table n e,
)

-- RULES 2.4 to 2.6. What 6, 7 and 8 refuse stands in no table that reads: its elements list texts of 1 to 128 bytes, a principal is `*`
-- alone or has neither `*` nor `?`, and its conditions list what their key holds.
pub sound-values : (table : List ℕ) (n : ℕ) → reading table ≡ A.Accepted n → (s : Statement) → In s (rows_of table) → SoundStatement s
sound-values = SoundValues.sound

-- Demand 2, "a table that reads is written again as the same bytes" (RULES 3.4). It is `encode` of its entries, and a fresh writer given
-- them writes just those bytes, into any buffer that has room for them, and changes no other byte.
pub write_read : (table : List ℕ) (n : ℕ) → Bytes table → reading table ≡ A.Accepted n
    → (buffer : List ℕ) → length table ≤ length buffer
    → (last : Writer) × (left : List ℕ) × Writes fresh_writer buffer (entries_of table) last left
    × (last.at ≡ length table) × (take (length table) left ≡ table) × (drop (length table) left ≡ drop (length table) buffer)
write_read = RoundTrip.write_read

-- One list of entries, one byte string: two tables that read with the same entries are the same bytes.
pub one-string : (first second : List ℕ) (m n : ℕ) → Bytes first → Bytes second
    → reading first ≡ A.Accepted m → reading second ≡ A.Accepted n → entries_of first ≡ entries_of second → first ≡ second
one-string first second m n b c e f same = sym (accepted-whole first m b e) ∙ ap encode same ∙ accepted-whole second n c f

-- A table that reads is the records of what its statements stand for: their number, the statements, the end.
pub whole-rows : (table : List ℕ) (n : ℕ) → Bytes table → reading table ≡ A.Accepted n → encode (entries_for (rows_of table)) ≡ table
whole-rows table n b e = ap encode (sym (EntriesFor.stands-for table n e)) ∙ accepted-whole table n b e

-- Nothing of a table is lost in its statements: two tables that read with the same statements are the same bytes.
pub nothing-lost : (first second : List ℕ) (m n : ℕ) → Bytes first → Bytes second
    → reading first ≡ A.Accepted m → reading second ≡ A.Accepted n → rows_of first ≡ rows_of second → first ≡ second
nothing-lost first second m n b c e f same =
    sym (whole-rows first m b e) ∙ ap (λ (rows : List Statement). encode (entries_for rows)) same ∙ whole-rows second n c f

-- And no table is refused that is as the stored form has it: at most 32 statements of the shape and with the values that `three-elements`
-- and `sound-values` say, in at most 16,384 bytes, read, and are the statements of what is read (`AllFit`: addresses have 32 bits).
pub form-reads : (rows : List Statement) → length rows ≤ 32 → ((s : Statement) → In s rows → WellFormed s × SoundStatement s)
    → AllFit (entries_for rows) → length (encode (entries_for rows)) ≤ 16384
    → (reading (encode (entries_for rows)) ≡ A.Accepted (length rows)) × (rows_of (encode (entries_for rows)) ≡ rows)
form-reads = FormReads.form-reads

-- Demand 1, "each refusal says where" (RULES 7.1). A refusal of the reader has a number from 1 to 8 and a place of at most 16,384.
pub refused-where : (table : List ℕ) (number place : ℕ) → reading table ≡ A.Refused number place
    → (0 < number) × (number ≤ 8) × (place ≤ 16384)
refused-where = Numbers.refused-where

-- 1 is given for a table over 16,384 bytes, at 16,384.
pub refused-long : (table : List ℕ) → 16384 < length table → reading table ≡ A.Refused 1 16384
refused-long = Steps.too_long

-- The refusal of any other table is 2 at a record or at the length, or 3 to 8 at a record: the place of a record is below the length.
pub refused-short : (table : List ℕ) (number place : ℕ) → length table ≤ 16384 → reading table ≡ A.Refused number place
    → (2 ≤ number) × (number ≤ 8) × (place ≤ length table) × (2 < number → place < length table)
refused-short table number place short e =
    let r = Numbers.refused-inside table number place short e in
    (r.low, r.high, r.inside, r.at_record)

-- RULES 7.2. A writer's refusal is 4 to 8 at the bytes written so far, 1 at 16,384, or 14 at 0. (An item has no unknown code, and no record
-- is cut.)
pub writer-numbers : (w : Writer) (item : Item) (bytes : List ℕ) (room number place : ℕ) → writing w item bytes room ≡ W.Refused number place
    → ((4 ≤ number) × (number ≤ 8) × (place ≡ w.at)) ⊎ (((number ≡ 1) × (place ≡ 16384)) ⊎ ((number ≡ 14) × (place ≡ 0)))
writer-numbers = Numbers.writer-numbers

-- What a writer that was started fresh has written so far is the records of the entries that it took, from the buffer's first byte on, and
-- no other byte of the buffer has changed.
pub written-so-far : (es : List Entry) (buffer : List ℕ) (w : Writer) (left : List ℕ) → Writes fresh_writer buffer es w left
    → (w.at ≡ length (encode es)) × (take w.at left ≡ encode es) × (drop w.at left ≡ drop w.at buffer)
written-so-far = RoundTrip.so_far

-- Behind these it refuses an entry with a number up to 8 where the reader, given the bytes written so far, the entry's record and whatever
-- follows, refuses that record with that number, and nowhere else. (8 is the reader's last number; the whole is at most 16,384 bytes.)
pub writer-as-reader : (es : List Entry) (buffer : List ℕ) (w : Writer) (left : List ℕ) → Writes fresh_writer buffer es w left → AllFit es
    → (e : Entry) → HasRecord e → (room : ℕ) (rest : List ℕ)
    → length (encode es ++ (record_of (item_of e) (bytes_of e) ++ rest)) ≤ 16384 → (number : ℕ) → number ≤ 8
    → (writing w (item_of e) (bytes_of e) room ≡ W.Refused number w.at)
    ↔ (reading (encode es ++ (record_of (item_of e) (bytes_of e) ++ rest)) ≡ A.Refused number w.at)
writer-as-reader = SameRefusal.writer-as-reader

-- 6 is given to the writer also for a value of no bytes or over 128, which has no record: it is refused with the number that its kind alone
-- decides there, `due_of`, and with 6 where that is none.
pub writer-no-record : (w : Writer) (bytes : List ℕ) (room : ℕ) → (length bytes ≡ 0) ⊎ (128 < length bytes)
    → writing w I.Value bytes room
    ≡ W.Refused (pick (eqb (due_of w.state (K.Value (length bytes))) 0) 6 (due_of w.state (K.Value (length bytes)))) w.at
writer-no-record = SameRefusal.no_record
