-- All wishes of a text: the dry run through the state machine, and the run that writes.
use Rattle.std.specs.Prelude.{ℕ, ◌+◌, ◌-◌, List, [], ◌∷◌, ltb, length, Result, Ok, Err}
use Rattle.std.proofs.lemmas.List.Edits.{sets}
use Rattle.json_text.specs.Choice.{pick}
use Rattle.json_text.specs.Machinery.Tokens.{tokens_of}
use Rattle.stored.specs.Machine.{fresh_state}
use Rattle.refusals.specs.declared.Refusal.{Refusal}
use Rattle.refusals.specs.Numbers.{number_of}
use Rattle.stored.specs.Writing.{WriteAnswer as W, WriteAnswer, fresh_writer}
use Rattle.stored.specs.declared.machine.State.{State}
use Rattle.stored.specs.declared.writer.Writer.{Writer}
use Rattle.members.specs.Members.{Verdict}
use Rattle.members.specs.Members.Verdict.{fine, refused}
use Rattle.records.specs.Wishes.{Wish}
use Rattle.records.specs.Records.{running, size_of}
use Rattle.records.specs.Machinery.Streams.{document_from}
use Rattle.policy.specs.Machinery.Asking.{wish_record, wish_writing}

-- what a dry run answers: the bytes that the records would take, or the number of the first refusal and its place
pub data Dried : Type 0 where
  Fine : ℕ → Dried
  Refused : ℕ → ℕ → Dried

-- as the code says it
abbrev pub as_dried : Result ℕ Refusal → Dried
as_dried (Ok size) = Fine size
as_dried (Err e) = Dried.Refused (number_of e.reason) e.place

-- the wishes of a text
unfoldable pub wishes_of : List ℕ → List Wish
wishes_of t = document_from (tokens_of t)

-- how far over 16,384 a sum is need not be told
abbrev pub capped : ℕ → ℕ
capped n = pick (ltb 16384 n) 16385 n

-- the answer of a dry run over a text of so many bytes, whose records take so many
abbrev pub dried : ℕ → ℕ → Verdict → Dried
dried size total fine = Fine (capped total)
dried size total (refused k left) = Dried.Refused k (size - left)

-- from a state on, with so many bytes before
unfoldable pub dried_from : List ℕ → List Wish → State → ℕ → Dried
dried_from t ws s before = dried (length t) (before + size_of ws) (running ws s)

unfoldable pub dried_of : List ℕ → Dried
dried_of t = dried_from t (wishes_of t) fresh_state 0

-- the bytes written, and the buffer
pub record Poured : Type 0 where
  pub size : ℕ
  pub left : List ℕ

abbrev pub after_writing : (Writer → Poured) → Poured → WriteAnswer → Poured
after_writing go here (W.Added w) = go w
after_writing go here (W.Refused k p) = here

abbrev pub pouring : List Wish → Writer → List ℕ → Poured
pouring [] w buffer = record { size = w.at; left = buffer }
pouring (x ∷ ws) w buffer =
    after_writing (λ next. pouring ws next (sets buffer w.at (wish_record x))) (record { size = w.at; left = buffer }) (wish_writing w x (length buffer))

unfoldable pub poured_of : List ℕ → List ℕ → Poured
poured_of t buffer = pouring (wishes_of t) fresh_writer buffer
