-- The answer and the buffer, as the reader finds them.
use Rattle.std.specs.Prelude.{ℕ, ◌≡◌, List, Option, Some, None, ltb, length}
use Rattle.json_text.specs.Choice.{pick}
use Rattle.json_text.specs.Machinery.Reading.{fault_of}
use Rattle.members.specs.Machinery.Levels.{members_of}
use Rattle.members.specs.Answers.{Checked as C, Checked}
use Rattle.policy.specs.Answers.{JsonAnswer as A, JsonAnswer}
use Rattle.policy.specs.Machinery.Runs.{Dried as D, Dried, dried_of, poured_of}

pub record Ending : Type 0 where
  pub answer : JsonAnswer
  pub left : List ℕ

-- an answer and a buffer are those of an ending
pub record Ends (o : Ending) (r : JsonAnswer) (left : List ℕ) : Type 0 where
  pub answers : r ≡ o.answer
  pub leaves : left ≡ o.left

abbrev pub refusing : ℕ → ℕ → List ℕ → Ending
refusing k p buffer = record { answer = A.Refused k p; left = buffer }

abbrev pub by_records : List ℕ → List ℕ → Dried → Ending
by_records t buffer (D.Fine size) =
    pick (ltb 16384 size) (refusing 1 16384 buffer)
    (pick (ltb (length buffer) size) (refusing 14 0 buffer) (record { answer = A.Written (poured_of t buffer).size; left = (poured_of t buffer).left }))
by_records t buffer (D.Refused k p) = refusing k p buffer

abbrev pub by_members : List ℕ → List ℕ → Checked → Ending
by_members t buffer C.Sound = by_records t buffer (dried_of t)
by_members t buffer (C.Refused k p) = refusing k p buffer

abbrev pub by_fault : List ℕ → List ℕ → Option ℕ → Ending
by_fault t buffer None = by_members t buffer (members_of t)
by_fault t buffer (Some p) = refusing 20 p buffer

abbrev pub ending_of : List ℕ → List ℕ → Ending
ending_of t buffer = by_fault t buffer (fault_of t)
