-- What the reader of members answers.
use Rattle.std.specs.Prelude.{ℕ, Result, Ok, Err}
use Rattle.refusals.specs.Numbers.{number_of}
use Rattle.refusals.specs.declared.Refusal.{Refusal}

-- no fault; or 21 or 22, and its place
pub data Checked : Type 0 where
  Sound : Checked
  Refused : ℕ → ℕ → Checked

-- as code says it
abbrev pub as_checked : Result (Unit {0}) Refusal → Checked
as_checked (Ok u) = Sound
as_checked (Err e) = Refused (number_of e.reason) e.place
