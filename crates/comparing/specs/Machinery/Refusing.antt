-- What the functions that both questions begin with say of a refusal: the definition of what may be answered, with no other answer.
use Rattle.std.specs.Prelude.{ℕ, List}
use Rattle.stored.specs.Reading.{reading}
use Rattle.stored.specs.Tables.{Statement}
use Rattle.judging.specs.Judging.{rows_of}
use Rattle.comparing.specs.Answers.{Counting, Counting as C}
use Rattle.comparing.specs.Compared.{FromStates, FromWidths, FromTables}

-- no answer but a refusal
abbrev pub NoAnswer : List Statement → List Statement → Counting → Type 0
NoAnswer first second r = ⊥

-- 11 or 12
abbrev pub RefusesStates : List Statement → List Statement → Counting → Type 0
RefusesStates first second r = FromStates C.Refused NoAnswer first second r

-- 10 and those behind it
abbrev pub RefusesWidths : List Statement → List Statement → Counting → Type 0
RefusesWidths first second r = FromWidths C.Refused NoAnswer first second r

-- all but 14 and 13
abbrev pub RefusesTables : List ℕ → List ℕ → Counting → Type 0
RefusesTables a b r = FromTables C.Refused NoAnswer (reading a) (reading b) (rows_of a) (rows_of b) r
