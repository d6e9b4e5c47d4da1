-- Where the walk over a document's tokens stands, in numbers, and what a token leads to; how code says both.
use Rattle.std.specs.Prelude.{ℕ, suc, ◌≡◌, Bool, true, false, Result, Ok, Err}
use Rattle.refusals.specs.Numbers.{number_of}
use Rattle.refusals.specs.declared.Reason.{Reason}
use Rattle.refusals.specs.declared.Reason.TheVariants as Reasons
use Rattle.members.specs.Names.{kind_in, index_of_top, index_of_row}
use Rattle.members.specs.Machinery.Verdicts.{is_bad, add}
use Rattle.members.specs.declared.marks.Marks.{Marks}
use Rattle.members.specs.declared.state.Level as CodeLevel
use Rattle.members.specs.declared.state.Level.TheVariants as L
use Rattle.members.specs.declared.state.State as CodeState

-- before the document and behind it; in the document, in its list of statements, in a statement, and so on
pub data Level : Type 0 where
  Outside : Level
  Top : Level
  Rows : Level
  Row : Level
  RowStrings : Level
  Principals : Level
  PrincipalStrings : Level
  Operators : Level
  Keys : Level
  KeyStrings : Level

-- a level, the member of a document or statement whose value is due (0: none), what was met at each level as the bits of a number, and
-- whether the statement stands in a list
pub record State : Type 0 where
  pub level : Level
  pub due : ℕ
  pub top : ℕ
  pub row : ℕ
  pub principals : ℕ
  pub operators : ℕ
  pub keys : ℕ
  pub listed : Bool

-- on to a state, or 21 or 22
pub data Turn : Type 0 where
  Next : State → Turn
  Refused : ℕ → Turn

-- how code says a state: the level has the member that is due
abbrev pub level_of : CodeLevel.Level → Level
level_of L.Outside = Outside
level_of (L.Top due) = Top
level_of L.Rows = Rows
level_of (L.Row due) = Row
level_of L.RowStrings = RowStrings
level_of L.Principals = Principals
level_of L.PrincipalStrings = PrincipalStrings
level_of L.Operators = Operators
level_of L.Keys = Keys
level_of L.KeyStrings = KeyStrings

abbrev pub due_of : CodeLevel.Level → ℕ
due_of L.Outside = 0
due_of (L.Top due) = kind_in index_of_top due
due_of L.Rows = 0
due_of (L.Row due) = kind_in index_of_row due
due_of L.RowStrings = 0
due_of L.Principals = 0
due_of L.PrincipalStrings = 0
due_of L.Operators = 0
due_of L.Keys = 0
due_of L.KeyStrings = 0

-- a state of code as it would be at a level
abbrev pub standing : CodeLevel.Level → CodeState.State → State
standing level s =
    record {
      level = level_of level;
      due = due_of level;
      top = s.top.bits;
      row = s.row.bits;
      principals = s.principals.bits;
      operators = s.operators.bits;
      keys = s.keys.bits;
      listed = s.listed;
    }

abbrev pub state_of : CodeState.State → State
state_of s = standing s.level s

abbrev pub as_turn : Result CodeState.State Reason → Turn
as_turn (Ok s) = Next (state_of s)
as_turn (Err reason) = Refused (number_of reason)

-- a name of a kind is met: it is one of those there are, not met before, and its mark is added; or 21
pub record IsMet {N : Type 0} (index : N → ℕ) (slot_of : ℕ → ℕ) (kind seen : ℕ) (name : N) (marks : Marks) : Type 0 where
  pub sound : is_bad kind (slot_of kind) seen ≡ false
  pub named : kind ≡ suc (index name)
  pub marked : marks.bits ≡ add seen (slot_of kind)

pub record IsBad (slot_of : ℕ → ℕ) (kind seen : ℕ) (reason : Reason) : Type 0 where
  pub bad : is_bad kind (slot_of kind) seen ≡ true
  pub number : reason ≡ Reasons.WrongName

abbrev pub Meets : {N : Type 0} → (N → ℕ) → (ℕ → ℕ) → ℕ → ℕ → Result (N × Marks) Reason → Type 0
Meets index slot_of kind seen (Ok (name, marks)) = IsMet index slot_of kind seen name marks
Meets index slot_of kind seen (Err reason) = IsBad slot_of kind seen reason
