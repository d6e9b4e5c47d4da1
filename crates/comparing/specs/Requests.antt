-- The requests that comparing speaks of: eight columns, each with an admitted value (RULES 1).
use Rattle.std.specs.Prelude.{ℕ, suc, ◌<◌, ◌^◌, ◌≡◌, true, List, [], ◌∷◌, ltb, length}
use Rattle.stored.specs.Choice.{pick}
use Rattle.stored.specs.Values.{in_range}
use Rattle.judging.specs.Requests.{Value, absent, text, number, columns}

-- columns 0 to 2 hold one byte or more
abbrev pub AdmitsNeeded : Value → Type 0
AdmitsNeeded absent = ⊥
AdmitsNeeded (text s) = (0 < length s) × (in_range s ≡ true)
AdmitsNeeded (number n) = ⊥

-- columns 3 to 6 are absent, or present with zero bytes or more
abbrev pub AdmitsOptional : Value → Type 0
AdmitsOptional absent = Unit {0}
AdmitsOptional (text s) = in_range s ≡ true
AdmitsOptional (number n) = ⊥

-- column 7 is absent or a 32-bit number
abbrev pub AdmitsAddress : Value → Type 0
AdmitsAddress absent = Unit {0}
AdmitsAddress (text s) = ⊥
AdmitsAddress (number n) = n < 2 ^ 32

-- the values that a column of a request can hold
abbrev pub Admitted : ℕ → Value → Type 0
Admitted column v = pick (ltb column 3) (AdmitsNeeded v) (pick (ltb column 7) (AdmitsOptional v) (AdmitsAddress v))

-- a property of each column of a request, from a column on; there are eight
abbrev pub Each : (ℕ → Value → Type 0) → ℕ → List Value → Type 0
Each P column [] = column ≡ columns
Each P column (v ∷ request) = P column v × Each P (suc column) request

-- a request
abbrev pub IsRequest : List Value → Type 0
IsRequest request = Each Admitted 0 request
