-- A request: eight columns, 0 principal, 1 action, 2 resource, 3 to 6 the string keys, 7 the address (RULES 1).
use Rattle.std.specs.Prelude.{ℕ, suc, Bool, true, false, not, ◌&&◌, ◌||◌, List, [], ◌∷◌, Option, Some, None, eqb, ltb, length, get_or}
use Rattle.std.specs.Borrow.{Bor}
use Rattle.stored.specs.Choice.{pick}
use Rattle.stored.specs.Values.{in_range}
use Rattle.judging.specs.declared.request.Value as Held
use Rattle.judging.specs.declared.request.Value.TheVariants as V
use Rattle.judging.specs.declared.request.Request.{Request}

-- what a column of a request holds
pub data Value : Type 0 where
  absent : Value
  text : List ℕ → Value
  number : ℕ → Value

abbrev pub is_present : Value → Bool
is_present absent = false
is_present (text s) = true
is_present (number n) = true

-- what the code's value says
abbrev pub value_of : Held.Value → Value
value_of V.Absent = absent
value_of (V.Text s) = text s.now
value_of (V.Number n) = number n

-- the number of columns, which is also a column that no list speaks of
abbrev pub columns : ℕ
columns = 8

-- a column of a request
abbrev pub column_of : List Value → ℕ → Value
column_of request column = get_or request column absent

-- a string key, which is there or not
abbrev pub key_value : Bool → List ℕ → Value
key_value here s = pick here (text s) absent

-- which of columns 3 to 7 are there
pub record Present : Type 0 where
  pub vpc : Bool
  pub prefix : Bool
  pub vpce : Bool
  pub referer : Bool
  pub address : Bool

-- the request with these columns; the bytes and the number of an absent key are not looked at
abbrev pub request_of : List ℕ → List ℕ → List ℕ → Present → List ℕ → List ℕ → List ℕ → List ℕ → ℕ → List Value
request_of principal action resource present vpc prefix vpce referer address =
    text principal
    ∷ text action
    ∷ text resource
    ∷ key_value present.vpc vpc
    ∷ key_value present.prefix prefix
    ∷ key_value present.vpce vpce
    ∷ key_value present.referer referer
    ∷ pick present.address (number address) absent
    ∷ []

-- a key of the code's request, and its address
abbrev pub key_of : Option (Bor (List ℕ)) → Value
key_of None = absent
key_of (Some s) = text s.now

abbrev pub address_of : Option ℕ → Value
address_of None = absent
address_of (Some a) = number a

-- the columns of the code's request
abbrev pub columns_of : Request → List Value
columns_of r =
    text r.principal.now
    ∷ text r.action.now
    ∷ text r.resource.now
    ∷ key_of r.vpc
    ∷ key_of r.prefix
    ∷ key_of r.vpce
    ∷ key_of r.referer
    ∷ address_of r.address
    ∷ []

-- columns 0 to 2 hold one byte or more; string bytes lie in 21 to 7E hex
abbrev pub is_faulty : ℕ → Value → Bool
is_faulty column absent = ltb column 3
is_faulty column (text s) = (ltb column 3 && eqb (length s) 0) || not (in_range s)
is_faulty column (number n) = ltb column 3

-- the lowest faulty column from a column on, or the number of columns
abbrev pub first_fault : ℕ → List Value → ℕ
first_fault column [] = column
first_fault column (v ∷ request) = pick (is_faulty column v) column (first_fault (suc column) request)
