-- What the functions that show a gap promise each other: in each column the first value that has the gap's footprint, laid down in its
-- place in the value buffer.
use Rattle.std.specs.Prelude.{ℕ, suc, ◌*◌, ◌≤◌, ◌<◌, ◌≡◌, List, [], ◌∷◌, ◌++◌, Option, Some, None, is_some, unwrap_or, ltb, length, drop}
use Rattle.std.proofs.lemmas.List.Edits.{sets}
use Rattle.stored.specs.Choice.{pick}
use Rattle.stored.specs.Tables.{Statement}
use Rattle.judging.specs.Requests.{Value, text, is_present, columns}
use Rattle.states.specs.Machinery.Search.{string_of}
use Rattle.columns.specs.Values.{values_in, sum_of}
use Rattle.comparing.specs.Requests.{Each}
use Rattle.comparing.specs.Gaps.{FirstOf}
use Rattle.comparing.specs.Compared.{value_bytes, value_room, bytes_in, address_in, laid, first_long, shape_of}
use Rattle.comparing.specs.Machinery.Product.{print_of}
use Rattle.comparing.specs.Answers.{as_shape}
use Rattle.comparing.specs.declared.answers.Shape.{Shape as Told}

-- v is the first value of a column that has a footprint
pub record FirstWith (first second : List Statement) (column print : ℕ) (v : Value) : Type 0 where
  pub least : FirstOf first second column v
  pub printed : print_of first second column v ≡ print

-- the states that show values of a column: all but that of the empty string in columns 0 to 2, where there is a listed value
abbrev pub StartsAt : List Statement → ℕ → ℕ → Type 0
StartsAt rows column from = pick (ltb column 3) ((from ≡ 1) × (0 < sum_of (values_in column rows))) (from ≡ 0)

-- i is the lowest of the states from one on whose string has a footprint
pub record LowestState (first second : List Statement) (column : ℕ) (words : List ℕ) (from states print i : ℕ) : Type 0 where
  pub low : from ≤ i
  pub high : i < states
  pub here : print_of first second column (text (string_of words i)) ≡ print
  pub before : (j : ℕ) → from ≤ j → j < i → print_of first second column (text (string_of words j)) ≡ print → ⊥

-- the lowest state that was found, or that there is none
abbrev pub FoundState : List Statement → List Statement → ℕ → List ℕ → ℕ → ℕ → ℕ → Option ℕ → Type 0
FoundState first second column words from states print (Some i) = LowestState first second column words from states print i
FoundState first second column words from states print None =
    (j : ℕ) → from ≤ j → j < states → print_of first second column (text (string_of words j)) ≡ print → ⊥

-- a value was laid down in its 512 bytes
pub record LaidValue (column : ℕ) (before after : List ℕ) (r : Option ℕ) (v : Value) : Type 0 where
  pub bytes : after ≡ sets before (column * value_room) (bytes_in v)
  pub there : is_some r ≡ is_present v
  pub size : unwrap_or r 0 ≡ length (bytes_in v)
  pub short : length (bytes_in v) ≤ value_room

-- the first value that has a footprint was laid down
abbrev pub Lays : List Statement → List Statement → ℕ → ℕ → List ℕ → List ℕ → Option ℕ → Type 0
Lays first second column print before after r = (v : Value) → FirstWith first second column print v → LaidValue column before after r v

-- and so was the first string
abbrev pub LaysString : List Statement → List Statement → ℕ → ℕ → List ℕ → List ℕ → Option ℕ → Type 0
LaysString first second column print before after r =
    (s : List ℕ) → FirstWith first second column print (text s) → LaidValue column before after r (text s)

-- the first value of column 7 that has a footprint
abbrev pub ShowsAddress : List Statement → List Statement → ℕ → Option ℕ → Type 0
ShowsAddress first second print r =
    (v : Value) → FirstWith first second 7 print v → (is_some r ≡ is_present v) × (unwrap_or r 0 ≡ address_in v)

-- no address below x has a footprint
abbrev pub NoneBelow : List Statement → List Statement → ℕ → ℕ → Type 0
NoneBelow first second print x = (m : ℕ) → m < x → print_of first second 7 (Value.number m) ≡ print → ⊥

-- the footprint of each column of a request, from a column on
abbrev pub prints_of : List Statement → List Statement → ℕ → List Value → List ℕ
prints_of first second column [] = []
prints_of first second column (v ∷ request) = print_of first second column v ∷ prints_of first second (suc column) request

-- a request of first values with these footprints
pub record RequestWith (first second : List Statement) (prints : List ℕ) (request : List Value) : Type 0 where
  pub firsts : Each (FirstOf first second) 0 request
  pub printed : prints ≡ prints_of first second 0 request

-- its values were laid over the first 3,584 bytes, and none was too long
pub record LaidGap (before after : List ℕ) (r : Told) (request : List Value) : Type 0 where
  pub shape : as_shape r ≡ shape_of request
  pub bytes : after ≡ laid 7 request ++ drop value_bytes before
  pub short : first_long 0 request ≡ columns

abbrev pub LaysGap : List Statement → List Statement → List ℕ → List ℕ → List ℕ → Told → Type 0
LaysGap first second prints before after r = (request : List Value) → RequestWith first second prints request → LaidGap before after r request
