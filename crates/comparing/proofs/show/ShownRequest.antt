-- An answer for a gap and the value buffer give the gap's request back: each value stands in its 512 bytes, and the answer says which
-- are there.
use Rattle.std.proofs.Common.{ℕ, zero, suc, ◌+◌, ◌-◌, ◌*◌, ◌≤◌, ◌<◌, ◌≡◌, refl, sym, ◌∙◌, ap, ap₂, Bool, true, false, List, [], ◌∷◌, ◌++◌, append_assoc, arith, ltb, length, take, drop, replicate, length-append, take_at, drop_at, drop-drop, ltb-false}
use Rattle.std.proofs.Math.ListN.{length-replicate}
use Rattle.std.proofs.Math.Seq.{take-append_seam}
use Rattle.stored.specs.Choice.{pick}
use Rattle.judging.specs.Requests.{Value, absent, text, number, is_present, columns, column_of, key_value}
use Rattle.comparing.specs.Requests.{AdmitsNeeded, AdmitsOptional, AdmitsAddress, Admitted, Each}
use Rattle.comparing.specs.Compared.{value_room, bytes_in, address_in, padded, laid, first_long, shape_of, shown_bytes, request_shown}
use Rattle.comparing.proofs.Eight.{of-eight}

-- a value and the zeros behind it fill its room
room : (s : List ℕ) → length s ≤ value_room → length (padded s) ≡ 512
room s h =
    length-append s (replicate (value_room - length s) 0)
    ∙ ap (λ (n : ℕ). length s + n) (length-replicate (value_room - length s) 0)
    ∙ omega arith

-- no value is longer than its room
abbrev pub AllShort : List Value → Type 0
AllShort [] = Unit {0}
AllShort (v ∷ request) = (length (bytes_in v) ≤ value_room) × AllShort request

pub all_short : (column : ℕ) (request : List Value) → column + length request ≡ columns → first_long column request ≡ columns → AllShort request
all_short column [] size e = tt
all_short column (v ∷ request) size e =
    by-test (ltb value_room (length (bytes_in v))) refl e (all_short (suc column) request (omega arith))
  where
    by-test : (b : Bool) → ltb value_room (length (bytes_in v)) ≡ b → pick b column (first_long (suc column) request) ≡ columns
        → (first_long (suc column) request ≡ columns → AllShort request) → AllShort (v ∷ request)
    by-test true t e go = absurd (omega arith)
    by-test false t e go = (ltb-false value_room (length (bytes_in v)) t, go e)

-- no column is longer than its room
pub column-short : (request : List Value) → AllShort request → (column : ℕ) → length (bytes_in (column_of request column)) ≤ value_room
column-short [] short column = omega arith
column-short (v ∷ request) short zero = short.0
column-short (v ∷ request) short (suc column) = column-short request short.1 column

-- a value stands in its 512 bytes, with the zeros behind it
pub stands : (column n : ℕ) (request : List Value) (rest : List ℕ) → column < n → n ≤ length request
    → ((c : ℕ) → length (bytes_in (column_of request c)) ≤ value_room)
    → take value_room (drop (column * value_room) (laid n request ++ rest)) ≡ padded (bytes_in (column_of request column))
stands column zero request rest low many short = absurd (omega arith)
stands column (suc n) [] rest low many short = absurd (omega arith)
stands zero (suc n) (v ∷ request) rest low many short =
    rw (append_assoc (padded (bytes_in v)) (laid n request) rest)
    (take_at (padded (bytes_in v)) (laid n request ++ rest) 512 (room (bytes_in v) (short 0)))
stands (suc column) (suc n) (v ∷ request) rest low many short =
    rw (append_assoc (padded (bytes_in v)) (laid n request) rest)
    (ap (take 512) behind ∙ stands column n request rest (omega arith) (omega arith) (λ c. short (suc c)))
  where
    on : suc column * 512 ≡ 512 + column * 512
    on = omega arith

    behind : drop (suc column * 512) (padded (bytes_in v) ++ (laid n request ++ rest)) ≡ drop (column * 512) (laid n request ++ rest)
    behind =
        ap (λ (m : ℕ). drop m (padded (bytes_in v) ++ (laid n request ++ rest))) on
        ∙ sym (drop-drop (column * 512) 512 (padded (bytes_in v) ++ (laid n request ++ rest)))
        ∙ ap (drop (column * 512)) (drop_at (padded (bytes_in v)) (laid n request ++ rest) 512 (room (bytes_in v) (short 0)))

-- so it is found in its column
found : (column n : ℕ) (request : List Value) (rest : List ℕ) → column < n → n ≤ length request → AllShort request
    → shown_bytes (laid n request ++ rest) column (length (bytes_in (column_of request column))) ≡ bytes_in (column_of request column)
found column n request rest low many short =
    ap (take (length (bytes_in (column_of request column)))) (stands column n request rest low many (column-short request short))
    ∙ take-append_seam (bytes_in (column_of request column)) (replicate (value_room - length (bytes_in (column_of request column))) 0)

-- a column is what its bytes, or its number, say
pub needed-bytes : (v : Value) → AdmitsNeeded v → (s : List ℕ) → s ≡ bytes_in v → text s ≡ v
needed-bytes absent ok s e = absurd ok
needed-bytes (text t) ok s e = ap text e
needed-bytes (number n) ok s e = absurd ok

pub key-bytes : (v : Value) → AdmitsOptional v → (s : List ℕ) → s ≡ bytes_in v → key_value (is_present v) s ≡ v
key-bytes absent ok s e = refl
key-bytes (text t) ok s e = ap text e
key-bytes (number n) ok s e = absurd ok

pub address-number : (v : Value) → AdmitsAddress v → pick (is_present v) (number (address_in v)) absent ≡ v
address-number absent ok = refl
address-number (text t) ok = absurd ok
address-number (number n) ok = refl

-- the request that is shown is the request
pub shown-request : (request : List Value) → length request ≡ columns → Each Admitted 0 request → AllShort request
    → (rest : List ℕ) → request_shown (shape_of request) (laid 7 request ++ rest) ≡ request
shown-request =
    of-eight (λ request. Each Admitted 0 request → AllShort request → (rest : List ℕ) → request_shown (shape_of request) (laid 7 request ++ rest) ≡ request)
    eight
  where
    eight : (a b c d e f g h : Value) → Each Admitted 0 (a ∷ b ∷ c ∷ d ∷ e ∷ f ∷ g ∷ h ∷ []) → AllShort (a ∷ b ∷ c ∷ d ∷ e ∷ f ∷ g ∷ h ∷ [])
        → (rest : List ℕ)
        → request_shown (shape_of (a ∷ b ∷ c ∷ d ∷ e ∷ f ∷ g ∷ h ∷ [])) (laid 7 (a ∷ b ∷ c ∷ d ∷ e ∷ f ∷ g ∷ h ∷ []) ++ rest)
        ≡ (a ∷ b ∷ c ∷ d ∷ e ∷ f ∷ g ∷ h ∷ [])
    eight a b c d e f g h ok short rest =
        ap₂ ◌∷◌ (needed-bytes a ok.0 _ (here 0 (omega arith)))
        (ap₂ ◌∷◌ (needed-bytes b ok.1.0 _ (here 1 (omega arith)))
        (ap₂ ◌∷◌ (needed-bytes c ok.1.1.0 _ (here 2 (omega arith)))
        (ap₂ ◌∷◌ (key-bytes d ok.1.1.1.0 _ (here 3 (omega arith)))
        (ap₂ ◌∷◌ (key-bytes e ok.1.1.1.1.0 _ (here 4 (omega arith)))
        (ap₂ ◌∷◌ (key-bytes f ok.1.1.1.1.1.0 _ (here 5 (omega arith)))
        (ap₂ ◌∷◌ (key-bytes g ok.1.1.1.1.1.1.0 _ (here 6 (omega arith)))
        (ap₂ ◌∷◌ (address-number h ok.1.1.1.1.1.1.1.0) refl)))))))
      where
        all : List Value
        all = a ∷ b ∷ c ∷ d ∷ e ∷ f ∷ g ∷ h ∷ []

        here : (column : ℕ) → column < 7
            → shown_bytes (laid 7 all ++ rest) column (length (bytes_in (column_of all column))) ≡ bytes_in (column_of all column)
        here column low = found column 7 all rest low (omega arith) short

-- the values of as many columns take so many bytes
pub laid-length : (n : ℕ) (request : List Value) → n ≤ length request → AllShort request → length (laid n request) ≡ n * value_room
laid-length zero request many short = refl
laid-length (suc n) [] many short = absurd (omega arith)
laid-length (suc n) (v ∷ request) many short =
    length-append (padded (bytes_in v)) (laid n request)
    ∙ omega (arith, room (bytes_in v) short.0, laid-length n request (omega arith) short.1)
