-- The values of a gap, laid one after the other over zeros, each in its 512 bytes: what is laid down is what the answer says.
use Rattle.std.proofs.Common.{ℕ, zero, suc, ◌+◌, ◌-◌, ◌*◌, ◌≤◌, ◌<◌, ◌≡◌, refl, sym, ◌∙◌, ap, ap₂, Bool, Option, Some, is_some, unwrap_or, List, [], ◌∷◌, ◌++◌, append_assoc, arith, length, drop, replicate, length-append, take_at, drop_at, drop-drop, le-ltb}
use Rattle.std.proofs.Math.ListN.{length-replicate, replicate-append-replicate}
use Rattle.std.proofs.Math.Seq.{sets, sets-eq}
use Rattle.stored.specs.Choice.{pick}
use Rattle.stored.specs.Tables.{Statement}
use Rattle.judging.specs.Requests.{Value, absent, text, number, is_present, columns, column_of}
use Rattle.comparing.specs.Requests.{Each, AdmitsAddress}
use Rattle.comparing.specs.Gaps.{FirstOf}
use Rattle.comparing.specs.Compared.{value_bytes, value_room, bytes_in, address_in, padded, laid, first_long}
use Rattle.comparing.specs.Machinery.ShownValues.{LaidValue, LaidGap}
use Rattle.comparing.specs.declared.answers.Shape.{Shape as Told}

-- a value over zeros
over_zeros : (s rest : List ℕ) (m : ℕ) → length s ≤ value_room → drop (length s) (replicate (value_room + m) 0 ++ rest) ≡ replicate (value_room - length s) 0 ++ (replicate m 0 ++ rest)
over_zeros s rest m short =
    ap (λ (l : List ℕ). drop (length s) (l ++ rest)) (ap (λ (n : ℕ). replicate n 0) parts ∙ sym (replicate-append-replicate (length s) (value_room - length s + m) 0))
    ∙ ap (drop (length s)) (append_assoc (replicate (length s) 0) (replicate (value_room - length s + m) 0) rest)
    ∙ drop_at (replicate (length s) 0) (replicate (value_room - length s + m) 0 ++ rest) (length s) (length-replicate (length s) 0)
    ∙ ap (λ (l : List ℕ). l ++ rest) (sym (replicate-append-replicate (value_room - length s) m 0))
    ∙ append_assoc (replicate (value_room - length s) 0) (replicate m 0) rest
  where
    parts : value_room + m ≡ length s + (value_room - length s + m)
    parts = omega arith

value-laid : (column : ℕ) (front s rest : List ℕ) (m : ℕ) → length front ≡ column * value_room → length s ≤ value_room
    → sets (front ++ (replicate (value_room + m) 0 ++ rest)) (column * value_room) s ≡ (front ++ padded s) ++ (replicate m 0 ++ rest)
value-laid column front s rest m size short =
    sets-eq s whole (column * value_room) fits
    ∙ ap₂ (λ (x y : List ℕ). x ++ s ++ y) (take_at front (replicate (value_room + m) 0 ++ rest) (column * value_room) size) behind
    ∙ append_assoc front s (replicate (value_room - length s) 0 ++ (replicate m 0 ++ rest))
    ∙ ap (λ (l : List ℕ). front ++ l) (sym (append_assoc s (replicate (value_room - length s) 0) (replicate m 0 ++ rest)))
    ∙ sym (append_assoc front (padded s) (replicate m 0 ++ rest))
  where
    whole : List ℕ
    whole = front ++ (replicate (value_room + m) 0 ++ rest)

    long : length whole ≡ length front + (length {A = ℕ} (replicate (value_room + m) 0) + length rest)
    long = length-append front (replicate (value_room + m) 0 ++ rest) ∙ ap (λ (n : ℕ). length front + n) (length-append (replicate (value_room + m) 0) rest)

    fits : column * value_room + length s ≤ length whole
    fits = omega (arith, size, long, length-replicate {A = ℕ} (value_room + m) 0)

    behind : drop (column * value_room + length s) whole ≡ replicate (value_room - length s) 0 ++ (replicate m 0 ++ rest)
    behind =
        sym (drop-drop (length s) (column * value_room) whole)
        ∙ ap (drop (length s)) (drop_at front (replicate (value_room + m) 0 ++ rest) (column * value_room) size)
        ∙ over_zeros s rest m short

-- no value is longer than its room
abbrev pub AllShort : List Value → Type 0
AllShort [] = Unit {0}
AllShort (v ∷ request) = (length (bytes_in v) ≤ value_room) × AllShort request

-- the first n values of a request, laid down from a column on
abbrev pub laying_from : ℕ → ℕ → List Value → List ℕ → List ℕ
laying_from zero column request values = values
laying_from (suc n) column [] values = values
laying_from (suc n) column (v ∷ request) values = laying_from n (suc column) request (sets values (column * value_room) (bytes_in v))

laying-laid : (n column : ℕ) (request : List Value) (front rest : List ℕ) → n ≤ length request → length front ≡ column * value_room → AllShort request
    → laying_from n column request (front ++ (replicate (n * value_room) 0 ++ rest)) ≡ front ++ (laid n request ++ rest)
laying-laid zero column request front rest many size short = refl
laying-laid (suc n) column [] front rest many size short = absurd (omega arith)
laying-laid (suc n) column (v ∷ request) front rest many size short =
    ap (λ (m : ℕ). laying_from n (suc column) request (sets (front ++ (replicate m 0 ++ rest)) (column * value_room) (bytes_in v))) {x = suc n * value_room} {y = value_room + n * value_room} (omega arith)
    ∙ ap (laying_from n (suc column) request) (value-laid column front (bytes_in v) rest (n * value_room) size short.0)
    ∙ laying-laid n (suc column) request (front ++ padded (bytes_in v)) rest (omega arith) longer short.1
    ∙ append_assoc front (padded (bytes_in v)) (laid n request ++ rest)
    ∙ ap (λ (l : List ℕ). front ++ l) (sym (append_assoc (padded (bytes_in v)) (laid n request) rest))
  where
    longer : length (front ++ padded (bytes_in v)) ≡ suc column * value_room
    longer =
        length-append front (padded (bytes_in v))
        ∙ ap (λ (n : ℕ). length front + n)
        (length-append (bytes_in v) (replicate (value_room - length (bytes_in v)) 0) ∙ ap (λ (n : ℕ). length (bytes_in v) + n) (length-replicate (value_room - length (bytes_in v)) 0))
        ∙ omega (arith, size, short.0)

none-long : (column : ℕ) (request : List Value) → AllShort request → first_long column request ≡ column + length request
none-long column [] short = omega arith
none-long column (v ∷ request) short =
    ap (λ (t : Bool). pick t column (first_long (suc column) request)) (le-ltb value_room (length (bytes_in v)) short.0)
    ∙ none-long (suc column) request short.1
    ∙ omega arith

address-short : (v : Value) → AdmitsAddress v → length (bytes_in v) ≤ value_room
address-short absent ok = omega arith
address-short (text s) ok = absurd ok
address-short (number m) ok = omega arith

-- the values of n columns from a column on, laid down one after the other
abbrev pub laying : ℕ → ℕ → List Value → List ℕ → List ℕ
laying zero column request values = values
laying (suc n) column request values = laying n (suc column) request (sets values (column * value_room) (bytes_in (column_of request column)))

-- seven values laid over zeros are the values as the answer lays them, and none is too long
pub gap-laid : (first second : List Statement) (request : List Value) → Each (FirstOf first second) 0 request
    → ((i : ℕ) → i < 7 → length (bytes_in (column_of request i)) ≤ value_room) → (rest : List ℕ)
    → (laying 7 0 request (replicate value_bytes 0 ++ rest) ≡ laid 7 request ++ rest) × (first_long 0 request ≡ columns)
gap-laid first second [] f h rest = absurd (omega arith)
gap-laid first second (a ∷ []) f h rest = absurd (omega (arith, f.1))
gap-laid first second (a ∷ (b ∷ [])) f h rest = absurd (omega (arith, f.1.1))
gap-laid first second (a ∷ (b ∷ (c ∷ []))) f h rest = absurd (omega (arith, f.1.1.1))
gap-laid first second (a ∷ (b ∷ (c ∷ (d ∷ [])))) f h rest = absurd (omega (arith, f.1.1.1.1))
gap-laid first second (a ∷ (b ∷ (c ∷ (d ∷ (e ∷ []))))) f h rest = absurd (omega (arith, f.1.1.1.1.1))
gap-laid first second (a ∷ (b ∷ (c ∷ (d ∷ (e ∷ (g ∷ [])))))) f h rest = absurd (omega (arith, f.1.1.1.1.1.1))
gap-laid first second (a ∷ (b ∷ (c ∷ (d ∷ (e ∷ (g ∷ (i ∷ []))))))) f h rest = absurd (omega (arith, f.1.1.1.1.1.1.1))
gap-laid first second (a ∷ (b ∷ (c ∷ (d ∷ (e ∷ (g ∷ (i ∷ (j ∷ [])))))))) f h rest = (
  laying-laid 7 0 (a ∷ (b ∷ (c ∷ (d ∷ (e ∷ (g ∷ (i ∷ (j ∷ [])))))))) [] rest (omega arith) refl short,
  none-long 0 (a ∷ (b ∷ (c ∷ (d ∷ (e ∷ (g ∷ (i ∷ (j ∷ [])))))))) short,
)
  where
    short : AllShort (a ∷ (b ∷ (c ∷ (d ∷ (e ∷ (g ∷ (i ∷ (j ∷ []))))))))
    short = (
      h 0 (omega arith),
      (
        h 1 (omega arith),
        (
          h 2 (omega arith),
          (
            h 3 (omega arith),
            (
              h 4 (omega arith),
              (
                h 5 (omega arith),
                (
                  h 6 (omega arith),
                  (address-short j f.1.1.1.1.1.1.1.0.ok, tt),
                ),
              ),
            ),
          ),
        ),
      ),
    )
gap-laid first second (a ∷ (b ∷ (c ∷ (d ∷ (e ∷ (g ∷ (i ∷ (j ∷ (k ∷ request))))))))) f h rest =
    absurd (too_many 9 request (omega arith) f.1.1.1.1.1.1.1.1.1)
  where
    too_many : (column : ℕ) (request : List Value) → columns < column → Each (FirstOf first second) column request → ⊥
    too_many column [] over f = omega arith
    too_many column (v ∷ request) over f = too_many (suc column) request (omega arith) f.1

-- the shape told by what was shown of each column
abbrev pub shape_from : (t0 t1 t2 : ℕ) (t3 t4 t5 t6 t7 : Option ℕ) → Told
shape_from t0 t1 t2 t3 t4 t5 t6 t7 =
    record {
      principal = t0;
      action = t1;
      resource = t2;
      vpc = t3;
      prefix = t4;
      vpce = t5;
      referer = t6;
      address = t7;
    }

below-seven : (P : ℕ → Type 0) → P 0 → P 1 → P 2 → P 3 → P 4 → P 5 → P 6 → (i : ℕ) → i < 7 → P i
below-seven P a b c d e f g zero h = a
below-seven P a b c d e f g (suc zero) h = b
below-seven P a b c d e f g (suc (suc zero)) h = c
below-seven P a b c d e f g (suc (suc (suc zero))) h = d
below-seven P a b c d e f g (suc (suc (suc (suc zero)))) h = e
below-seven P a b c d e f g (suc (suc (suc (suc (suc zero))))) h = f
below-seven P a b c d e f g (suc (suc (suc (suc (suc (suc zero)))))) h = g
below-seven P a b c d e f g (suc (suc (suc (suc (suc (suc (suc i))))))) h = absurd (omega arith)

-- Seven values were laid over zeros, each as the first of its column, and the address was found: that is the gap.
pub gap-shown : (first second : List Statement) (request : List Value) → Each (FirstOf first second) 0 request
    → (buffer v0 v1 v2 v3 v4 v5 v6 v7 : List ℕ) (t0 t1 t2 : ℕ) (t3 t4 t5 t6 t7 : Option ℕ)
    → v0 ≡ replicate value_bytes 0 ++ drop value_bytes buffer
    → LaidValue 0 v0 v1 (Some t0) (column_of request 0) → LaidValue 1 v1 v2 (Some t1) (column_of request 1) → LaidValue 2 v2 v3 (Some t2) (column_of request 2)
    → LaidValue 3 v3 v4 t3 (column_of request 3) → LaidValue 4 v4 v5 t4 (column_of request 4) → LaidValue 5 v5 v6 t5 (column_of request 5)
    → LaidValue 6 v6 v7 t6 (column_of request 6)
    → (is_some t7 ≡ is_present (column_of request 7)) × (unwrap_or t7 0 ≡ address_in (column_of request 7))
    → LaidGap buffer v7 (shape_from t0 t1 t2 t3 t4 t5 t6 t7) request
gap-shown first second request firsts buffer v0 v1 v2 v3 v4 v5 v6 v7 t0 t1 t2 t3 t4 t5 t6 t7 cleared a b c d e f g h =
    record {
      shape =
          rw (a.size, b.size, c.size, d.size, e.size, f.size, g.size, d.there, e.there, f.there, g.there, h.0, h.1);
      bytes = chain ∙ ap (laying 7 0 request) cleared ∙ both.0;
      short = both.1;
    }
  where
    at : ℕ → List ℕ → List ℕ
    at i l = sets l (i * value_room) (bytes_in (column_of request i))

    chain : v7 ≡ laying 7 0 request v0
    chain =
        g.bytes
        ∙ ap (at 6) (f.bytes ∙ ap (at 5) (e.bytes ∙ ap (at 4) (d.bytes ∙ ap (at 3) (c.bytes ∙ ap (at 2) (b.bytes ∙ ap (at 1) a.bytes)))))

    both : (laying 7 0 request (replicate value_bytes 0 ++ drop value_bytes buffer) ≡ laid 7 request ++ drop value_bytes buffer) × (first_long 0 request ≡ columns)
    both =
        gap-laid first second request firsts
        (below-seven (λ i. length (bytes_in (column_of request i)) ≤ value_room) a.short b.short c.short d.short e.short f.short g.short)
        (drop value_bytes buffer)
