-- Which numbers a refusal can have, and at which place: what the kind alone decides is 3, 4 or 5, what the whole record decides is 4, 6, 7
-- or 8, and a reader that stops stops at a record or at the length.
use Rattle.std.proofs.Common.{ℕ, zero, suc, ◌+◌, ◌≤◌, ◌<◌, ◌≡◌, refl, Bool, true, false, not, ◌&&◌, ◌||◌, List, ◌⊎◌, inl, inr, arith, eqb, leb, ltb, length, get_or, take, drop, ltb-true, ltb-false}
use Rattle.std.proofs.lemmas.Bool.{eqb-false}
use Rattle.stored.specs.Choice.{pick}
use Rattle.stored.specs.Items.{column_place, key_sort}
use Rattle.stored.specs.Operators.{row_of}
use Rattle.stored.specs.Records.{Record as R, Record, kind_of, record_at}
use Rattle.stored.specs.Values.{in_range, has_variable}
use Rattle.stored.specs.Networks.{network_sound}
use Rattle.stored.specs.Machine.{Turn as T, Turn, fresh_state, is_ended, is_unknown, is_text, same_sort, sound_in, takes_kind, leaves_empty, due_of, place_due, value_fault, turn_of, kind_of_item, admit_item}
use Rattle.stored.specs.Reading.{Step as S, ReadAnswer as A, Step, finish_of, after_turn, taken_record, taken_of, step_at, after_step, read_from, reading}
use Rattle.stored.specs.Writing.{WriteAnswer as W, record_of, placing, writing}
use Rattle.stored.specs.declared.items.Item.{Item}
use Rattle.stored.specs.declared.items.Item.TheVariants as I
use Rattle.stored.specs.declared.items.Sort.{Sort}
use Rattle.stored.specs.declared.records.Kind.{Kind}
use Rattle.stored.specs.declared.machine.Phase.{Phase}
use Rattle.stored.specs.declared.machine.State.{State}
use Rattle.stored.specs.declared.writer.Writer.{Writer}
use Rattle.stored.proofs.Steps.{goes-inside}

-- what the kind alone decides: nothing, or 3 for an unknown kind, or 4 or 5
record DueNumber (k : Kind) (n : ℕ) : Type 0 where
  low : (n ≡ 0 → ⊥) → 3 ≤ n
  known : is_unknown k ≡ false → (n ≡ 0 → ⊥) → 4 ≤ n
  high : n ≤ 5

due-number : (s : State) (k : Kind) → DueNumber k (due_of s k)
due-number s k = by (is_ended s.phase) (is_unknown k) refl (leaves_empty s.waiting k) (takes_kind s.phase s.left k)
  where
    by : (a b : Bool) → is_unknown k ≡ b → (c d : Bool) → DueNumber k (pick a 4 (pick b 3 (pick c 5 (pick d 0 4))))
    by true b e c d = record { low = λ h. omega arith; known = λ f h. omega arith; high = omega arith }
    by false true e c d = record { low = λ h. omega arith; known = λ f h. absurd (cc); high = omega arith }
    by false false e true d = record { low = λ h. omega arith; known = λ f h. omega arith; high = omega arith }
    by false false e false true = record { low = λ h. absurd (h refl); known = λ f h. absurd (h refl); high = omega arith }
    by false false e false false = record { low = λ h. omega arith; known = λ f h. omega arith; high = omega arith }

-- an item's kind is known
item-known : (i : Item) (size : ℕ) → is_unknown (kind_of_item i size) ≡ false
item-known (I.Start n) size = refl
item-known (I.Statement e) size = refl
item-known (I.Column c) size = refl
item-known (I.Condition o k) size = refl
item-known (I.Network a n) size = refl
item-known I.Value size = refl
item-known I.End size = refl

-- a turn's refusal, where there is one, is 4 to 8
abbrev pub Numbered : Turn → Type 0
Numbered (T.Next u) = Unit {0}
Numbered (T.Refused n) = (4 ≤ n) × (n ≤ 8)

numbered-pick : (b : Bool) (x y : Turn) → Numbered x → Numbered y → Numbered (pick b x y)
numbered-pick true x y f g = f
numbered-pick false x y f g = g

value-numbered : (p : Phase) (sort : Sort) (bs : List ℕ) (u : State)
    → Numbered (pick (eqb (value_fault p sort bs) 0) (T.Next u) (T.Refused (value_fault p sort bs)))
value-numbered p sort bs u =
    by (eqb (length bs) 0 || ltb 128 (length bs)) (in_range bs) (is_text sort && (not (has_variable bs) && sound_in p bs))
  where
    fault : Bool → Bool → Bool → ℕ
    fault a b c = pick a 6 (pick b (pick c 0 8) 7)

    by : (a b c : Bool) → Numbered (pick (eqb (fault a b c) 0) (T.Next u) (T.Refused (fault a b c)))
    by true b c = (omega arith, omega arith)
    by false true true = tt
    by false true false = (omega arith, omega arith)
    by false false c = (omega arith, omega arith)

turn-numbered : (s : State) (i : Item) (bs : List ℕ) → Numbered (turn_of s i bs)
turn-numbered s (I.Start n) bs = numbered-pick (ltb 32 n) _ _ (omega arith, omega arith) tt
turn-numbered s (I.Statement e) bs = tt
turn-numbered s (I.Column c) bs = numbered-pick (eqb (place_due s.phase) (column_place c)) _ _ tt (omega arith, omega arith)
turn-numbered s (I.Condition o k) bs =
    numbered-pick (leb 4 s.conditions) _ _ (omega arith, omega arith)
    (numbered-pick (same_sort (row_of o).sort (key_sort k)) _ _ tt (omega arith, omega arith))
turn-numbered s (I.Network a n) bs =
    numbered-pick (leb 64 s.values) _ _ (omega arith, omega arith)
    (numbered-pick (not (is_text s.sort) && network_sound a n) _ _ tt (omega arith, omega arith))
turn-numbered s I.Value bs =
    numbered-pick (leb 64 s.values) _ _ (omega arith, omega arith) (value-numbered s.phase s.sort bs _)
turn-numbered s I.End bs = tt

-- the state machine refuses an item with 4 to 8
pub refused-item : (s : State) (i : Item) (bs : List ℕ) → Numbered (admit_item s i bs)
unfolding admit_item
refused-item s i bs = by (eqb due 0) refl
  where
    due : ℕ
    due = due_of s (kind_of_item i (length bs))

    by : (b : Bool) → eqb due 0 ≡ b → Numbered (pick b (turn_of s i bs) (T.Refused due))
    by true e = turn-numbered s i bs
    by false e =
        let d = due-number s (kind_of_item i (length bs)) in
        let high = d.high in
        (d.known (item-known i (length bs)) (eqb-false due 0 e), omega arith)

-- a step that stops, stops with 2 to 8
abbrev StopNumbered : Step → Type 0
StopNumbered (S.Goes u p) = Unit {0}
StopNumbered (S.Stops n) = (2 ≤ n) × (n ≤ 8)

step-numbered : (s : State) (t : List ℕ) (at : ℕ) → StopNumbered (step_at s t at)
unfolding step_at
step-numbered s t at = by (eqb due 0) refl
  where
    due : ℕ
    due = due_of s (kind_of (get_or t at 0))

    after : (p : ℕ) (turn : Turn) → Numbered turn → StopNumbered (after_turn p turn)
    after p (T.Next u) h = tt
    after p (T.Refused n) h =
        let low = h.0 in
        (omega arith, h.1)

    found : (r : Record) → StopNumbered (taken_record s t r)
    found (R.Is i begin size) = after (begin + size) (turn_of s i (take size (drop begin t))) (turn-numbered s i (take size (drop begin t)))
    found R.Cut = (omega arith, omega arith)
    found R.Strange = (omega arith, omega arith)

    by : (b : Bool) → eqb due 0 ≡ b → StopNumbered (pick b (taken_of s t at) (S.Stops due))
    by true e = found (record_at t at)
    by false e =
        let d = due-number s (kind_of (get_or t at 0)) in
        let high = d.high in
        let low = d.low (eqb-false due 0 e) in
        (omega arith, omega arith)

-- a refusal behind a place: 2 at the length or a record, 3 to 8 at a record
pub record RefusedBehind (t : List ℕ) (at n place : ℕ) : Type 0 where
  pub low : 2 ≤ n
  pub high : n ≤ 8
  pub behind : at ≤ place
  pub inside : place ≤ length t
  pub at_record : 2 < n → place < length t

finish-behind : (t : List ℕ) (s : State) (at n place : ℕ) → at ≤ length t → finish_of s at ≡ A.Refused n place → RefusedBehind t at n place
finish-behind t s at n place h = by (is_ended s.phase)
  where
    by : (b : Bool) → pick b (A.Accepted s.rows) (A.Refused 2 at) ≡ A.Refused n place → RefusedBehind t at n place
    by true e = absurd (cc)
    by false e =
        let two : 2 ≡ n = cc in
        let here : at ≡ place = cc in
        record { low = omega arith; high = omega arith; behind = omega arith; inside = omega arith; at_record = λ k. absurd (omega arith) }

pub refused-behind : (f : ℕ) (t : List ℕ) (s : State) (at n place : ℕ) → at ≤ length t → read_from f t s at ≡ A.Refused n place
    → RefusedBehind t at n place
refused-behind zero t s at n place h e = finish-behind t s at n place h e
refused-behind (suc f) t s at n place h e = by_place (ltb at (length t)) refl (λ u p r. refused-behind f t u p n place r.1) e
  where
    Behind : Type 0
    Behind = (u : State) (p : ℕ) → (at < p) × (p ≤ length t) → read_from f t u p ≡ A.Refused n place → RefusedBehind t p n place

    by-step : at < length t → (r : Step) → step_at s t at ≡ r → StopNumbered r → Behind
        → after_step (read_from f t) at r ≡ A.Refused n place → RefusedBehind t at n place
    by-step l (S.Goes u p) e k go a =
        let r = goes-inside s t at u p e in
        let b = go u p r a in
        record { low = b.low; high = b.high; behind = omega arith; inside = b.inside; at_record = b.at_record }
    by-step l (S.Stops m) e k go a =
        let number : m ≡ n = cc in
        let here : at ≡ place = cc in
        let low = k.0 in
        let high = k.1 in
        record { low = omega arith; high = omega arith; behind = omega arith; inside = omega arith; at_record = λ q. omega arith }

    by_place : (b : Bool) → ltb at (length t) ≡ b → Behind
        → pick b (after_step (read_from f t) at (step_at s t at)) (finish_of s at) ≡ A.Refused n place → RefusedBehind t at n place
    by_place true e go a = by-step (ltb-true at (length t) e) (step_at s t at) refl (step-numbered s t at) go a
    by_place false e go a = finish-behind t s at n place h a

-- a refusal of a table of at most 16,384 bytes
pub refused-inside : (t : List ℕ) (n place : ℕ) → length t ≤ 16384 → reading t ≡ A.Refused n place → RefusedBehind t 0 n place
unfolding reading
refused-inside t n place h e = by (ltb 16384 (length t)) refl e
  where
    by : (b : Bool) → ltb 16384 (length t) ≡ b → pick b (A.Refused 1 16384) (read_from (length t) t fresh_state 0) ≡ A.Refused n place
        → RefusedBehind t 0 n place
    by true b a = absurd (omega (arith, ltb-true 16384 (length t) b))
    by false b a = refused-behind (length t) t fresh_state 0 n place (omega arith) a

-- a refusal of any table
pub refused-where : (t : List ℕ) (n place : ℕ) → reading t ≡ A.Refused n place → (0 < n) × (n ≤ 8) × (place ≤ 16384)
unfolding reading
refused-where t n place = by (ltb 16384 (length t)) refl
  where
    by : (b : Bool) → ltb 16384 (length t) ≡ b → pick b (A.Refused 1 16384) (read_from (length t) t fresh_state 0) ≡ A.Refused n place
        → (0 < n) × (n ≤ 8) × (place ≤ 16384)
    by true b a =
        let number : 1 ≡ n = cc in
        let here : 16384 ≡ place = cc in
        (omega arith, omega arith, omega arith)
    by false b a =
        let r = refused-behind (length t) t fresh_state 0 n place (omega arith) a in
        let short = ltb-false 16384 (length t) b in
        (omega arith, omega arith, omega arith)

-- a writer's refusal: 4 to 8 at the bytes written so far, 1 at 16,384, or 14 at 0
pub writer-numbers : (w : Writer) (i : Item) (bs : List ℕ) (room n place : ℕ) → writing w i bs room ≡ W.Refused n place
    → ((4 ≤ n) × (n ≤ 8) × (place ≡ w.at)) ⊎ (((n ≡ 1) × (place ≡ 16384)) ⊎ ((n ≡ 14) × (place ≡ 0)))
unfolding writing
writer-numbers w i bs room n place = by_turn (admit_item w.state i bs) (refused-item w.state i bs)
  where
    Answer : Type 0
    Answer = ((4 ≤ n) × (n ≤ 8) × (place ≡ w.at)) ⊎ (((n ≡ 1) × (place ≡ 16384)) ⊎ ((n ≡ 14) × (place ≡ 0)))

    by_size : (a b : Bool) (next : Writer) → pick a (W.Refused 1 16384) (pick b (W.Refused 14 0) (W.Added next)) ≡ W.Refused n place → Answer
    by_size true b next h = inr (inl (cc, cc))
    by_size false true next h = inr (inr (cc, cc))
    by_size false false next h = absurd (cc)

    by_turn : (turn : Turn) → Numbered turn → placing w.at turn (length (record_of i bs)) room ≡ W.Refused n place → Answer
    by_turn (T.Next s) k h = by_size (ltb 16384 (w.at + length (record_of i bs))) (ltb room (w.at + length (record_of i bs))) _ h
    by_turn (T.Refused m) k h =
        let number : m ≡ n = cc in
        let low = k.0 in
        let high = k.1 in
        inl (omega arith, omega arith, cc)
