-- The reader's steps: a step goes on to a later place inside the table, and more fuel than the bytes left changes nothing.
use Rattle.std.proofs.Common.{ℕ, zero, suc, ◌+◌, ◌-◌, ◌≤◌, ◌<◌, ◌≡◌, refl, sym, ◌∙◌, ap, Bool, true, false, List, arith, eqb, ltb, length, get_or, take, drop, lt-ltb, le-ltb, eqb-true}
use Rattle.stored.specs.Choice.{pick}
use Rattle.stored.specs.Records.{Record as R, Record, kind_of, record_at}
use Rattle.stored.specs.Machine.{Turn as T, Turn, fresh_state, due_of, turn_of, admit_item}
use Rattle.stored.specs.Reading.{Step as S, ReadAnswer as A, Step, finish_of, after_turn, taken_record, taken_of, step_at, after_step, read_from, reading}
use Rattle.stored.specs.declared.items.Item.{Item}
use Rattle.stored.specs.declared.machine.State.{State}
use Rattle.stored.proofs.Walking.{inside, kind-agrees}

-- what a step that goes on has found: a record, in turn by its kind and as a whole
pub record Taken (s : State) (t : List ℕ) (at : ℕ) (u : State) (p : ℕ) : Type 0 where
  pub item : Item
  pub begin : ℕ
  pub size : ℕ
  pub found : record_at t at ≡ R.Is item begin size
  pub due : due_of s (kind_of (get_or t at 0)) ≡ 0
  pub turned : turn_of s item (take size (drop begin t)) ≡ T.Next u
  pub next : p ≡ begin + size

turned-next : (q : ℕ) (turn : Turn) (u : State) (p : ℕ) → after_turn q turn ≡ S.Goes u p → (turn ≡ T.Next u) × (p ≡ q)
turned-next q (T.Next v) u p e = (cc, cc)
turned-next q (T.Refused n) u p e = absurd (cc)

pub taken : (s : State) (t : List ℕ) (at : ℕ) (u : State) (p : ℕ) → step_at s t at ≡ S.Goes u p → Taken s t at u p
unfolding step_at
taken s t at u p = by-due (eqb due 0) refl
  where
    due : ℕ
    due = due_of s (kind_of (get_or t at 0))

    by-record : due ≡ 0 → (r : Record) → record_at t at ≡ r → taken_record s t r ≡ S.Goes u p → Taken s t at u p
    by-record d (R.Is i begin size) e h =
        let f = turned-next (begin + size) (turn_of s i (take size (drop begin t))) u p h in
        record { item = i; begin = begin; size = size; found = e; due = d; turned = f.0; next = f.1 }
    by-record d R.Cut e h = absurd (cc)
    by-record d R.Strange e h = absurd (cc)

    by-due : (b : Bool) → eqb due 0 ≡ b → pick b (taken_of s t at) (S.Stops due) ≡ S.Goes u p → Taken s t at u p
    by-due true e h = by-record (eqb-true due 0 e) (record_at t at) refl h
    by-due false e h = absurd (cc)

-- a record that is found is a step by the state machine's turn on its item
pub turns : (s : State) (t : List ℕ) (at : ℕ) (i : Item) (begin size : ℕ) → record_at t at ≡ R.Is i begin size
    → step_at s t at ≡ after_turn (begin + size) (admit_item s i (take size (drop begin t)))
unfolding step_at admit_item
turns s t at i begin size e = rw (e, kind-agrees t at i begin size e) (by (eqb due 0))
  where
    due : ℕ
    due = due_of s (kind_of (get_or t at 0))

    turn : Turn
    turn = turn_of s i (take size (drop begin t))

    by : (b : Bool) → pick b (after_turn (begin + size) turn) (S.Stops due) ≡ after_turn (begin + size) (pick b turn (T.Refused due))
    by true = refl
    by false = refl

-- one that the state machine takes is a step that goes on behind it
pub steps : (s : State) (t : List ℕ) (at : ℕ) (i : Item) (begin size : ℕ) (u : State) → record_at t at ≡ R.Is i begin size
    → admit_item s i (take size (drop begin t)) ≡ T.Next u → step_at s t at ≡ S.Goes u (begin + size)
steps s t at i begin size u e h = turns s t at i begin size e ∙ ap (after_turn (begin + size)) h

-- a step goes on to a later place inside the table
pub goes-inside : (s : State) (t : List ℕ) (at : ℕ) (u : State) (p : ℕ) → step_at s t at ≡ S.Goes u p → (at < p) × (p ≤ length t)
goes-inside s t at u p e =
    let k = taken s t at u p e in
    let r = inside t at k.item k.begin k.size k.found in
    let q = k.next in
    (omega arith, omega arith)

-- at the end of the table reading finishes, whatever the fuel
pub at-end : (f : ℕ) (t : List ℕ) (s : State) (at : ℕ) → length t ≤ at → read_from f t s at ≡ finish_of s at
at-end zero t s at h = refl
at-end (suc f) t s at h = rw (le-ltb at (length t) h)

-- the fuel does not matter once it is the bytes left
pub enough : (f g : ℕ) (t : List ℕ) (s : State) (at : ℕ) → length t - at ≤ f → length t - at ≤ g
    → read_from f t s at ≡ read_from g t s at
enough zero g t s at hf hg = sym (at-end g t s at (omega arith))
enough (suc f) zero t s at hf hg = at-end (suc f) t s at (omega arith)
enough (suc f) (suc g) t s at hf hg =
    by_place (ltb at (length t)) refl (λ u p h. enough f g t u p (omega arith) (omega arith))
  where
    by-step : (r : Step) → step_at s t at ≡ r
        → ((u : State) (p : ℕ) → (at < p) × (p ≤ length t) → read_from f t u p ≡ read_from g t u p)
        → after_step (read_from f t) at r ≡ after_step (read_from g t) at r
    by-step (S.Goes u p) e go = go u p (goes-inside s t at u p e)
    by-step (S.Stops n) e go = refl

    by_place : (b : Bool) → ltb at (length t) ≡ b
        → ((u : State) (p : ℕ) → (at < p) × (p ≤ length t) → read_from f t u p ≡ read_from g t u p)
        → pick b (after_step (read_from f t) at (step_at s t at)) (finish_of s at)
        ≡ pick b (after_step (read_from g t) at (step_at s t at)) (finish_of s at)
    by_place true e go = by-step (step_at s t at) refl go
    by_place false e go = refl

-- before the end reading is a step, and what comes after it
pub after : (t : List ℕ) (s : State) (at : ℕ) → at < length t
    → read_from (length t - at) t s at ≡ after_step (read_from (length t - at) t) at (step_at s t at)
after t s at h =
    enough (length t - at) (suc (length t - at)) t s at (omega arith) (omega arith)
    ∙ rw (lt-ltb at (length t) h)

-- a step goes on
pub goes : (t : List ℕ) (s : State) (at : ℕ) (u : State) (p : ℕ) → at < length t → step_at s t at ≡ S.Goes u p
    → read_from (length t - at) t s at ≡ read_from (length t - p) t u p
goes t s at u p h e =
    let r = goes-inside s t at u p e in
    after t s at h ∙ rw e (enough (length t - at) (length t - p) t u p (omega arith) (omega arith))

-- a step stops
pub stops : (t : List ℕ) (s : State) (at n : ℕ) → at < length t → step_at s t at ≡ S.Stops n
    → read_from (length t - at) t s at ≡ A.Refused n at
stops t s at n h e = after t s at h ∙ rw e

-- a table over 16,384 bytes is refused before its first record
pub too_long : (t : List ℕ) → 16384 < length t → reading t ≡ A.Refused 1 16384
unfolding reading
too_long t h = rw (lt-ltb 16384 (length t) h)

-- any other is read from its first record on
pub begins : (t : List ℕ) → length t ≤ 16384 → reading t ≡ read_from (length t - 0) t fresh_state 0
unfolding reading
begins t h = rw (le-ltb 16384 (length t) h) (enough (length t) (length t - 0) t fresh_state 0 (omega arith) (omega arith))
