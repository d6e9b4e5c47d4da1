-- The writer refuses as the reader would: where the records of entries that a fresh writer took are followed by one record more, the reader
-- comes to that record in the writer's state, and both answer by the same turn of the state machine.
use Rattle.std.proofs.Common.{ℕ, ◌+◌, ◌-◌, ◌≤◌, ◌<◌, ◌≡◌, refl, sym, ◌∙◌, ap, Bool, true, false, ◌||◌, List, [], ◌++◌, ◌⊎◌, inl, inr, ◌↔◌, arith, eqb, leb, ltb, length, take, drop, length-append, ltb-true, lt-ltb, eq-eqb, ne_eqb}
use mathlib.Core.Logic.Iff
use Rattle.stored.specs.Choice.{pick}
use Rattle.stored.specs.Records.{Record as R, record_at}
use Rattle.stored.specs.Machine.{Turn as T, Turn, fresh_state, due_of, admit_item}
use Rattle.stored.specs.Reading.{ReadAnswer as A, after_turn, after_step, read_from, reading}
use Rattle.stored.specs.Writing.{WriteAnswer as W, fresh_writer, record_of, placing, writing}
use Rattle.stored.specs.Entries.{Entry, entry_of, item_of, bytes_of, encode, AllFit, HasRecord, Writes}
use Rattle.stored.specs.Machinery.Following.{admit}
use Rattle.stored.specs.declared.items.Item.TheVariants as I
use Rattle.stored.specs.declared.records.Kind.TheVariants as K
use Rattle.stored.specs.declared.machine.State.{State}
use Rattle.stored.specs.declared.writer.Writer.{Writer}
use Rattle.stored.proofs.Walking.{inside}
use Rattle.stored.proofs.Turns.{same-admit}
use Rattle.stored.proofs.Steps.{turns, after, begins}
use Rattle.stored.proofs.Accepting.{Leads}
use Rattle.stored.proofs.Numbers.{refused-behind}
use Rattle.stored.proofs.OneRecord.{there}
use Rattle.stored.proofs.Placing.{written}
use Rattle.stored.proofs.RoundTrip.{passes}

-- where a record of an entry ends that begins at a place
abbrev end_of : Entry → ℕ → ℕ
end_of e at = at + 1 + (length (record_of (item_of e) (bytes_of e)) - 1)

-- at a record behind those of entries that were taken, the reader answers by the state machine's turn on its entry
reads-turn : (es : List Entry) (last : State) → Leads fresh_state es last → AllFit es → (e : Entry) → HasRecord e → (rest t : List ℕ) (at : ℕ)
    → t ≡ encode es ++ (record_of (item_of e) (bytes_of e) ++ rest) → at ≡ length (encode es) → length t ≤ 16384
    → (reading t ≡ after_step (read_from (length t - at) t) at (after_turn (end_of e at) (admit last e))) × (end_of e at ≤ length t)
reads-turn es last l fit e has rest t at whole here short =
    let n = length (record_of (item_of e) (bytes_of e)) - 1 in
    let k = there e has (encode es) rest in
    let found : record_at t at ≡ R.Is (item_of e) (at + 1) n = rw (whole, here) k.found in
    let again : entry_of (item_of e) (take n (drop (at + 1) t)) ≡ e = rw (whole, here) k.again in
    let lies = inside t at (item_of e) (at + 1) n found in
    let passed = passes es fresh_state last l fit [] (record_of (item_of e) (bytes_of e) ++ rest) t 0 at whole refl (omega arith) in
    let turn : admit_item last (item_of e) (take n (drop (at + 1) t)) ≡ admit last e
    = sym (same-admit last (item_of e) (take n (drop (at + 1) t))) ∙ ap (admit last) again in (
      begins t short ∙ passed.0 ∙ after t last at (omega arith)
          ∙ ap (after_step (read_from (length t - at) t) at) (turns last t at (item_of e) (at + 1) n found ∙ ap (after_turn (end_of e at)) turn),
      lies.1,
    )

-- the reader refuses there as the state machine refuses the entry, and the other way round
reader-refuses : (es : List Entry) (last : State) → Leads fresh_state es last → AllFit es → (e : Entry) → HasRecord e → (rest t : List ℕ) (at : ℕ)
    → t ≡ encode es ++ (record_of (item_of e) (bytes_of e) ++ rest) → at ≡ length (encode es) → length t ≤ 16384 → (n : ℕ)
    → (admit last e ≡ T.Refused n) ↔ (reading t ≡ A.Refused n at)
reader-refuses es last l fit e has rest t at whole here short n =
    let r = reads-turn es last l fit e has rest t at whole here short in
    (λ h. r.0 ∙ rw h, λ h. back r.1 (admit last e) refl (sym r.0 ∙ h))
  where
    back : end_of e at ≤ length t → (turn : Turn) → admit last e ≡ turn
        → after_step (read_from (length t - at) t) at (after_turn (end_of e at) turn) ≡ A.Refused n at → admit last e ≡ T.Refused n
    back lies (T.Next u) q h = absurd (omega (arith, (refused-behind (length t - at) t u (end_of e at) n at lies h).behind))
    back lies (T.Refused m) q h =
        let number : m ≡ n = cc in
        q ∙ ap T.Refused number

-- the writer refuses with a number up to 8 as the state machine refuses the entry, where the record stays below 16,384 bytes
writer-refuses : (w : Writer) (e : Entry) (room : ℕ) → w.at + length (record_of (item_of e) (bytes_of e)) ≤ 16384 → (n : ℕ) → n ≤ 8
    → (writing w (item_of e) (bytes_of e) room ≡ W.Refused n w.at) ↔ (admit w.state e ≡ T.Refused n)
unfolding writing
writer-refuses w e room short n few = (by_turn (admit w.state e) refl, λ h. rw h)
  where
    size : ℕ
    size = w.at + length (record_of (item_of e) (bytes_of e))

    by_size : (a b : Bool) → ltb 16384 size ≡ a → (next : Writer)
        → pick a (W.Refused 1 16384) (pick b (W.Refused 14 0) (W.Added next)) ≡ W.Refused n w.at → admit w.state e ≡ T.Refused n
    by_size true b h next q = absurd (omega (arith, ltb-true 16384 size h))
    by_size false true h next q =
        let number : 14 ≡ n = cc in
        absurd (omega arith)
    by_size false false h next q = absurd (cc)

    by_turn : (turn : Turn) → admit w.state e ≡ turn
        → placing w.at turn (length (record_of (item_of e) (bytes_of e))) room ≡ W.Refused n w.at → admit w.state e ≡ T.Refused n
    by_turn (T.Next s) q h = by_size (ltb 16384 size) (ltb room size) refl (record { state = s; at = size }) h
    by_turn (T.Refused m) q h =
        let number : m ≡ n = cc in
        q ∙ ap T.Refused number

-- a writer that was started fresh refuses an entry as the reader refuses its record behind the bytes written so far
pub writer-as-reader : (es : List Entry) (buffer : List ℕ) (w : Writer) (left : List ℕ) → Writes fresh_writer buffer es w left → AllFit es
    → (e : Entry) → HasRecord e → (room : ℕ) (rest : List ℕ)
    → length (encode es ++ (record_of (item_of e) (bytes_of e) ++ rest)) ≤ 16384 → (n : ℕ) → n ≤ 8
    → (writing w (item_of e) (bytes_of e) room ≡ W.Refused n w.at)
    ↔ (reading (encode es ++ (record_of (item_of e) (bytes_of e) ++ rest)) ≡ A.Refused n w.at)
writer-as-reader es buffer w left h fit e has room rest short n few =
    let r = record_of (item_of e) (bytes_of e) in
    let k = written es fresh_writer buffer w left h (omega arith) (omega arith) in
    let place = k.place in
    let here : w.at ≡ length (encode es) = omega arith in
    let front = length-append (encode es) (r ++ rest) in
    let back = length-append r rest in
    let inside-bound : w.at + length r ≤ 16384 = omega arith in
    Iff.trans (writer-refuses w e room inside-bound n few)
    (reader-refuses es w.state k.leads fit e has rest (encode es ++ (r ++ rest)) w.at refl here short n)

-- a value of no bytes or over 128 has no record: what its kind alone decides refuses it, and else 6
pub no_record : (w : Writer) (bytes : List ℕ) (room : ℕ) → (length bytes ≡ 0) ⊎ (128 < length bytes)
    → writing w I.Value bytes room
    ≡ W.Refused (pick (eqb (due_of w.state (K.Value (length bytes))) 0) 6 (due_of w.state (K.Value (length bytes)))) w.at
unfolding writing admit_item
no_record w bytes room h = rw (long h) (by (eqb due 0) (leb 64 w.state.values))
  where
    due : ℕ
    due = due_of w.state (K.Value (length bytes))

    long : (length bytes ≡ 0) ⊎ (128 < length bytes) → (eqb (length bytes) 0 || ltb 128 (length bytes)) ≡ true
    long (inl e) = rw (eq-eqb (length bytes) 0 e)
    long (inr l) = rw (lt-ltb 128 (length bytes) l, ne_eqb (length bytes) 0 (omega arith))

    by : (a b : Bool)
        → placing w.at (pick a (pick b (T.Refused 6) (T.Refused 6)) (T.Refused due)) (length (record_of I.Value bytes)) room
        ≡ W.Refused (pick a 6 due) w.at
    by true true = refl
    by true false = refl
    by false b = refl
