-- The round trip of whole tables: a table that reads is the records of its entries, one behind the other; a fresh writer given them
-- writes just these bytes; and what a fresh writer has written, the end last, reads back as the same entries.
use Rattle.std.proofs.Common.{ℕ, zero, suc, ◌+◌, ◌-◌, ◌≤◌, ◌<◌, ◌≡◌, refl, sym, ◌∙◌, ap, Bool, true, false, List, [], ◌∷◌, ◌++◌, append_assoc, append-nil, arith, ltb, length, take, drop, length-append, take-append-drop, drop_of_length-le, take_at, drop_at, drop-drop, ltb-false}
use Rattle.std.proofs.lemmas.List.Edits.{sets}
use Rattle.std.proofs.Math.Seq.{take-append_seam, drop-append_seam}
use Rattle.stored.specs.Choice.{pick}
use Rattle.stored.specs.Records.{Record as R, record_at}
use Rattle.stored.specs.Machine.{Turn as T, fresh_state, is_ended, admit_item}
use Rattle.stored.specs.Reading.{Step as S, ReadAnswer as A, Step, finish_of, step_at, after_step, read_from, reading}
use Rattle.stored.specs.Writing.{fresh_writer, record_of}
use Rattle.stored.specs.Entries.{Entry, entry_of, item_of, bytes_of, encode, entries_from, entries_of, Bytes, AllFit, Writes}
use Rattle.stored.specs.Machinery.Following.{admit}
use Rattle.stored.specs.Entries.Entry.{start, statement, column, condition, network, value, end}
use Rattle.stored.specs.declared.items.Item.TheVariants as I
use Rattle.stored.specs.declared.machine.State.{State}
use Rattle.stored.specs.declared.writer.Writer.{Writer}
use Rattle.stored.proofs.Walking.{inside, past, goes_on_lem, ends-cut}
use Rattle.stored.proofs.Steps.{Taken, taken, goes-inside, steps, at-end, goes, begins}
use Rattle.stored.proofs.Turns.{same-admit, admitted, turned}
use Rattle.stored.proofs.Accepting.{Leads, entries-taken, read_through, read-leads}
use Rattle.stored.proofs.OneRecord.{entry-there, record-again, same-record}
use Rattle.stored.proofs.Placing.{writes, written, added}

-- the bytes from a place on are the record there, and the bytes behind it
record-first : (s : State) (t : List ℕ) (at : ℕ) (u : State) (p : ℕ) (k : Taken s t at u p) → Bytes t
    → record_of (item_of (entry_of k.item (take k.size (drop k.begin t)))) (bytes_of (entry_of k.item (take k.size (drop k.begin t))))
    ++ drop p t
    ≡ drop at t
record-first s t at u p k h =
    let n = k.size in
    let r = inside t at k.item k.begin n k.found in
    let next = k.next in
    let e : p ≡ at + suc n = omega arith in
    rw (same-record, ← record-again t at k.item k.begin n k.found h, e, ← drop-drop (suc n) at t) (take-append-drop (suc n) (drop at t))

-- bytes that read from a place on are the records of their entries
whole_from : (f : ℕ) (t : List ℕ) (s : State) (at n : ℕ) → Bytes t → length t - at ≤ f → read_from f t s at ≡ A.Accepted n
    → encode (entries_from t at) ≡ drop at t
whole_from zero t s at n b h e =
    rw (ends-cut t at (past t at (omega arith))) (sym (drop_of_length-le t {i = at} (omega arith)))
whole_from (suc f) t s at n b h e = place (ltb at (length t)) refl (λ u p r. whole_from f t u p n b (omega arith)) e
  where
    step : (r : Step) → step_at s t at ≡ r
        → ((u : State) (p : ℕ) → (at < p) × (p ≤ length t) → read_from f t u p ≡ A.Accepted n → encode (entries_from t p) ≡ drop p t)
        → after_step (read_from f t) at r ≡ A.Accepted n → encode (entries_from t at) ≡ drop at t
    step (S.Goes u p) e go a =
        let k = taken s t at u p e in
        rw (entries-taken s t at u p k, go u p (goes-inside s t at u p e) a) (record-first s t at u p k b)
    step (S.Stops m) e go a = absurd (cc)

    place : (c : Bool) → ltb at (length t) ≡ c
        → ((u : State) (p : ℕ) → (at < p) × (p ≤ length t) → read_from f t u p ≡ A.Accepted n → encode (entries_from t p) ≡ drop p t)
        → pick c (after_step (read_from f t) at (step_at s t at)) (finish_of s at) ≡ A.Accepted n → encode (entries_from t at) ≡ drop at t
    place true e go a = step (step_at s t at) refl go a
    place false e go a =
        rw (ends-cut t at (past t at (ltb-false at (length t) e))) (sym (drop_of_length-le t (ltb-false at (length t) e)))

-- a table that reads is the records of its entries
pub accepted-whole : (t : List ℕ) (n : ℕ) → Bytes t → reading t ≡ A.Accepted n → encode (entries_of t) ≡ t
accepted-whole t n b e = whole_from (length t) t fresh_state 0 n b (omega arith) (read_through t n e).1

-- a fresh writer given the entries of a table that reads writes just its bytes
pub write_read : (t : List ℕ) (n : ℕ) → Bytes t → reading t ≡ A.Accepted n → (buffer : List ℕ) → length t ≤ length buffer
    → (last : Writer) × (left : List ℕ) × Writes fresh_writer buffer (entries_of t) last left
    × (last.at ≡ length t) × (take (length t) left ≡ t) × (drop (length t) left ≡ drop (length t) buffer)
write_read t n b e buffer room =
    let l = read-leads t n e in
    let whole = accepted-whole t n b e in
    let size : length (encode (entries_of t)) ≡ length t = ap length whole in
    let short = (read_through t n e).0 in
    let place : length t ≡ 0 + length (encode (entries_of t)) = omega arith in (
      record { state = l.last; at = length t },
      t ++ drop (length t) buffer,
      writes (entries_of t) fresh_state l.last 0 buffer (t ++ drop (length t) buffer) (record { state = l.last; at = length t })
          l.leads (omega arith) (omega arith)
          (ap (λ (m : ℕ). record { state = l.last; at = m }) place)
          (ap (λ (m : ℕ). t ++ drop m buffer) place ∙ ap (λ (bytes : List ℕ). bytes ++ drop (0 + length (encode (entries_of t))) buffer) (sym whole)),
      refl,
      take-append_seam t (drop (length t) buffer),
      drop-append_seam t (drop (length t) buffer),
    )

-- a record has its kind byte at least
record-long : (e : Entry) → 0 < length (record_of (item_of e) (bytes_of e))
record-long (start n) = omega arith
record-long (statement e) = omega arith
record-long (column c) = omega arith
record-long (condition o k) = omega arith
record-long (network a n) = omega arith
record-long (value bs) = omega arith
record-long end = omega arith

-- reading and the walk pass over the records of entries that the state machine takes, wherever these begin and whatever follows
pub passes : (es : List Entry) (s last : State) → Leads s es last → AllFit es
    → (front back t : List ℕ) (at p : ℕ) → t ≡ front ++ (encode es ++ back) → at ≡ length front → p ≡ at + length (encode es)
    → (read_from (length t - at) t s at ≡ read_from (length t - p) t last p) × (entries_from t at ≡ es ++ entries_from t p)
passes [] s last l f front back t at p e h g =
    let same : at ≡ p = omega arith in (
      ap (λ (q : ℕ). read_from (length t - q) t s q) same ∙ ap (λ (x : State). read_from (length t - p) t x p) l,
      ap (entries_from t) same,
    )
passes (x ∷ es) s last l f front back t at p e h g =
    let r = record_of (item_of x) (bytes_of x) in
    let n = length r - 1 in
    let u = l.0 in
    let whole : t ≡ front ++ (r ++ (encode es ++ back)) = e ∙ ap (front ++◌) (append_assoc r (encode es) back) in
    let k = entry-there s x u f.0 l.1 front (encode es ++ back) in
    let found : record_at t at ≡ R.Is (item_of x) (at + 1) n = rw (whole, h) k.found in
    let again : entry_of (item_of x) (take n (drop (at + 1) t)) ≡ x = rw (whole, h) k.again in
    let turn : admit_item s (item_of x) (take n (drop (at + 1) t)) ≡ T.Next u
    = sym (same-admit s (item_of x) (take n (drop (at + 1) t))) ∙ ap (admit s) again ∙ l.1 in
    let step = steps s t at (item_of x) (at + 1) n u found turn in
    let lies = inside t at (item_of x) (at + 1) n found in
    let next = at + 1 + n in
    let size = length-append front r in
    let long = length-append r (encode es) in
    let rest = passes es u last l.2 f.1 (front ++ r) back t next p
    (whole ∙ sym (append_assoc front r (encode es ++ back))) (omega (arith, record-long x)) (omega (arith, record-long x)) in (
      goes t s at u next (omega arith) step ∙ rest.0,
      goes_on_lem t at (item_of x) (at + 1) n found ∙ ap (◌∷ entries_from t next) again ∙ ap (x ∷◌) rest.1,
    )

-- the records of a table's entries read as that table
pub reads-back : (es : List Entry) (last : State) → Leads fresh_state es last → is_ended last.phase ≡ true → AllFit es
    → length (encode es) ≤ 16384
    → (reading (encode es) ≡ A.Accepted last.rows) × (entries_of (encode es) ≡ es)
reads-back es last l d f short =
    let t = encode es in
    let r = passes es fresh_state last l f [] [] t 0 (length t) (sym (append-nil t)) refl (omega arith) in (
      begins t short ∙ r.0 ∙ at-end (length t - length t) t last (length t) (omega arith) ∙ rw d,
      r.1 ∙ ap (es ++◌) (ends-cut t (length t) (past t (length t) (omega arith))) ∙ append-nil es,
    )

-- what a fresh writer has written so far: the records of the entries that it took, from the buffer's first byte on
pub so_far : (es : List Entry) (buffer : List ℕ) (last : Writer) (left : List ℕ) → Writes fresh_writer buffer es last left
    → (last.at ≡ length (encode es)) × (take last.at left ≡ encode es) × (drop last.at left ≡ drop last.at buffer)
so_far es buffer last left h =
    let k = written es fresh_writer buffer last left h (omega arith) (omega arith) in
    let place = k.place in
    let size : length (encode es) ≡ last.at = omega arith in
    let behind = drop (0 + length (encode es)) buffer in (
      sym size,
      ap (take last.at) k.holds ∙ take_at (encode es) behind last.at size,
      ap (drop last.at) k.holds ∙ drop_at (encode es) behind last.at size ∙ ap (λ (n : ℕ). drop n buffer) (sym place),
    )

-- what a fresh writer has written, with the end as the last entry, reads back as the same entries
pub read-write : (es : List Entry) (buffer : List ℕ) (last : Writer) (left : List ℕ) → Writes fresh_writer buffer es last left
    → AllFit es → is_ended last.state.phase ≡ true
    → (reading (take last.at left) ≡ A.Accepted last.state.rows) × (entries_of (take last.at left) ≡ es)
read-write es buffer last left h f d =
    let k = written es fresh_writer buffer last left h (omega arith) (omega arith) in
    rw (so_far es buffer last left h).1 (reads-back es last.state k.leads d f (omega arith))

-- an end that is taken last ends the table
pub ends : (es : List Entry) (w : Writer) (buffer : List ℕ) (last : Writer) (left : List ℕ)
    → Writes w buffer (es ++ (end ∷ [])) last left → is_ended last.state.phase ≡ true
ends [] w buffer last left h =
    let a = added w I.End [] (length buffer) h.0 h.1 in
    let u = turned w.state end h.0.state (admitted w.state I.End [] h.0.state a.admits).1 in
    ap (λ (x : Writer). is_ended x.state.phase) (sym h.2.0) ∙ ap (λ (x : State). is_ended x.phase) u
ends (e ∷ es) w buffer last left h = ends es h.0 (sets buffer w.at (record_of (item_of e) (bytes_of e))) last left h.2
