-- The writer's buffer: items that are added one after the other leave their records one behind the other, and every other byte as it
-- was.
use Rattle.std.proofs.Common.{ℕ, ◌+◌, ◌-◌, ◌≤◌, ◌≡◌, refl, sym, ◌∙◌, ap, Bool, true, false, List, [], ◌∷◌, ◌++◌, append_assoc, append-nil, arith, add-zero, ltb, length, take, drop, length-append, take-append-drop, length-take-le, take_at, drop_at, drop-drop, ltb-false, le-ltb}
use Rattle.std.proofs.lemmas.List.Edits.{sets, sets-eq}
use Rattle.std.proofs.Math.Seq.{length-sets}
use Rattle.stored.specs.Choice.{pick}
use Rattle.stored.specs.Machine.{Turn as T, Turn, admit_item}
use Rattle.stored.specs.Writing.{WriteAnswer as W, record_of, placing, writing}
use Rattle.stored.specs.Entries.{Entry, item_of, bytes_of, encode, Writes}
use Rattle.stored.specs.declared.items.Item.{Item}
use Rattle.stored.specs.declared.machine.State.{State}
use Rattle.stored.specs.declared.writer.Writer.{Writer}
use Rattle.stored.proofs.Accepting.{Leads}

-- bytes set at a place: what is before them stands in front of them, and what is behind stays
take-sets : (b r : List ℕ) (at : ℕ) → at + length r ≤ length b → take (at + length r) (sets b at r) ≡ take at b ++ r
take-sets b r at h =
    rw (sets-eq r b at h)
    (take_at (take at b ++ r) (drop (at + length r) b) (at + length r) (simp (length-append, length-take-le at b (omega arith))))

drop-sets : (b r : List ℕ) (at m : ℕ) → at + length r ≤ length b → at + length r ≤ m → drop m (sets b at r) ≡ drop m b
drop-sets b r at m h k =
    let n = at + length r in
    let e : n + (m - n) ≡ m = omega arith in
    let back : drop n (sets b at r) ≡ drop n b
    = rw (sets-eq r b at h)
    (drop_at (take at b ++ r) (drop (at + length r) b) (at + length r) (simp (length-append, length-take-le at b (omega arith)))) in
    ap (λ (q : ℕ). drop q (sets b at r)) (sym e) ∙ sym (drop-drop (m - n) n (sets b at r))
    ∙ ap (drop (m - n)) back ∙ drop-drop (m - n) n b ∙ ap (λ (q : ℕ). drop q b) e

-- a record set behind a place, then more behind it, is both set behind that place
placed : (b r x : List ℕ) (at m : ℕ) → at + length r ≤ length b → at + length r ≤ m
    → take (at + length r) (sets b at r) ++ x ++ drop m (sets b at r) ≡ take at b ++ (r ++ x) ++ drop m b
placed b r x at m h k = rw (take-sets b r at h, drop-sets b r at m h k, append_assoc (take at b) r x)

-- a buffer with these bytes from a place on
abbrev pub holding : List ℕ → ℕ → List ℕ → List ℕ
holding buffer at bytes = take at buffer ++ bytes ++ drop (at + length bytes) buffer

-- a writer that is led through entries writes them, where there is room
pub writes : (es : List Entry) (s last : State) (at : ℕ) (buffer left : List ℕ) (final : Writer) → Leads s es last
    → at + length (encode es) ≤ length buffer → at + length (encode es) ≤ 16384
    → final ≡ record { state = last; at = at + length (encode es) } → left ≡ holding buffer at (encode es)
    → Writes (record { state = s; at = at }) buffer es final left
unfolding writing
writes [] s last at buffer left final l room short f g = (
  rw (f, l, add-zero),
  rw (g, add-zero, append-nil) (sym (take-append-drop at buffer)),
)
writes (e ∷ es) s last at buffer left final l room short f g =
    let r = record_of (item_of e) (bytes_of e) in
    let long = length-append r (encode es) in
    let same : at + length (r ++ encode es) ≡ at + length r + length (encode es) = omega arith in (
      record { state = l.0; at = at + length r },
      rw (l.1, le-ltb 16384 (at + length r) (omega arith), le-ltb (length buffer) (at + length r) (omega arith)),
      writes es l.0 last (at + length r) (sets buffer at r) left final l.2
          (rw length-sets (omega arith)) (omega arith)
          (f ∙ ap (λ (n : ℕ). record { state = last; at = n }) same)
          (g ∙ ap (λ (n : ℕ). take at buffer ++ (r ++ encode es) ++ drop n buffer) same
          ∙ sym (placed buffer r (encode es) at (at + length r + length (encode es)) (omega arith) (omega arith))),
    )

-- an item that is added: the state machine takes it, and its record lies within 16,384 bytes and the buffer
pub record Adds (w : Writer) (i : Item) (bs : List ℕ) (room : ℕ) (next : Writer) : Type 0 where
  pub admits : admit_item w.state i bs ≡ T.Next next.state
  pub place : next.at ≡ w.at + length (record_of i bs)
  pub short : next.at ≤ 16384
  pub inside : next.at ≤ room

pub added : (w : Writer) (i : Item) (bs : List ℕ) (room : ℕ) (next : Writer) → writing w i bs room ≡ W.Added next → Adds w i bs room next
unfolding writing
added w i bs room next = by_turn (admit_item w.state i bs) refl
  where
    n : ℕ
    n = w.at + length (record_of i bs)

    by_size : (s : State) → admit_item w.state i bs ≡ T.Next s → (a b : Bool) → ltb 16384 n ≡ a → ltb room n ≡ b
        → pick a (W.Refused 1 16384) (pick b (W.Refused 14 0) (W.Added (record { state = s; at = n }))) ≡ W.Added next
        → Adds w i bs room next
    by_size s e true b ha hb h = absurd (cc)
    by_size s e false true ha hb h = absurd (cc)
    by_size s e false false ha hb h =
        let same : record { state = s; at = n } ≡ next = cc in
        let place : n ≡ next.at = ap (λ (x : Writer). x.at) same in
        record {
          admits = e ∙ ap (λ (x : Writer). T.Next x.state) same;
          place = sym place;
          short = rw (← place) (ltb-false 16384 n ha);
          inside = rw (← place) (ltb-false room n hb);
        }

    by_turn : (turn : Turn) → admit_item w.state i bs ≡ turn → placing w.at turn (length (record_of i bs)) room ≡ W.Added next
        → Adds w i bs room next
    by_turn (T.Next s) e h = by_size s e (ltb 16384 n) (ltb room n) refl refl h
    by_turn (T.Refused m) e h = absurd (cc)

-- what a writer leaves after these entries
pub record Left (w : Writer) (buffer : List ℕ) (es : List Entry) (last : Writer) (left : List ℕ) : Type 0 where
  pub leads : Leads w.state es last.state
  pub place : last.at ≡ w.at + length (encode es)
  pub short : last.at ≤ 16384
  pub inside : last.at ≤ length buffer
  pub holds : left ≡ holding buffer w.at (encode es)

pub written : (es : List Entry) (w : Writer) (buffer : List ℕ) (last : Writer) (left : List ℕ) → Writes w buffer es last left
    → w.at ≤ 16384 → w.at ≤ length buffer → Left w buffer es last left
written [] w buffer last left h short inside =
    let place : w.at ≡ last.at = ap (λ (x : Writer). x.at) h.0 in
    record {
      leads = ap (λ (x : Writer). x.state) h.0;
      place = omega arith;
      short = omega arith;
      inside = omega arith;
      holds = sym h.1 ∙ rw (add-zero, append-nil) (sym (take-append-drop w.at buffer));
    }
written (e ∷ es) w buffer last left h short inside =
    let r = record_of (item_of e) (bytes_of e) in
    let next = h.0 in
    let a = added w (item_of e) (bytes_of e) (length buffer) next h.1 in
    let place = a.place in
    let fits = a.inside in
    let l = written es next (sets buffer w.at r) last left h.2 a.short (rw length-sets fits) in
    let end = l.place in
    let long = length-append r (encode es) in
    let same : next.at + length (encode es) ≡ w.at + length (r ++ encode es) = omega arith in
    record {
      leads = (next.state, a.admits, l.leads);
      place = omega arith;
      short = l.short;
      inside = rw length-sets at l.inside;
      holds =
          l.holds
          ∙ ap (λ (n : ℕ). take n (sets buffer w.at r) ++ encode es ++ drop (next.at + length (encode es)) (sets buffer w.at r)) place
          ∙ placed buffer r (encode es) w.at (next.at + length (encode es)) (omega arith) (omega arith)
          ∙ ap (λ (n : ℕ). take w.at buffer ++ (r ++ encode es) ++ drop n buffer) same;
    }
