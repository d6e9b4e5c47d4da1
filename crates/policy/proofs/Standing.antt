-- The item that stands for a wish does in the machine and in the writer what the wish does.
use Rattle.std.proofs.Common.{Ok, ℕ, ◌+◌, ◌-◌, ◌≤◌, Bool, true, false, ◌≡◌, refl, sym, ◌∙◌, ap, List, [], arith, eqb, leb, ltb, length, take, drop, length-take-le, take_all, drop-drop, lt-ltb, leb-true, leb-false, ne_eqb, ltb-false}
use Rattle.json_text.specs.Choice.{pick}
use Rattle.stored.specs.Machine.{admit_item, due_of, start_turn, counted_state}
use Rattle.stored.specs.Writing.{record_of, placing, writing, buffer_after, would_take, would_write}
use Rattle.stored.specs.Entries.Entry.{start, value}
use Rattle.stored.specs.declared.items.Item.{Item}
use Rattle.stored.specs.declared.items.Item.TheVariants as I
use Rattle.stored.specs.declared.records.Kind.TheVariants as K
use Rattle.stored.specs.declared.machine.State.{State}
use Rattle.stored.specs.Machine.{Turn as T, Turn}
use Rattle.stored.specs.declared.writer.Writer.{Writer}
use Rattle.stored.specs.Writing.{WriteAnswer}
use Rattle.json_text.specs.Machinery.Pieces.{content_of}
use Rattle.stored.proofs.Choosing.{never}
use Rattle.records.specs.Networks as N
use Rattle.records.specs.Networks.{network_of}
use Rattle.records.specs.Machinery.Cursors.{wish_of}
use Rattle.records.specs.declared.wishes.Wish.TheVariants as C
use Rattle.records.specs.Wishes.{Wish, network_wish}
use Rattle.records.specs.Wishes.Wish.{made}
use Rattle.records.specs.Records.{unread_fault, wish_turn}
use Rattle.policy.specs.Machinery.Asking.{at_most_255, unread_number, wish_record, Stands, Asks, wish_would, wish_writing}
use Rattle.policy.proofs.LongValues.{first-turn, taken-whole}

pub stands-would : (s : State) (x : Wish) (i : Item) (bs : List ℕ) → Stands s x i bs → would_write s i bs ≡ wish_would s x
unfolding would_write
stands-would s x i bs h = rw h.turns (by (wish_turn s x) h.writes)
  where
    by : (t : Turn) → ((next : State) → t ≡ T.Next next → record_of i bs ≡ wish_record x)
        → would_take t (length (record_of i bs)) ≡ would_take t (length (wish_record x))
    by (T.Next next) f = rw (f next refl)
    by (T.Refused n) f = refl

pub stands-writing : (w : Writer) (x : Wish) (i : Item) (bs : List ℕ) (room : ℕ) → Stands w.state x i bs
    → writing w i bs room ≡ wish_writing w x room
unfolding writing
stands-writing w x i bs room h = rw h.turns (by (wish_turn w.state x) h.writes)
  where
    by : (t : Turn) → ((next : State) → t ≡ T.Next next → record_of i bs ≡ wish_record x)
        → placing w.at t (length (record_of i bs)) room ≡ placing w.at t (length (wish_record x)) room
    by (T.Next next) f = rw (f next refl)
    by (T.Refused n) f = refl

-- and the same bytes are laid down
pub stands-laid : (w : Writer) (x : Wish) (i : Item) (bs buffer : List ℕ) (r : WriteAnswer) → Stands w.state x i bs
    → r ≡ wish_writing w x (length buffer)
    → buffer_after w.at (record_of i bs) buffer r ≡ buffer_after w.at (wish_record x) buffer r
stands-laid w x i bs buffer r h e = rw e (by (wish_turn w.state x) h.writes)
  where
    by : (t : Turn) → ((next : State) → t ≡ T.Next next → record_of i bs ≡ wish_record x)
        → buffer_after w.at (record_of i bs) buffer (placing w.at t (length (wish_record x)) (length buffer))
        ≡ buffer_after w.at (wish_record x) buffer (placing w.at t (length (wish_record x)) (length buffer))
    by (T.Next next) f = rw (f next refl)
    by (T.Refused n) f = refl

-- the first 129 bytes of a value
pub value-stands : (s : State) (n : ℕ) (bs : List ℕ) → Stands s (made n (value bs)) I.Value (take 129 bs)
value-stands s n bs =
    record {
      turns = first-turn s bs;
      writes = λ next e. ap (λ (xs : List ℕ). record_of I.Value xs) (taken-whole s next bs e);
    }

-- a number of statements in one byte
start-turns : (s : State) (c : ℕ) → admit_item s (I.Start (at_most_255 c)) [] ≡ admit_item s (I.Start c) []
unfolding admit_item
start-turns s c = by (ltb c 255) refl
  where
    by : (x : Bool) → ltb c 255 ≡ x
        → pick (eqb (due_of s K.Start) 0) (start_turn (pick x c 255)) (T.Refused (due_of s K.Start))
        ≡ pick (eqb (due_of s K.Start) 0) (start_turn c) (T.Refused (due_of s K.Start))
    by true e = refl
    by false e = rw (lt-ltb 32 c (omega (arith, ltb-false c 255 e)))

start_small : (s next : State) (c : ℕ) → admit_item s (I.Start c) [] ≡ T.Next next → at_most_255 c ≡ c
unfolding admit_item
start_small s next c h = by (ltb 32 c) refl (eqb (due_of s K.Start) 0) h
  where
    by : (x : Bool) → ltb 32 c ≡ x → (y : Bool)
        → pick y (pick x (T.Refused 6) (T.Next (counted_state c))) (T.Refused (due_of s K.Start)) ≡ T.Next next → at_most_255 c ≡ c
    by true e true g = never (cc)
    by true e false g = never (cc)
    by false e y g = rw (lt-ltb c 255 (omega (arith, ltb-false 32 c e)))

pub start-stands : (s : State) (n c : ℕ) → Stands s (made n (start c)) (I.Start (at_most_255 c)) []
start-stands s n c =
    record {
      turns = start-turns s c;
      writes = λ next e. rw (start_small s next c e);
    }

-- a string that is a network, and one that is none
pub network-stands : (s : State) (n a k : ℕ) (bs : List ℕ) (x : N.Read) → N.Read.network a k ≡ x → Stands s (network_wish n bs x) (I.Network a k) []
network-stands s n a k bs x e = rw (sym e) (record { turns = refl; writes = λ next f. refl })

pub unread-refused : (s : State) (n size : ℕ) (bs : List ℕ) (x : N.Read) → N.Read.none ≡ x → size ≡ length (take 129 bs)
    → wish_turn s (network_wish n bs x) ≡ T.Refused (unread_number s.values size)
unread-refused s n size bs x e f = rw (sym e, f) (by (leb (length bs) 128) refl)
  where
    by : (y : Bool) → leb (length bs) 128 ≡ y → T.Refused (unread_fault s bs) ≡ T.Refused (unread_number s.values (length (take 129 bs)))
    by true g = rw (take_all 129 bs (omega (arith, leb-true (length bs) 128 g)))
    by false g =
        let h = leb-false (length bs) 128 g in
        let l = length-take-le 129 bs (omega arith) in
        rw (l, lt-ltb 128 (length bs) h, ne_eqb (length bs) 0 (λ z. omega arith))

-- a string whose first 129 bytes are copied: as a value
pub value-asks : (s : State) (t bytes : List ℕ) (place from size : ℕ) → drop from t ≡ drop 1 (drop place t) → length bytes ≡ 129 → size ≤ 129
    → take size bytes ≡ take 129 (content_of (drop from t)) → Asks s (wish_of t C.Value place) bytes (Ok (I.Value, size))
value-asks s t bytes place from size e l h same =
    let there : take size bytes ≡ take 129 (content_of (drop (place + 1) t)) =
    same ∙ ap (λ (r : List ℕ). take 129 (content_of r)) (e ∙ drop-drop 1 place t) in
    (omega arith, rw there (value-stands s (length t - place) (content_of (drop (place + 1) t))))

-- and as a network
pub network-asks : (s : State) (t bytes : List ℕ) (place from a k : ℕ) → drop from t ≡ drop 1 (drop place t)
    → N.Read.network a k ≡ network_of (content_of (drop from t)) → Asks s (wish_of t C.Network place) bytes (Ok (I.Network a k, 0))
network-asks s t bytes place from a k e f =
    let content = content_of (drop (place + 1) t) in (
      omega arith,
      network-stands s (length t - place) a k content (network_of content) (f ∙ ap (λ (r : List ℕ). network_of (content_of r)) (e ∙ drop-drop 1 place t)),
    )

pub network-refused : (s : State) (t bytes : List ℕ) (place from size : ℕ) → drop from t ≡ drop 1 (drop place t)
    → N.Read.none ≡ network_of (content_of (drop from t)) → length bytes ≡ 129 → size ≤ 129 → take size bytes ≡ take 129 (content_of (drop from t))
    → wish_turn s (wish_of t C.Network place) ≡ T.Refused (unread_number s.values size)
network-refused s t bytes place from size e f l h same =
    let content = content_of (drop (place + 1) t) in
    let there : take size bytes ≡ take 129 content = same ∙ ap (λ (r : List ℕ). take 129 (content_of r)) (e ∙ drop-drop 1 place t) in
    let long : size ≡ length (take 129 content) = sym (length-take-le size bytes (omega arith)) ∙ ap (λ (r : List ℕ). length r) there in
    unread-refused s (length t - place) size content (network_of content)
    (f ∙ ap (λ (r : List ℕ). network_of (content_of r)) (e ∙ drop-drop 1 place t)) long
