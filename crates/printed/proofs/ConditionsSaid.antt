-- The printed conditions: they have no fault, they say the conditions, and each of them is wished for.
use Rattle.std.proofs.Common.{ℕ, suc, ◌<◌, ◌≡◌, refl, sym, ◌∙◌, ap, subst, Bool, true, false, List, [], ◌∷◌, inl, inr, eqb, length, arith, ne_eqb}
use Rattle.members.specs.Machinery.Verdicts as Mb
use Rattle.members.specs.Machinery.Verdicts.{is_seen, add}
use Rattle.members.specs.Members.Verdict.{fine}
use Rattle.stored.specs.Choice.{pick, In}
use Rattle.stored.specs.Operators.{row_of}
use Rattle.stored.specs.Tables.{Condition}
use Rattle.stored.specs.declared.items.Operator.{Operator}
use Rattle.stored.specs.declared.items.Key.{Key}
use Rattle.stored.specs.declared.items.Sort.{Sort}
use Rattle.records.specs.Documents.{operator_at, key_at, conditions_under, conditions_of}
use Rattle.records.specs.Wishes.{Wish, key_wishes, operator_wishes}
use Rattle.printed.specs.Machinery.Values.{Sound, located, print}
use Rattle.printed.specs.Machinery.Groups.{operator_number, key_number, Keyed, Group, keyed_conditions, group_conditions, is_of, joined, groups_of, NoKey, KeysOnce, NoOperator, GroupsOnce}
use Rattle.printed.specs.Machinery.Plans.{listed_values, key_members, group_members}
use Rattle.printed.proofs.Grouping.{same-operator}
use Rattle.printed.proofs.Marks.{none_seen, seen_more}
use Rattle.printed.proofs.Names.{operator-back, key_back, operator-some, key-some, operator-kind, key-kind, operator-shown, key-shown}
use Rattle.printed.proofs.ValuesSaid.{Holds, AllMade, list-sound, list-fine, list-said, list-made}

-- every list of values holds what it may, and one value or more
abbrev pub KeysHold : Sort → List Keyed → Type 0
KeysHold s [] = Unit {0}
KeysHold s (k ∷ ks) = Holds s k.values × (0 < length k.values) × KeysHold s ks

abbrev pub GroupsHold : List Group → Type 0
GroupsHold [] = Unit {0}
GroupsHold (g ∷ gs) = KeysHold (row_of g.operator).sort g.keys × GroupsHold gs

-- keys that are not marked yet
abbrev KeysFresh : ℕ → List Keyed → Type 0
KeysFresh seen [] = Unit {0}
KeysFresh seen (k ∷ ks) = (is_seen seen (key_number k.key) ≡ false) × KeysFresh seen ks

abbrev GroupsFresh : ℕ → List Group → Type 0
GroupsFresh seen [] = Unit {0}
GroupsFresh seen (g ∷ gs) = (is_seen seen (operator_number g.operator) ≡ false) × GroupsFresh seen gs

other_key : (j k : Key) → (k ≡ j → ⊥) → eqb (key_number k) (key_number j) ≡ false
other_key j k n = ne_eqb (key_number k) (key_number j) (λ e. n (sym (key_back k) ∙ ap key_at e ∙ key_back j))

other-operator : (o p : Operator) → (p ≡ o → ⊥) → eqb (operator_number p) (operator_number o) ≡ false
other-operator o p n = ne_eqb (operator_number p) (operator_number o) (λ e. n (sym (operator-back p) ∙ ap operator_at e ∙ operator-back o))

keys-fresh : (seen : ℕ) (j : Key) (ks : List Keyed) → NoKey j ks → KeysFresh seen ks → KeysFresh (add seen (key_number j)) ks
keys-fresh seen j [] n h = tt
keys-fresh seen j (k ∷ ks) n h =
    (seen_more seen (key_number j) (key_number k.key) ∙ rw (h.0, other_key j k.key n.0), keys-fresh seen j ks n.1 h.1)

groups-fresh : (seen : ℕ) (o : Operator) (gs : List Group) → NoOperator o gs → GroupsFresh seen gs → GroupsFresh (add seen (operator_number o)) gs
groups-fresh seen o [] n h = tt
groups-fresh seen o (g ∷ gs) n h = (
  seen_more seen (operator_number o) (operator_number g.operator) ∙ rw (h.0, other-operator o g.operator n.0),
  groups-fresh seen o gs n.1 h.1,
)

keys-start : (ks : List Keyed) → KeysFresh 0 ks
keys-start [] = tt
keys-start (k ∷ ks) = (none_seen (key_number k.key), keys-start ks)

groups-start : (gs : List Group) → GroupsFresh 0 gs
groups-start [] = tt
groups-start (g ∷ gs) = (none_seen (operator_number g.operator), groups-start gs)

-- no fault
keys-fine : (ks : List Keyed) (seen : ℕ) (r : List ℕ) → KeysOnce ks → KeysFresh seen ks → Mb.keys seen (located (key_members ks) r) ≡ fine
keys-fine [] seen r h f = refl
keys-fine (k ∷ ks) seen r h f =
    rw (key-kind k.key, key-some k.key, f.0, list-fine k.values (print true (key_members ks) r))
    (keys-fine ks (add seen (key_number k.key)) r h.1 (keys-fresh seen k.key ks h.0 f.1))

groups-fine-from : (gs : List Group) (seen : ℕ) (r : List ℕ) → GroupsOnce gs → GroupsFresh seen gs → Mb.operators seen (located (group_members gs) r) ≡ fine
groups-fine-from [] seen r h f = refl
groups-fine-from (g ∷ gs) seen r h f =
    rw (operator-kind g.operator, operator-some g.operator, f.0, keys-fine g.keys 0 (print true (group_members gs) r) h.1 (keys-start g.keys))
    (groups-fine-from gs (add seen (operator_number g.operator)) r h.2 (groups-fresh seen g.operator gs h.0 f.1))

pub groups-fine : (gs : List Group) (r : List ℕ) → GroupsOnce gs → Mb.operators 0 (located (group_members gs) r) ≡ fine
groups-fine gs r h = groups-fine-from gs 0 r h (groups-start gs)

-- bytes and depth
keys-sound : (s : Sort) (ks : List Keyed) (n : ℕ) → n < 8 → KeysHold s ks → Sound n (key_members ks)
keys-sound s [] n l h = tt
keys-sound s (k ∷ ks) n l h = (key-shown k.key, (l, list-sound s k.values (suc n) h.0), keys-sound s ks n l h.2)

pub groups-sound : (gs : List Group) (n : ℕ) → n < 7 → GroupsHold gs → Sound n (group_members gs)
groups-sound [] n l h = tt
groups-sound (g ∷ gs) n l h =
    (operator-shown g.operator, (omega arith, keys-sound (row_of g.operator).sort g.keys (suc n) (omega arith) h.0), groups-sound gs n l h.1)

-- what is said
keys-said : (o : Operator) (ks : List Keyed) (r : List ℕ) (cs : List Condition) → KeysHold (row_of o).sort ks
    → conditions_under o (located (key_members ks) r) cs ≡ keyed_conditions o ks cs
keys-said o [] r cs h = refl
keys-said o (k ∷ ks) r cs h =
    rw (
      key-kind k.key,
      key_back k.key,
      list-said (row_of o).sort k.values (print true (key_members ks) r) h.0,
      keys-said o ks r cs h.2,
    )

pub groups-said : (gs : List Group) (r : List ℕ) → GroupsHold gs → conditions_of (located (group_members gs) r) ≡ group_conditions gs
groups-said [] r h = refl
groups-said (g ∷ gs) r h =
    rw (operator-kind g.operator, operator-back g.operator, groups-said gs r h.1)
    (keys-said g.operator g.keys (print true (group_members gs) r) (group_conditions gs) h.0)

-- what is wished for
keys-made : (o : Operator) (ks : List Keyed) (r : List ℕ) (ws : List Wish) → KeysHold (row_of o).sort ks → AllMade ws
    → AllMade (key_wishes o (located (key_members ks) r) ws)
keys-made o [] r ws h k = k
keys-made o (x ∷ ks) r ws h k =
    list-made (row_of o).sort x.values (suc (length (print false (listed_values x.values) (print true (key_members ks) r)))) (print true (key_members ks) r)
    (key_wishes o (located (key_members ks) r) ws) h.0 h.1 (keys-made o ks r ws h.2 k)

pub groups-made : (gs : List Group) (r : List ℕ) (ws : List Wish) → GroupsHold gs → AllMade ws → AllMade (operator_wishes (located (group_members gs) r) ws)
groups-made [] r ws h k = k
groups-made (g ∷ gs) r ws h k =
    rw (operator-kind g.operator, operator-back g.operator)
    (keys-made g.operator g.keys (print true (group_members gs) r) (operator_wishes (located (group_members gs) r) ws) h.0 (groups-made gs r ws h.1 k))

-- the groups of conditions hold what these hold
joined-hold : (o : Operator) (k : Keyed) (gs : List Group) → Holds (row_of o).sort k.values → 0 < length k.values → GroupsHold gs
    → GroupsHold (joined o k gs)
joined-hold o k [] h l x = ((h, l, tt), tt)
joined-hold o k (g ∷ gs) h l x = by (is_of o g.operator) refl
  where
    by : (b : Bool) → is_of o g.operator ≡ b
        → GroupsHold (pick b (record { operator = o; keys = k ∷ g.keys } ∷ gs) (record { operator = o; keys = k ∷ [] } ∷ g ∷ gs))
    by true e = ((h, l, subst (λ (p : Operator). KeysHold (row_of p).sort g.keys) (sym (same-operator o g.operator e)) x.0), x.1)
    by false e = ((h, l, tt), x)

pub groups-hold : (cs : List Condition) → ((c : Condition) → In c cs → Holds (row_of c.operator).sort c.values × (0 < length c.values))
    → GroupsHold (groups_of cs)
groups-hold [] h = tt
groups-hold (c ∷ cs) h =
    let x = h c (inl refl) in
    joined-hold c.operator (record { key = c.key; values = c.values }) (groups_of cs) x.0 x.1 (groups-hold cs (λ d i. h d (inr i)))
