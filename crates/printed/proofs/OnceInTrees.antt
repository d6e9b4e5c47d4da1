-- In a sound Condition no operator and, under it, no key is met twice: it has groups with each once.
use Rattle.std.proofs.Common.{ℕ, zero, suc, ◌+◌, ◌<◌, ◌≡◌, refl, sym, ◌∙◌, ap, Bool, true, false, ◌&&◌, ◌||◌, List, [], ◌∷◌, map, ◌⊎◌, inl, inr, eqb, ltb, length, arith, eq-eqb, eqb-true, ltb-true, ltb-false}
use Rattle.json_text.specs.Choice.{pick, same_bytes}
use Rattle.json_text.specs.Trees.{Tree}
use Rattle.json_text.specs.Trees.Shape.{one, named}
use Rattle.json_text.specs.Trees.Tree.{text, other, list, object, end_object, member}
use Rattle.json_text.proofs.Choosing.{never, both_left, both_right}
use Rattle.members.specs.Machinery.Verdicts as Mb
use Rattle.members.specs.Members.{Verdict, place_from, operator_names, key_names, small, operator_kind, key_kind}
use Rattle.members.specs.Machinery.Verdicts.{following, is_seen, add, is_bad}
use Rattle.members.specs.Members.Verdict.{fine, refused}
use Rattle.stored.specs.Operators.{row_of}
use Rattle.stored.specs.Tables.{Condition}
use Rattle.stored.specs.declared.items.Operator.{Operator}
use Rattle.stored.specs.declared.items.Key.{Key}
use Rattle.stored.specs.declared.items.Sort.{Sort}
use Rattle.records.specs.Documents.{members_of, operator_at, key_at, listed, strings, conditions_under, conditions_of}
use Rattle.printed.specs.Machinery.Groups.{operator_number, key_number, Keyed, Group, keyed_conditions, group_conditions, NoKey, KeysOnce, NoOperator, GroupsOnce}
use Rattle.printed.proofs.Marks.{seen_more}

-- a fault is not none
pub both-fine : (c m : Verdict) → following c m ≡ fine → (c ≡ fine) × (m ≡ fine)
both-fine fine m e = (refl, e)
both-fine (refused k n) m e = never (cc)

pub member-fine : (bad : Bool) (n : ℕ) (c m : Verdict) → pick bad (refused 21 n) (following c m) ≡ fine → (bad ≡ false) × (c ≡ fine) × (m ≡ fine)
member-fine true n c m e = never (cc)
member-fine false n c m e = (refl, (both-fine c m e).0, (both-fine c m e).1)

neither : (a b : Bool) → (a || b) ≡ false → (a ≡ false) × (b ≡ false)
neither true b e = never (cc)
neither false b e = (refl, e)

-- a test that holds below a number, computed
abbrev all_below : (ℕ → Bool) → ℕ → Bool
all_below f zero = true
all_below f (suc n) = all_below f n && f n

below : (f : ℕ → Bool) (n : ℕ) → all_below f n ≡ true → (k : ℕ) → k < n → f k ≡ true
below f zero h k l = absurd (omega arith)
below f (suc n) h k l = by (ltb k n) refl (below f n (both_left (all_below f n) (f n) h) k)
  where
    by : (b : Bool) → ltb k n ≡ b → (k < n → f k ≡ true) → f k ≡ true
    by true e more = more (ltb-true k n e)
    by false e more =
        let m = ltb-false k n e in
        let same : k ≡ n = omega arith in
        rw same (both_right (all_below f n) (f n) h)

number-back : (k : ℕ) → k < 12 → operator_number (operator_at (suc k)) ≡ suc k
number-back k l =
    eqb-true (operator_number (operator_at (suc k))) (suc k) (below (λ j. eqb (operator_number (operator_at (suc j))) (suc j)) 12 refl k l)

key-number-back : (k : ℕ) → k < 5 → key_number (key_at (suc k)) ≡ suc k
key-number-back k l = eqb-true (key_number (key_at (suc k))) (suc k) (below (λ j. eqb (key_number (key_at (suc j))) (suc j)) 5 refl k l)

-- a place in a list of names is no more than their number
place-bound : (n : ℕ) (ys : List (List ℕ)) (x : List ℕ) → place_from n ys x < n + length ys ⊎ (place_from n ys x ≡ 0)
place-bound n [] x = inr refl
place-bound n (y ∷ ys) x = by (same_bytes x y) (place-bound (suc n) ys x)
  where
    by : (b : Bool) → (place_from (suc n) ys x < suc n + length ys) ⊎ (place_from (suc n) ys x ≡ 0)
        → (pick b n (place_from (suc n) ys x) < n + suc (length ys)) ⊎ (pick b n (place_from (suc n) ys x) ≡ 0)
    by true h = inl (omega arith)
    by false (inl h) = inl (omega arith)
    by false (inr h) = inr h

operator-known : (x : List ℕ) → eqb (operator_kind x) 0 ≡ false → operator_number (operator_at (operator_kind x)) ≡ operator_kind x
unfolding operator_kind operator_names
operator-known x h = by (operator_kind x) (place-bound 1 operator_names x) h
  where
    by : (k : ℕ) → (k < 13) ⊎ (k ≡ 0) → eqb k 0 ≡ false → operator_number (operator_at k) ≡ k
    by zero b h = never (cc)
    by (suc k) (inl l) h = number-back k (omega arith)
    by (suc k) (inr e) h = absurd (omega arith)

key-known : (x : List ℕ) → eqb (key_kind x) 0 ≡ false → key_number (key_at (key_kind x)) ≡ key_kind x
unfolding key_kind key_names
key-known x h = by (key_kind x) (place-bound 1 (map (map small) key_names) (map small x)) h
  where
    by : (k : ℕ) → (k < 6) ⊎ (k ≡ 0) → eqb k 0 ≡ false → key_number (key_at k) ≡ k
    by zero b h = never (cc)
    by (suc k) (inl l) h = key-number-back k (omega arith)
    by (suc k) (inr e) h = absurd (omega arith)

-- the groups of a Condition
abbrev pub tree_keys : Sort → Tree named → List Keyed
tree_keys s (end_object n) = []
tree_keys s (member n x v ms) = record { key = key_at (key_kind x); values = listed s (strings v) } ∷ tree_keys s ms

abbrev pub tree_groups : Tree named → List Group
tree_groups (end_object n) = []
tree_groups (member n x v ms) =
    record { operator = operator_at (operator_kind x); keys = tree_keys (row_of (operator_at (operator_kind x))).sort (members_of v) } ∷ tree_groups ms

keys-same : (o : Operator) (ms : Tree named) (cs : List Condition) → conditions_under o ms cs ≡ keyed_conditions o (tree_keys (row_of o).sort ms) cs
keys-same o (end_object n) cs = refl
keys-same o (member n x v ms) cs =
    ap (λ (xs : List Condition). record { operator = o; key = key_at (key_kind x); values = listed (row_of o).sort (strings v) } ∷ xs) (keys-same o ms cs)

pub groups-same : (ms : Tree named) → conditions_of ms ≡ group_conditions (tree_groups ms)
groups-same (end_object n) = refl
groups-same (member n x v ms) =
    keys-same (operator_at (operator_kind x)) (members_of v) (conditions_of ms)
    ∙ ap (keyed_conditions (operator_at (operator_kind x)) (tree_keys (row_of (operator_at (operator_kind x))).sort (members_of v))) (groups-same ms)

or-true : (a : Bool) → (a || true) ≡ true
or-true true = refl
or-true false = refl

-- a mark that was made is seen, and so is one that was there
now-seen : (seen j k : ℕ) → k ≡ j → is_seen (add seen j) k ≡ true
now-seen seen j k e = seen_more seen j k ∙ rw (eq-eqb k j e) (or-true (is_seen seen k))

still_seen : (seen j k : ℕ) → is_seen seen k ≡ true → is_seen (add seen j) k ≡ true
still_seen seen j k e = seen_more seen j k ∙ rw e

-- a member's kind is new
fresh : (k seen : ℕ) → is_bad k k seen ≡ false → (eqb k 0 ≡ false) × (is_seen seen k ≡ false)
fresh k seen e = neither (eqb k 0) (is_seen seen k) e

-- what is seen is not what is new
apart : (seen a b : ℕ) → is_seen seen a ≡ true → is_seen seen b ≡ false → b ≡ a → ⊥
apart seen a b h f e = let g : is_seen seen a ≡ false = rw e at f in never (cc)

keys-once : (s : Sort) (seen : ℕ) (ms : Tree named) → Mb.keys seen ms ≡ fine
    → KeysOnce (tree_keys s ms) × ((k : Key) → is_seen seen (key_number k) ≡ true → NoKey k (tree_keys s ms))
keys-once s seen (end_object n) e = (tt, λ k h. tt)
keys-once s seen (member n x v ms) e =
    let f = member-fine (is_bad (key_kind x) (key_kind x) seen) n (Mb.strings v) (Mb.keys (add seen (key_kind x)) ms) e in
    let g = fresh (key_kind x) seen f.0 in
    let b = key-known x g.0 in
    let more = keys-once s (add seen (key_kind x)) ms f.2 in (
      (more.1 (key_at (key_kind x)) (now-seen seen (key_kind x) (key_number (key_at (key_kind x))) b), more.0),
      λ k h. (
        λ q. apart seen (key_number k) (key_kind x) h g.1 (sym b ∙ ap key_number q),
        more.1 k (still_seen seen (key_kind x) (key_number k) h),
      ),
    )

operator-once : (s : Sort) (v : Tree one) → Mb.operator v ≡ fine → KeysOnce (tree_keys s (members_of v))
operator-once s (text n bs) e = never (cc)
operator-once s (other n) e = never (cc)
operator-once s (list n es) e = never (cc)
operator-once s (object n ms) e = (keys-once s 0 ms e).0

pub groups-once : (seen : ℕ) (ms : Tree named) → Mb.operators seen ms ≡ fine
    → GroupsOnce (tree_groups ms) × ((o : Operator) → is_seen seen (operator_number o) ≡ true → NoOperator o (tree_groups ms))
groups-once seen (end_object n) e = (tt, λ o h. tt)
groups-once seen (member n x v ms) e =
    let f = member-fine (is_bad (operator_kind x) (operator_kind x) seen) n (Mb.operator v) (Mb.operators (add seen (operator_kind x)) ms) e in
    let g = fresh (operator_kind x) seen f.0 in
    let b = operator-known x g.0 in
    let more = groups-once (add seen (operator_kind x)) ms f.2 in (
      (
        more.1 (operator_at (operator_kind x)) (now-seen seen (operator_kind x) (operator_number (operator_at (operator_kind x))) b),
        operator-once (row_of (operator_at (operator_kind x))).sort v f.1,
        more.0,
      ),
      λ o h. (
        λ q. apart seen (operator_number o) (operator_kind x) h g.1 (sym b ∙ ap operator_number q),
        more.1 o (still_seen seen (operator_kind x) (operator_number o) h),
      ),
    )
