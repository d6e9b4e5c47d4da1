-- The wishes from the tokens of a sound document are those of its tree.
use Rattle.std.proofs.Common.{ℕ, suc, ◌+◌, ◌/◌, ◌≤◌, Bool, true, false, ◌≡◌, refl, ◌∙◌, ap, subst, List, [], ◌∷◌, arith, eqb, leb, length, eqb-true, leb-true, leb-false}
use Rattle.json_text.specs.Choice.{pick}
use Rattle.json_text.specs.Choice.{same_bytes}
use Rattle.json_text.specs.Trees.{Shape, Tree}
use Rattle.json_text.specs.Trees.Shape.{one, several, named}
use Rattle.json_text.specs.Trees.Tree.{text, other, list, object, end_list, element, end_object, member}
use Rattle.json_text.specs.Machinery.Tokens.{Token, flat}
use Rattle.stored.specs.Operators.{row_of}
use Rattle.stored.specs.Entries.Entry.{start, condition, end}
use Rattle.stored.specs.declared.items.Operator.{Operator}
use Rattle.stored.specs.declared.items.Key.{Key}
use Rattle.stored.specs.declared.items.Sort.{Sort}
use Rattle.stored.specs.declared.items.Sort.TheVariants as S
use Rattle.members.specs.Machinery.Verdicts as Mb
use Rattle.members.specs.Members.{Verdict, place, top_kind, row_kind, row_slot, itself, aws_kind, operator_kind, key_kind}
use Rattle.members.specs.Machinery.Verdicts.{following, is_seen, add, is_bad}
use Rattle.members.specs.Members.Verdict.{fine, refused}
use Rattle.records.specs.Documents.{Found, held, stated, each_statement, statements_under, marked, members_of, holder, same, bytes, operator_at, key_at}
use Rattle.records.specs.Wishes.{Wish, string_wish, each_wish, list_wishes, value_wishes, effect_wish, element_wishes, key_wishes, operator_wishes, statement_wishes, row_wishes, rows_wishes, wishes}
use Rattle.records.specs.Wishes.Wish.{made}
use Rattle.records.specs.Machinery.Walkers.{Sought, next_place}
use Rattle.records.specs.Machinery.Streams.{Spot, Among, values_from, conditions_from, effect_on, effect_from, element_from, condition_from, row_from, rows_from, count_from, statement_from, document_from}
use Rattle.records.specs.Machinery.Streams.Hold.{outside, fresh, filled}
use Rattle.records.proofs.Seeking.{sought_in, seeks}

-- two that are both fine; a member that is
both-fine : (c m : Verdict) → following c m ≡ fine → (c ≡ fine) × (m ≡ fine)
both-fine fine m e = (refl, e)
both-fine (refused k n) m e = absurd (cc)

member-fine : (bad : Bool) (n : ℕ) (c m : Verdict) → pick bad (refused 21 n) (following c m) ≡ fine → (bad ≡ false) × (c ≡ fine) × (m ≡ fine)
member-fine true n c m e = absurd (cc)
member-fine false n c m e = (refl, (both-fine c m e).0, (both-fine c m e).1)

-- strings
module _ (s : Sort) (r : List Wish) where
  each_from : (es : Tree several) (ts : List Token) → Mb.each_text es ≡ fine → values_from s r (flat es ts) filled ≡ each_wish s es r
  each_from (end_list n) ts e = refl
  each_from (element (text n bs) es) ts e = ap (λ (ws : List Wish). string_wish s n bs ∷ ws) (each_from es ts e)
  each_from (element (other n) es) ts e = absurd (cc)
  each_from (element (list n xs) es) ts e = absurd (cc)
  each_from (element (object n ms) es) ts e = absurd (cc)

  list-from : (n : ℕ) (es : Tree several) (ts : List Token) → Mb.each_text es ≡ fine → values_from s r (flat es ts) (fresh n) ≡ list_wishes s n es r
  list-from n (end_list m) ts e = refl
  list-from n (element (text m bs) es) ts e = ap (λ (ws : List Wish). string_wish s m bs ∷ ws) (each_from es ts e)
  list-from n (element (other m) es) ts e = absurd (cc)
  list-from n (element (list m xs) es) ts e = absurd (cc)
  list-from n (element (object m ms) es) ts e = absurd (cc)

  pub values-from : (v : Tree one) (ts : List Token) → Mb.strings v ≡ fine → values_from s r (flat v ts) outside ≡ value_wishes s v r
  values-from (text n bs) ts e = refl
  values-from (other n) ts e = absurd (cc)
  values-from (list n es) ts e = list-from n es ts e
  values-from (object n ms) ts e = absurd (cc)

-- AWS is the only name of a principal
is-aws : (x : List ℕ) → is_bad (aws_kind x) (aws_kind x) 0 ≡ false → aws_kind x ≡ 1
unfolding aws_kind is_seen
is-aws x e = by (same_bytes x (0x41 ∷ 0x57 ∷ 0x53 ∷ [])) e
  where
    by : (b : Bool) → is_bad (pick b 1 0) (pick b 1 0) 0 ≡ false → ◌≡◌ {A = ℕ} (pick b 1 0) 1
    by true e = refl
    by false e = absurd (let z : ◌≡◌ {A = ℕ} 1 0 = ap (λ (b : Bool). pick b 1 0) e in omega arith)

pub principal-from : (v : Tree one) (ts : List Token) (r : List Wish) → Mb.principal v ≡ fine
    → values_from S.Text r (flat v ts) outside ≡ value_wishes S.Text (holder v) r
unfolding is_seen
principal-from (text n bs) ts r e = refl
principal-from (other n) ts r e = absurd (cc)
principal-from (list n es) ts r e = absurd (cc)
principal-from (object n (end_object m)) ts r e = absurd (cc)
principal-from (object n (member m x v ms)) ts r e =
    let f = member-fine (is_bad (aws_kind x) (aws_kind x) 0) m (Mb.strings v) (Mb.aws (add 0 (aws_kind x)) ms) e in
    rw (is-aws x f.0) (values-from S.Text r v (flat ms ts) f.1)

-- conditions
module _ (r : List Wish) where
  each-condition : (o : Operator) (es : Tree several) (ts : List Token) → Mb.each_text es ≡ fine
      → conditions_from r (flat es ts) (Spot.filled_list o) ≡ each_wish (row_of o).sort es (conditions_from r ts (Spot.keys o))
  each-condition o (end_list n) ts e = refl
  each-condition o (element (text n bs) es) ts e = ap (λ (ws : List Wish). string_wish (row_of o).sort n bs ∷ ws) (each-condition o es ts e)
  each-condition o (element (other n) es) ts e = absurd (cc)
  each-condition o (element (list n xs) es) ts e = absurd (cc)
  each-condition o (element (object n ms) es) ts e = absurd (cc)

  list-condition : (o : Operator) (n : ℕ) (es : Tree several) (ts : List Token) → Mb.each_text es ≡ fine
      → conditions_from r (flat es ts) (Spot.empty_list o n) ≡ list_wishes (row_of o).sort n es (conditions_from r ts (Spot.keys o))
  list-condition o n (end_list m) ts e = refl
  list-condition o n (element (text m bs) es) ts e = ap (λ (ws : List Wish). string_wish (row_of o).sort m bs ∷ ws) (each-condition o es ts e)
  list-condition o n (element (other m) es) ts e = absurd (cc)
  list-condition o n (element (list m xs) es) ts e = absurd (cc)
  list-condition o n (element (object m ms) es) ts e = absurd (cc)

  value-condition : (o : Operator) (k : Key) (v : Tree one) (ts : List Token) → Mb.strings v ≡ fine
      → conditions_from r (flat v ts) (Spot.key o k) ≡ made (place v) (condition o k) ∷ value_wishes (row_of o).sort v (conditions_from r ts (Spot.keys o))
  value-condition o k (text n bs) ts e = refl
  value-condition o k (other n) ts e = absurd (cc)
  value-condition o k (list n es) ts e = ap (λ (ws : List Wish). made n (condition o k) ∷ ws) (list-condition o n es ts e)
  value-condition o k (object n ms) ts e = absurd (cc)

  key-conditions : (o : Operator) (seen : ℕ) (ms : Tree named) (ts : List Token) → Mb.keys seen ms ≡ fine
      → conditions_from r (flat ms ts) (Spot.keys o) ≡ key_wishes o ms (conditions_from r ts Spot.operators)
  key-conditions o seen (end_object n) ts e = refl
  key-conditions o seen (member n x v ms) ts e =
      let f = member-fine (is_bad (key_kind x) (key_kind x) seen) n (Mb.strings v) (Mb.keys (add seen (key_kind x)) ms) e in
      value-condition o (key_at (key_kind x)) v (flat ms ts) f.1
      ∙ ap (λ (ws : List Wish). made (place v) (condition o (key_at (key_kind x))) ∷ value_wishes (row_of o).sort v ws)
      (key-conditions o (add seen (key_kind x)) ms ts f.2)

  operator-value : (o : Operator) (v : Tree one) (ts : List Token) → Mb.operator v ≡ fine
      → conditions_from r (flat v ts) (Spot.operator o) ≡ key_wishes o (members_of v) (conditions_from r ts Spot.operators)
  operator-value o (text n bs) ts e = absurd (cc)
  operator-value o (other n) ts e = absurd (cc)
  operator-value o (list n es) ts e = absurd (cc)
  operator-value o (object n ms) ts e = key-conditions o 0 ms ts e

  operator-conditions : (seen : ℕ) (ms : Tree named) (ts : List Token) → Mb.operators seen ms ≡ fine
      → conditions_from r (flat ms ts) Spot.operators ≡ operator_wishes ms r
  operator-conditions seen (end_object n) ts e = refl
  operator-conditions seen (member n x v ms) ts e =
      let f = member-fine (is_bad (operator_kind x) (operator_kind x) seen) n (Mb.operator v) (Mb.operators (add seen (operator_kind x)) ms) e in
      operator-value (operator_at (operator_kind x)) v (flat ms ts) f.1
      ∙ ap (key_wishes (operator_at (operator_kind x)) (members_of v)) (operator-conditions (add seen (operator_kind x)) ms ts f.2)

  pub conditions-from : (v : Tree one) (ts : List Token) → Mb.condition v ≡ fine
      → conditions_from r (flat v ts) Spot.before ≡ operator_wishes (members_of v) r
  conditions-from (text n bs) ts e = absurd (cc)
  conditions-from (other n) ts e = absurd (cc)
  conditions-from (list n es) ts e = absurd (cc)
  conditions-from (object n ms) ts e = operator-conditions 0 ms ts e

-- what a slot says of the value's type
module _ (k : ℕ) (v : Tree one) where
  abbrev Slot : Bool → Bool → ℕ
  Slot x z = pick x k (pick z ((k + 3) / 2) 6)

  abbrev Value : Bool → Bool → Bool → Verdict
  Value x y z = pick x (Mb.any_text v) (pick y (Mb.principal v) (pick z (Mb.strings v) (Mb.condition v)))

  is-text : row_slot k ≡ 2 → Mb.row_value k v ≡ fine → Mb.any_text v ≡ fine
  is-text p q = by (leb k 2) refl (leb k 4) refl (leb k 8) refl p q
    where
      by : (x : Bool) → leb k 2 ≡ x → (y : Bool) → leb k 4 ≡ y → (z : Bool) → leb k 8 ≡ z → Slot x z ≡ 2 → Value x y z ≡ fine → Mb.any_text v ≡ fine
      by true a y b z c p q = q
      by false a y b true c p q = absurd (omega (arith, leb-false k 2 a, p))
      by false a y b false c p q = absurd (omega (arith, p))

  is-principal : row_slot k ≡ 3 → Mb.row_value k v ≡ fine → Mb.principal v ≡ fine
  is-principal p q = by (leb k 2) refl (leb k 4) refl (leb k 8) refl p q
    where
      by : (x : Bool) → leb k 2 ≡ x → (y : Bool) → leb k 4 ≡ y → (z : Bool) → leb k 8 ≡ z → Slot x z ≡ 3 → Value x y z ≡ fine → Mb.principal v ≡ fine
      by true a y b z c p q = absurd (omega (arith, leb-true k 2 a, p))
      by false a true b z c p q = q
      by false a false b true c p q = absurd (omega (arith, leb-false k 4 b, p))
      by false a false b false c p q = absurd (omega (arith, p))

  is-strings : (slot : ℕ) → 4 ≤ slot → slot ≤ 5 → row_slot k ≡ slot → Mb.row_value k v ≡ fine → Mb.strings v ≡ fine
  is-strings slot l u p q = by (leb k 2) refl (leb k 4) refl (leb k 8) refl p q
    where
      by : (x : Bool) → leb k 2 ≡ x → (y : Bool) → leb k 4 ≡ y → (z : Bool) → leb k 8 ≡ z → Slot x z ≡ slot → Value x y z ≡ fine → Mb.strings v ≡ fine
      by true a y b z c p q = absurd (omega (arith, leb-true k 2 a, p))
      by false a true b true c p q = absurd (omega (arith, leb-true k 4 b, p))
      by false a true b false c p q = absurd (omega (arith, p))
      by false a false b true c p q = q
      by false a false b false c p q = absurd (omega (arith, p))

  is_condition : row_slot k ≡ 6 → Mb.row_value k v ≡ fine → Mb.condition v ≡ fine
  is_condition p q = by (leb k 2) refl (leb k 4) refl (leb k 8) refl p q
    where
      by : (x : Bool) → leb k 2 ≡ x → (y : Bool) → leb k 4 ≡ y → (z : Bool) → leb k 8 ≡ z → Slot x z ≡ 6 → Value x y z ≡ fine → Mb.condition v ≡ fine
      by true a y b z c p q = absurd (omega (arith, leb-true k 2 a, p))
      by false a true b true c p q = absurd (omega (arith, leb-true k 4 b, p))
      by false a true b false c p q = absurd (omega (arith, leb-true k 4 b, leb-false k 8 c))
      by false a false b true c p q = absurd (omega (arith, leb-true k 8 c, p))
      by false a false b false c p q = q

-- the walk and the tree find the same member, and its value is of its type
pub data Same (slot : ℕ) : Sought → Found → Type 0 where
  neither : Same slot Sought.none Found.none
  both : (k : ℕ) (v : Tree one) (ts : List Token) → row_slot k ≡ slot → Mb.row_value k v ≡ fine
      → Same slot (Sought.found k (flat v ts)) (Found.found k v)

same-member : (slot seen : ℕ) (ms : Tree named) (ts : List Token) → Mb.row seen ms ≡ fine → Same slot (sought_in row_kind row_slot slot ms ts) (marked slot ms)
same-member slot seen (end_object n) ts e = Same.neither
same-member slot seen (member n x v ms) ts e =
    let f = member-fine (is_bad (row_kind x) (row_slot (row_kind x)) seen) n (Mb.row_value (row_kind x) v) (Mb.row (add seen (row_slot (row_kind x))) ms) e in
    by (eqb (row_slot (row_kind x)) slot) refl f.1 (same-member slot (add seen (row_slot (row_kind x))) ms ts f.2)
  where
    by : (b : Bool) → eqb (row_slot (row_kind x)) slot ≡ b → Mb.row_value (row_kind x) v ≡ fine → Same slot (sought_in row_kind row_slot slot ms ts) (marked slot ms)
        → Same slot (pick b (Sought.found (row_kind x) (flat v (flat ms ts))) (sought_in row_kind row_slot slot ms ts)) (pick b (Found.found (row_kind x) v) (marked slot ms))
    by true a g h = Same.both (row_kind x) v (flat ms ts) (eqb-true _ _ a) g
    by false a g h = h

next_place_lem : (v : Tree one) (ts : List Token) → next_place (flat v ts) ≡ place v
next_place_lem (text n bs) ts = refl
next_place_lem (other n) ts = refl
next_place_lem (list n es) ts = refl
next_place_lem (object n ms) ts = refl

effect-from : (x : Sought) (y : Found) → Same 2 x y → effect_from x ≡ effect_wish (place (held y)) (bytes (held y))
effect-from _ _ Same.neither = refl
effect-from _ _ (Same.both k v ts p q) = by v (is-text k v p q)
  where
    by : (v : Tree one) → Mb.any_text v ≡ fine → effect_on (flat v ts) ≡ effect_wish (place v) (bytes v)
    by (text n bs) e = refl
    by (other n) e = absurd (cc)
    by (list n es) e = absurd (cc)
    by (object n ms) e = absurd (cc)

principal-element : (x : Sought) (y : Found) (r : List Wish) → Same 3 x y → element_from x r ≡ element_wishes holder y r
principal-element _ _ r Same.neither = refl
principal-element _ _ r (Same.both k v ts p q) = rw (next_place_lem v ts, principal-from v ts r (is-principal k v p q))

string-element : (slot : ℕ) → 4 ≤ slot → slot ≤ 5 → (x : Sought) (y : Found) (r : List Wish) → Same slot x y → element_from x r ≡ element_wishes same y r
string-element slot l u _ _ r Same.neither = refl
string-element slot l u _ _ r (Same.both k v ts p q) = rw (next_place_lem v ts, values-from S.Text r v ts (is-strings k v slot l u p q))

condition-element : (x : Sought) (y : Found) (r : List Wish) → Same 6 x y → condition_from x r ≡ operator_wishes (members_of (held y)) r
condition-element _ _ r Same.neither = refl
condition-element _ _ r (Same.both k v ts p q) = conditions-from r v ts (is_condition k v p q)

-- a statement
pub row_from_lem : (ms : Tree named) (ts : List Token) (r : List Wish) → Mb.row 0 ms ≡ fine → row_from (flat ms ts) r ≡ statement_wishes ms r
row_from_lem ms ts r e =
    rw (
      seeks row_kind row_slot 2 ms ts,
      seeks row_kind row_slot 3 ms ts,
      seeks row_kind row_slot 4 ms ts,
      seeks row_kind row_slot 5 ms ts,
      seeks row_kind row_slot 6 ms ts,
      effect-from (sought_in row_kind row_slot 2 ms ts) (marked 2 ms) (same-member 2 0 ms ts e),
      condition-element (sought_in row_kind row_slot 6 ms ts) (marked 6 ms) r (same-member 6 0 ms ts e),
      string-element 5 (omega arith) (omega arith) (sought_in row_kind row_slot 5 ms ts) (marked 5 ms) _ (same-member 5 0 ms ts e),
      string-element 4 (omega arith) (omega arith) (sought_in row_kind row_slot 4 ms ts) (marked 4 ms) _ (same-member 4 0 ms ts e),
      principal-element (sought_in row_kind row_slot 3 ms ts) (marked 3 ms) _ (same-member 3 0 ms ts e),
    )

-- the statements
module _ (r : List Wish) where
  abbrev within : Shape → ℕ → ℕ
  within one d = suc d
  within several d = suc (suc d)
  within named d = suc (suc d)

  rows_pass : {k : Shape} (v : Tree k) (ts : List Token) (d : ℕ) → rows_from r (flat v ts) (Among.inside (within k d)) ≡ rows_from r ts (Among.inside (suc d))
  rows_pass (text n bs) ts d = refl
  rows_pass (other n) ts d = refl
  rows_pass (list n es) ts d = rows_pass es ts d
  rows_pass (object n ms) ts d = rows_pass ms ts d
  rows_pass (end_list n) ts d = refl
  rows_pass (element v es) ts d = rows_pass v (flat es ts) (suc d) ∙ rows_pass es ts d
  rows_pass (end_object n) ts d = refl
  rows_pass (member n x v ms) ts d = rows_pass v (flat ms ts) (suc d) ∙ rows_pass ms ts d

  -- the members of a statement in the list
  row-pass : (ms : Tree named) (ts : List Token) → rows_from r (flat ms ts) (Among.inside 1) ≡ rows_from r ts (Among.inside 0)
  row-pass (end_object n) ts = refl
  row-pass (member n x v ms) ts = rows_pass v (flat ms ts) 0 ∙ row-pass ms ts

  each_row_lem : (es : Tree several) (ts : List Token) → Mb.each_row es ≡ fine → rows_from r (flat es ts) (Among.inside 0) ≡ row_wishes es r
  each_row_lem (end_list n) ts e = refl
  each_row_lem (element (text n bs) es) ts e = absurd (cc)
  each_row_lem (element (other n) es) ts e = absurd (cc)
  each_row_lem (element (list n xs) es) ts e = absurd (cc)
  each_row_lem (element (object n ms) es) ts e =
      let f = both-fine (Mb.row 0 ms) (Mb.each_row es) e in
      ap (row_from (flat ms (flat es ts))) (row-pass ms (flat es ts) ∙ each_row_lem es ts f.1) ∙ row_from_lem ms (flat es ts) (row_wishes es r) f.0

  pub rows-from : (v : Tree one) (ts : List Token) → Mb.rows v ≡ fine → rows_from r (flat v ts) Among.begin ≡ rows_wishes v r
  rows-from (text n bs) ts e = absurd (cc)
  rows-from (other n) ts e = absurd (cc)
  rows-from (list n es) ts e = each_row_lem es ts e
  rows-from (object n ms) ts e = row_from_lem ms ts r e

-- how many statements there are
abbrev deep : Shape → ℕ → ℕ
deep one d = suc d
deep several d = suc (suc d)
deep named d = suc (suc d)

count-pass : {k : Shape} (v : Tree k) (ts : List Token) (d : ℕ) → count_from (flat v ts) (Among.inside (deep k d)) ≡ count_from ts (Among.inside (suc d))
count-pass (text n bs) ts d = refl
count-pass (other n) ts d = refl
count-pass (list n es) ts d = count-pass es ts d
count-pass (object n ms) ts d = count-pass ms ts d
count-pass (end_list n) ts d = refl
count-pass (element v es) ts d = count-pass v (flat es ts) (suc d) ∙ count-pass es ts d
count-pass (end_object n) ts d = refl
count-pass (member n x v ms) ts d = count-pass v (flat ms ts) (suc d) ∙ count-pass ms ts d

count-row : (ms : Tree named) (ts : List Token) → count_from (flat ms ts) (Among.inside 1) ≡ count_from ts (Among.inside 0)
count-row (end_object n) ts = refl
count-row (member n x v ms) ts = count-pass v (flat ms ts) 0 ∙ count-row ms ts

count-each : (es : Tree several) (ts : List Token) → Mb.each_row es ≡ fine → count_from (flat es ts) (Among.inside 0) ≡ length (each_statement es)
count-each (end_list n) ts e = refl
count-each (element (text n bs) es) ts e = absurd (cc)
count-each (element (other n) es) ts e = absurd (cc)
count-each (element (list n xs) es) ts e = absurd (cc)
count-each (element (object n ms) es) ts e =
    ap suc (count-row ms (flat es ts) ∙ count-each es ts (both-fine (Mb.row 0 ms) (Mb.each_row es) e).1)

count-from : (v : Tree one) (ts : List Token) → Mb.rows v ≡ fine → count_from (flat v ts) Among.begin ≡ length (statements_under v)
count-from (text n bs) ts e = absurd (cc)
count-from (other n) ts e = absurd (cc)
count-from (list n es) ts e = count-each es ts e
count-from (object n ms) ts e = refl

-- the Statement, by the walk and in the tree
data Stated : Sought → Found → Type 0 where
  neither : Stated Sought.none Found.none
  both : (k : ℕ) (v : Tree one) (ts : List Token) → Mb.rows v ≡ fine → Stated (Sought.found k (flat v ts)) (Found.found k v)

same-stated : (seen : ℕ) (ms : Tree named) (ts : List Token) → Mb.top seen ms ≡ fine → Stated (sought_in top_kind itself 2 ms ts) (stated ms)
same-stated seen (end_object n) ts e = Stated.neither
same-stated seen (member n x v ms) ts e =
    let f = member-fine (is_bad (top_kind x) (top_kind x) seen) n (Mb.top_value (top_kind x) v) (Mb.top (add seen (top_kind x)) ms) e in
    by (eqb (top_kind x) 2) refl f.1 (same-stated (add seen (top_kind x)) ms ts f.2)
  where
    by : (b : Bool) → eqb (top_kind x) 2 ≡ b → Mb.top_value (top_kind x) v ≡ fine → Stated (sought_in top_kind itself 2 ms ts) (stated ms)
        → Stated (pick b (Sought.found (top_kind x) (flat v (flat ms ts))) (sought_in top_kind itself 2 ms ts)) (pick b (Found.found (top_kind x) v) (stated ms))
    by true a g h = Stated.both (top_kind x) v (flat ms ts) (subst (λ (k : ℕ). Mb.top_value k v ≡ fine) (eqb-true (top_kind x) 2 a) g)
    by false a g h = h

stated-from : (x : Sought) (y : Found) → Stated x y
    → statement_from x ≡ made (place (held y)) (start (length (statements_under (held y)))) ∷ rows_wishes (held y) (made 0 end ∷ [])
stated-from _ _ Stated.neither = refl
stated-from _ _ (Stated.both k v ts e) = rw (next_place_lem v ts, count-from v ts e, rows-from (made 0 end ∷ []) v ts e)

-- the wishes from the tokens of a document that has no fault are those of its tree
pub document-from : (v : Tree one) (ts : List Token) → Mb.document v ≡ fine → document_from (flat v ts) ≡ wishes v
document-from (text n bs) ts e = absurd (cc)
document-from (other n) ts e = absurd (cc)
document-from (list n es) ts e = absurd (cc)
document-from (object n ms) ts e =
    ap statement_from (seeks top_kind itself 2 ms ts) ∙ stated-from (sought_in top_kind itself 2 ms ts) (stated ms) (same-stated 0 ms ts e)
