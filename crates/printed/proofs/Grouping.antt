-- Conditions that stand by their operators are those of groups with each operator and, in it, each key once; and the other way round.
use Rattle.std.proofs.Common.{◌≡◌, refl, sym, ◌∙◌, ap, subst, Bool, true, false, List, [], ◌∷◌, ◌⊎◌, inl, inr, eqb-true, eq-eqb}
use Rattle.stored.specs.Choice.{pick, In}
use Rattle.stored.specs.Tables.{Condition}
use Rattle.stored.specs.declared.items.Operator.{Operator}
use Rattle.stored.specs.declared.items.Key.{Key}
use Rattle.records.specs.Documents.{operator_at}
use Rattle.json_text.proofs.Choosing.{never}
use Rattle.printed.specs.Grouped.{Without, Together, NoneTwice}
use Rattle.printed.specs.Machinery.Groups.{operator_number, Keyed, Group, keyed_conditions, group_conditions, is_of, joined, groups_of, NoKey, KeysOnce, NoOperator, GroupsOnce}
use Rattle.printed.proofs.Names.{operator-back}

-- operators with one number are the same
pub same-operator : (o p : Operator) → is_of o p ≡ true → o ≡ p
same-operator o p e =
    sym (operator-back o) ∙ ap operator_at (eqb-true (operator_number o) (operator_number p) e) ∙ operator-back p

-- the groups of conditions have the conditions
joined_back : (o : Operator) (k : Keyed) (gs : List Group)
    → group_conditions (joined o k gs) ≡ record { operator = o; key = k.key; values = k.values } ∷ group_conditions gs
joined_back o k [] = refl
joined_back o k (g ∷ gs) = by (is_of o g.operator) refl
  where
    by : (b : Bool) → is_of o g.operator ≡ b
        → group_conditions (pick b (record { operator = o; keys = k ∷ g.keys } ∷ gs) (record { operator = o; keys = k ∷ [] } ∷ g ∷ gs))
        ≡ record { operator = o; key = k.key; values = k.values } ∷ group_conditions (g ∷ gs)
    by true e =
        ap (λ (p : Operator). record { operator = o; key = k.key; values = k.values } ∷ keyed_conditions p g.keys (group_conditions gs))
        (same-operator o g.operator e)
    by false e = refl

pub groups-back : (cs : List Condition) → group_conditions (groups_of cs) ≡ cs
groups-back [] = refl
groups-back (c ∷ cs) =
    joined_back c.operator (record { key = c.key; values = c.values }) (groups_of cs) ∙ ap (λ (xs : List Condition). c ∷ xs) (groups-back cs)

-- an operator that no condition has, no group has
no-operator-joined : (o p : Operator) (k : Keyed) (gs : List Group) → (p ≡ o → ⊥) → NoOperator o gs → NoOperator o (joined p k gs)
no-operator-joined o p k [] n h = (n, tt)
no-operator-joined o p k (g ∷ gs) n h = by (is_of p g.operator)
  where
    by : (b : Bool) → NoOperator o (pick b (record { operator = p; keys = k ∷ g.keys } ∷ gs) (record { operator = p; keys = k ∷ [] } ∷ g ∷ gs))
    by true = (n, h.1)
    by false = (n, h)

no-operator : (o : Operator) (cs : List Condition) → Without o cs → NoOperator o (groups_of cs)
no-operator o [] h = tt
no-operator o (c ∷ cs) h =
    no-operator-joined o c.operator (record { key = c.key; values = c.values }) (groups_of cs) (h c (inl refl))
    (no-operator o cs (λ x i. h x (inr i)))

-- the first group is of the first condition's operator
abbrev First : Operator → List Group → Type 0
First o [] = ⊥
First o (g ∷ gs) = g.operator ≡ o

first-joined : (o : Operator) (k : Keyed) (gs : List Group) → First o (joined o k gs)
first-joined o k [] = refl
first-joined o k (g ∷ gs) = by (is_of o g.operator)
  where
    by : (b : Bool) → First o (pick b (record { operator = o; keys = k ∷ g.keys } ∷ gs) (record { operator = o; keys = k ∷ [] } ∷ g ∷ gs))
    by true = refl
    by false = refl

-- no condition of a group has a key: the group does not have it
no_key : (k : Key) (o : Operator) (ks : List Keyed) (rest : List Condition)
    → ((x : Condition) → In x (keyed_conditions o ks rest) → x.operator ≡ o → x.key ≡ k → ⊥) → NoKey k ks
no_key k o [] rest h = tt
no_key k o (y ∷ ks) rest h = (
  h (record { operator = o; key = y.key; values = y.values }) (inl refl) refl,
  no_key k o ks rest (λ x i. h x (inr i)),
)

module _ (o : Operator) (k : Keyed) where
  -- one condition more in front
  once-joined : (gs : List Group)
      → ((x : Condition) → In x (group_conditions gs) → x.operator ≡ o → x.key ≡ k.key → ⊥)
      → (p : Operator) → First p gs → (p ≡ o) ⊎ NoOperator o gs → GroupsOnce gs → GroupsOnce (joined o k gs)
  once-joined [] n p f t h = absurd f
  once-joined (g ∷ gs) n p f t h = by (is_of o g.operator) refl t
    where
      by : (b : Bool) → is_of o g.operator ≡ b → (p ≡ o) ⊎ NoOperator o (g ∷ gs)
          → GroupsOnce (pick b (record { operator = o; keys = k ∷ g.keys } ∷ gs) (record { operator = o; keys = k ∷ [] } ∷ g ∷ gs))
      by true e t =
          let same = same-operator o g.operator e in (
            rw same h.0,
            (
              no_key k.key g.operator g.keys (group_conditions gs)
                  (λ x i q r. n x i (q ∙ sym same) r),
              h.1,
            ),
            h.2,
          )
      by false e (inl q) =
          let z : is_of o g.operator ≡ true = eq-eqb (operator_number o) (operator_number g.operator) (ap operator_number (sym (f ∙ q))) in
          never (cc)
      by false e (inr w) = (w, (tt, tt), h)

pub groups-once : (cs : List Condition) → Together cs → NoneTwice cs → GroupsOnce (groups_of cs)
groups-once [] t n = tt
groups-once (c ∷ []) t n = (tt, (tt, tt), tt)
groups-once (c ∷ d ∷ cs) t n =
    once-joined c.operator (record { key = c.key; values = c.values }) (groups_of (d ∷ cs))
    (λ x i. n.0 x (subst (λ (xs : List Condition). In x xs) (groups-back (d ∷ cs)) i))
    d.operator (first-joined d.operator (record { key = d.key; values = d.values }) (groups_of cs))
    (apart t.0) (groups-once (d ∷ cs) t.1 n.1)
  where
    apart : (d.operator ≡ c.operator) ⊎ Without c.operator (d ∷ cs) → (d.operator ≡ c.operator) ⊎ NoOperator c.operator (groups_of (d ∷ cs))
    apart (inl e) = inl e
    apart (inr w) = inr (no-operator c.operator (d ∷ cs) w)

-- and back: the conditions of such groups stand by their operators
without-keyed : (o p : Operator) (ks : List Keyed) (rest : List Condition) → (p ≡ o → ⊥) → Without o rest → Without o (keyed_conditions p ks rest)
without-keyed o p [] rest n w x i q = w x i q
without-keyed o p (k ∷ ks) rest n w x (inl e) q = n (sym (ap (λ (c : Condition). c.operator) e) ∙ q)
without-keyed o p (k ∷ ks) rest n w x (inr i) q = without-keyed o p ks rest n w x i q

without : (o : Operator) (gs : List Group) → NoOperator o gs → Without o (group_conditions gs)
without o [] h = λ x i e. i
without o (g ∷ gs) h = without-keyed o g.operator g.keys (group_conditions gs) h.0 (without o gs h.1)

together-first : (c : Condition) (rest : List Condition) → Without c.operator rest → Together rest → Together (c ∷ rest)
together-first c [] w t = tt
together-first c (d ∷ rest) w t = (inr w, t)

together-keyed : (o : Operator) (ks : List Keyed) (rest : List Condition) → Without o rest → Together rest → Together (keyed_conditions o ks rest)
together-keyed o [] rest w t = t
together-keyed o (k ∷ []) rest w t = together-first (record { operator = o; key = k.key; values = k.values }) rest w t
together-keyed o (k ∷ l ∷ ks) rest w t = (inl refl, together-keyed o (l ∷ ks) rest w t)

not-again : (o : Operator) (k : Key) (ks : List Keyed) (rest : List Condition) → NoKey k ks → Without o rest
    → (x : Condition) → In x (keyed_conditions o ks rest) → x.operator ≡ o → x.key ≡ k → ⊥
not-again o k [] rest n w x i e f = w x i e
not-again o k (y ∷ ks) rest n w x (inl i) e f = n.0 (sym (ap (λ (c : Condition). c.key) i) ∙ f)
not-again o k (y ∷ ks) rest n w x (inr i) e f = not-again o k ks rest n.1 w x i e f

twice-keyed : (o : Operator) (ks : List Keyed) (rest : List Condition) → KeysOnce ks → Without o rest → NoneTwice rest
    → NoneTwice (keyed_conditions o ks rest)
twice-keyed o [] rest h w t = t
twice-keyed o (k ∷ ks) rest h w t = (not-again o k.key ks rest h.0 w, twice-keyed o ks rest h.1 w t)

pub groups-together : (gs : List Group) → GroupsOnce gs → Together (group_conditions gs)
groups-together [] h = tt
groups-together (g ∷ gs) h =
    together-keyed g.operator g.keys (group_conditions gs) (without g.operator gs h.0) (groups-together gs h.2)

pub groups-twice : (gs : List Group) → GroupsOnce gs → NoneTwice (group_conditions gs)
groups-twice [] h = tt
groups-twice (g ∷ gs) h =
    twice-keyed g.operator g.keys (group_conditions gs) h.1 (without g.operator gs h.0) (groups-twice gs h.2)
