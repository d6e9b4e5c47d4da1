-- The printed statements: they have no fault, they say the statements, and all that they wish for are entries.
use Rattle.std.proofs.Common.{ℕ, suc, ◌<◌, ◌≡◌, refl, sym, ◌∙◌, ap, subst, true, false, List, [], ◌∷◌, inl, inr, length, arith}
use Rattle.json_text.specs.Trees.{Tree}
use Rattle.json_text.specs.Trees.Shape.{one, named}
use Rattle.json_text.proofs.Choosing.{never}
use Rattle.members.specs.Machinery.Verdicts as Mb
use Rattle.members.specs.Members.{Verdict}
use Rattle.members.specs.Machinery.Verdicts.{following}
use Rattle.members.specs.Members.Verdict.{fine}
use Rattle.stored.specs.Choice.{In}
use Rattle.stored.specs.Items.{column_place}
use Rattle.stored.specs.Form.{places_of}
use Rattle.stored.specs.Tables.{Listed, Element, Statement}
use Rattle.stored.specs.declared.items.Effect.{Effect}
use Rattle.stored.specs.declared.items.Column.{Column}
use Rattle.stored.specs.declared.items.Sort.TheVariants as S
use Rattle.records.specs.Documents.{holder, statement_of}
use Rattle.records.specs.Wishes.{Wish, statement_wishes}
use Rattle.printed.specs.Machinery.Values.{Value, Sound, located, letters, print}
use Rattle.printed.specs.Machinery.Groups.{Group, group_conditions, groups_of, GroupsOnce}
use Rattle.printed.specs.Machinery.Plans.{effect_name, condition_name, aws_name, column_name, effect_text, listed_values, group_members, statement_members}
use Rattle.printed.proofs.Names.{column-shown, effect-shown, effect-name-shown, condition-name-shown, aws-shown}
use Rattle.printed.proofs.Grouping.{groups-back}
use Rattle.printed.proofs.ValuesSaid.{Holds, AllMade, list-sound, list-fine, list-said, list-made}
use Rattle.printed.proofs.ConditionsSaid.{GroupsHold, groups-fine, groups-sound, groups-said, groups-made}
use Rattle.printed.proofs.ColumnForms.{principals, actions, resources, Parts, row_tree, row-verdict, row-said, row-wished, principal-verdict, principal-holder, effect-said, effect-wished}

-- one value or more, each a text that a list may hold
abbrev pub Filled : List Listed → Type 0
Filled l = Holds S.Text l × (0 < length l)

-- principal, action, resource, each with values
pub data Three : List Element → Type 0 where
  three : (c0 c1 c2 : Column) (l0 l1 l2 : List Listed) → column_place c0 ≡ 0 → column_place c1 ≡ 1 → column_place c2 ≡ 2
      → Filled l0 → Filled l1 → Filled l2
      → Three (record { name = c0; values = l0 } ∷ record { name = c1; values = l1 } ∷ record { name = c2; values = l2 } ∷ [])

pub three-of : (es : List Element) → places_of es ≡ 0 ∷ 1 ∷ 2 ∷ [] → ((e : Element) → In e es → Filled e.values) → Three es
three-of [] p h = never (cc)
three-of (a ∷ []) p h = never (cc)
three-of (a ∷ b ∷ []) p h = never (cc)
three-of (a ∷ b ∷ c ∷ []) p h =
    Three.three a.name b.name c.name a.values b.values c.values (cc) (cc) (cc) (h a (inl refl)) (h b (inr (inl refl))) (h c (inr (inr (inl refl))))
three-of (a ∷ b ∷ c ∷ d ∷ es) p h = never (cc)

-- what can be printed: three elements, and conditions by operator
pub record Ready (s : Statement) : Type 0 where
  pub elements_are : Three s.elements
  pub once : GroupsOnce (groups_of s.conditions)
  pub hold : GroupsHold (groups_of s.conditions)

-- the place of a member, and of what is in brackets
abbrev spot : List ℕ → Value one → List ℕ → ℕ
spot x v r = suc (length (letters x (0x3A ∷ print false v r)))

abbrev spot-list : List Listed → List ℕ → ℕ
spot-list l r = suc (length (print false (listed_values l) r))

-- a printed statement, by its parts: m0 to m3 are its members from the principal, the action, the resource and the Condition on, r0 to r3 the
-- text from there on, r4 that of its closing brace on; v0 to v3 are the trees of what they hold
module _ (e : Effect) (c0 c1 c2 : Column) (l0 l1 l2 : List Listed) (gs : List Group) (r : List ℕ) where
  abbrev elements : List Element
  elements = record { name = c0; values = l0 } ∷ record { name = c1; values = l1 } ∷ record { name = c2; values = l2 } ∷ []

  abbrev aws : Value named
  aws = Value.member aws_name (Value.list (listed_values l0)) Value.end_object

  abbrev m3 : Value named
  m3 = Value.member condition_name (Value.object (group_members gs)) Value.end_object

  abbrev m2 : Value named
  m2 = Value.member (column_name c2) (Value.list (listed_values l2)) m3

  abbrev m1 : Value named
  m1 = Value.member (column_name c1) (Value.list (listed_values l1)) m2

  abbrev m0 : Value named
  m0 = Value.member (column_name c0) (Value.object aws) m1

  abbrev r0 : List ℕ
  r0 = print true m0 r

  abbrev r1 : List ℕ
  r1 = print true m1 r

  abbrev r2 : List ℕ
  r2 = print true m2 r

  abbrev r3 : List ℕ
  r3 = print true m3 r

  abbrev r4 : List ℕ
  r4 = print true Value.end_object r

  abbrev v0 : Tree one
  v0 =
      Tree.object (suc (length (print false aws r1)))
      (Tree.member (spot aws_name (Value.list (listed_values l0)) (print true Value.end_object r1)) aws_name
      (Tree.list (spot-list l0 (print true Value.end_object r1)) (located (listed_values l0) (print true Value.end_object r1)))
      (Tree.end_object (suc (length r1))))

  abbrev v1 : Tree one
  v1 = Tree.list (spot-list l1 r2) (located (listed_values l1) r2)

  abbrev v2 : Tree one
  v2 = Tree.list (spot-list l2 r3) (located (listed_values l2) r3)

  abbrev v3 : Tree one
  v3 = Tree.object (suc (length (print false (group_members gs) r4))) (located (group_members gs) r4)

  abbrev parts : Parts
  parts =
      record {
        n0 = spot effect_name (Value.text (effect_text e)) r0;
        n1 = spot (column_name c0) (Value.object aws) r1;
        n2 = spot (column_name c1) (Value.list (listed_values l1)) r2;
        n3 = spot (column_name c2) (Value.list (listed_values l2)) r3;
        n4 = spot condition_name (Value.object (group_members gs)) r4;
        n5 = suc (length r);
        at = suc (length (letters (effect_text e) r0));
        effect = effect_text e;
        v0 = v0;
        v1 = v1;
        v2 = v2;
        v3 = v3;
      }

  module _ (p : column_place c0 ≡ 0) (q : column_place c1 ≡ 1) (s : column_place c2 ≡ 2) where
    tree-same : located (statement_members e elements gs) r ≡ row_tree parts c0 c1 c2
    tree-same = rw (p, q, s)

    tree-fine : GroupsOnce gs → Mb.row 0 (located (statement_members e elements gs) r) ≡ fine
    tree-fine o =
        ap (Mb.row 0) tree-same
        ∙ row-verdict parts (principals c0 p) (actions c1 q) (resources c2 s)
        ∙ all (Mb.principal v0) (Mb.strings v1) (Mb.strings v2) (Mb.condition v3) under (list-fine l1 r2) (list-fine l2 r3) (groups-fine gs r4 o)
      where
        under : Mb.principal v0 ≡ fine
        under =
            principal-verdict (suc (length (print false aws r1))) (spot aws_name (Value.list (listed_values l0)) (print true Value.end_object r1))
            (spot-list l0 (print true Value.end_object r1)) (suc (length r1)) (located (listed_values l0) (print true Value.end_object r1))
            ∙ rw (list-fine l0 (print true Value.end_object r1))

        all : (a b c d : Verdict) → a ≡ fine → b ≡ fine → c ≡ fine → d ≡ fine → following a (following b (following c (following d fine))) ≡ fine
        all a b c d i j k l = rw (i, j, k, l)

    held_by_lem : holder v0 ≡ Tree.list (spot-list l0 (print true Value.end_object r1)) (located (listed_values l0) (print true Value.end_object r1))
    held_by_lem =
        principal-holder (suc (length (print false aws r1))) (spot aws_name (Value.list (listed_values l0)) (print true Value.end_object r1))
        (spot-list l0 (print true Value.end_object r1)) (suc (length r1)) (located (listed_values l0) (print true Value.end_object r1))

    tree-said : Filled l0 → Filled l1 → Filled l2 → GroupsHold gs
        → statement_of (located (statement_members e elements gs) r) ≡ record { effect = e; elements = elements; conditions = group_conditions gs }
    tree-said h0 h1 h2 k =
        ap statement_of tree-same
        ∙ row-said parts (principals c0 p) (actions c1 q) (resources c2 s)
        ∙ rw (
          effect-said e,
          held_by_lem,
          list-said S.Text l0 (print true Value.end_object r1) h0.0,
          list-said S.Text l1 r2 h1.0,
          list-said S.Text l2 r3 h2.0,
          groups-said gs r4 k,
        )

    tree-made : Filled l0 → Filled l1 → Filled l2 → GroupsHold gs → (ws : List Wish) → AllMade ws
        → AllMade (statement_wishes (located (statement_members e elements gs) r) ws)
    tree-made h0 h1 h2 k ws a =
        subst AllMade (sym (ap (λ (ms : Tree named). statement_wishes ms ws) tree-same ∙ row-wished parts (principals c0 p) (actions c1 q) (resources c2 s) ws))
        (rw (effect-wished (suc (length (letters (effect_text e) r0))) e, held_by_lem)
        (list-made S.Text l0 (spot-list l0 (print true Value.end_object r1)) (print true Value.end_object r1) _ h0.0 h0.1
        (list-made S.Text l1 (spot-list l1 r2) r2 _ h1.0 h1.1
        (list-made S.Text l2 (spot-list l2 r3) r3 _ h2.0 h2.1 (groups-made gs r4 ws k a)))))

    tree-sound : Filled l0 → Filled l1 → Filled l2 → GroupsHold gs → Sound 3 (statement_members e elements gs)
    tree-sound h0 h1 h2 k =
        rw (p, q, s) (
          effect-name-shown,
          effect-shown e,
          (
            column-shown c0,
            (omega arith, (aws-shown, (omega arith, list-sound S.Text l0 5 h0.0), tt)),
            (
              column-shown c1,
              (omega arith, list-sound S.Text l1 4 h1.0),
              (
                column-shown c2,
                (omega arith, list-sound S.Text l2 4 h2.0),
                (condition-name-shown, (omega arith, groups-sound gs 4 (omega arith) k), tt),
              ),
            ),
          ),
        )

-- a statement that can be printed
pub row_fine : (s : Statement) (r : List ℕ) → Ready s → Mb.row 0 (located (statement_members s.effect s.elements (groups_of s.conditions)) r) ≡ fine
row_fine s r h = by s.elements h.elements_are
  where
    by : (es : List Element) → Three es → Mb.row 0 (located (statement_members s.effect es (groups_of s.conditions)) r) ≡ fine
    by es (Three.three c0 c1 c2 l0 l1 l2 p q x h0 h1 h2) = tree-fine s.effect c0 c1 c2 l0 l1 l2 (groups_of s.conditions) r p q x h.once

pub row-says : (s : Statement) (r : List ℕ) → Ready s → statement_of (located (statement_members s.effect s.elements (groups_of s.conditions)) r) ≡ s
row-says s r h = by s.elements h.elements_are ∙ rw (groups-back s.conditions)
  where
    by : (es : List Element) → Three es
        → statement_of (located (statement_members s.effect es (groups_of s.conditions)) r)
        ≡ record { effect = s.effect; elements = es; conditions = group_conditions (groups_of s.conditions) }
    by es (Three.three c0 c1 c2 l0 l1 l2 p q x h0 h1 h2) =
        tree-said s.effect c0 c1 c2 l0 l1 l2 (groups_of s.conditions) r p q x h0 h1 h2 h.hold

pub row_made : (s : Statement) (r : List ℕ) (ws : List Wish) → Ready s → AllMade ws
    → AllMade (statement_wishes (located (statement_members s.effect s.elements (groups_of s.conditions)) r) ws)
row_made s r ws h a = by s.elements h.elements_are
  where
    by : (es : List Element) → Three es → AllMade (statement_wishes (located (statement_members s.effect es (groups_of s.conditions)) r) ws)
    by es (Three.three c0 c1 c2 l0 l1 l2 p q x h0 h1 h2) =
        tree-made s.effect c0 c1 c2 l0 l1 l2 (groups_of s.conditions) r p q x h0 h1 h2 h.hold ws a

pub row-sound : (s : Statement) → Ready s → Sound 3 (statement_members s.effect s.elements (groups_of s.conditions))
row-sound s h = by s.elements h.elements_are
  where
    by : (es : List Element) → Three es → Sound 3 (statement_members s.effect es (groups_of s.conditions))
    by es (Three.three c0 c1 c2 l0 l1 l2 p q x h0 h1 h2) =
        tree-sound s.effect c0 c1 c2 l0 l1 l2 (groups_of s.conditions) [] p q x h0 h1 h2 h.hold
