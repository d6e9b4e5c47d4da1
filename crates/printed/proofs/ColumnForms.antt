-- A statement's members, whichever forms its elements have: the verdict on them, what they say, and what they wish for.
use Rattle.std.proofs.Common.{ℕ, ◌≡◌, refl, List, [], ◌∷◌, length}
use Rattle.json_text.specs.Trees.{Tree}
use Rattle.json_text.specs.Trees.Shape.{one, several, named}
use Rattle.json_text.proofs.Choosing.{never}
use Rattle.members.specs.Machinery.Verdicts as Mb
use Rattle.members.specs.Members.{place, top_names, row_names, version_text, top_kind, row_kind, aws_kind}
use Rattle.members.specs.Machinery.Verdicts.{following, is_seen}
use Rattle.members.specs.Members.Verdict.{fine}
use Rattle.stored.specs.Items.{column_place}
use Rattle.stored.specs.Entries.Entry.{start, statement, column, end}
use Rattle.stored.specs.Tables.{Statement}
use Rattle.stored.specs.declared.items.Effect.{Effect}
use Rattle.stored.specs.declared.items.Effect.TheVariants as E
use Rattle.stored.specs.declared.items.Column.{Column}
use Rattle.stored.specs.declared.items.Column.TheVariants as C
use Rattle.stored.specs.declared.items.Sort.TheVariants as S
use Rattle.records.specs.Documents.{members_of, holder, strings, listed, effect_of, conditions_of, statement_of, each_statement, statements_of, allow_text, deny_text}
use Rattle.records.specs.Wishes.{Wish, effect_wish, value_wishes, operator_wishes, statement_wishes, row_wishes, wishes}
use Rattle.records.specs.Wishes.Wish.{made}
use Rattle.printed.specs.Machinery.Plans.{version_name, statement_name, effect_name, condition_name, aws_name, column_name, effect_text}

-- the forms of a column's element
pub data Principals : Column → Type 0 where
  form : Principals C.Principal
  not_form : Principals C.NotPrincipal

pub data Actions : Column → Type 0 where
  form : Actions C.Action
  not_form : Actions C.NotAction

pub data Resources : Column → Type 0 where
  form : Resources C.Resource
  not_form : Resources C.NotResource

pub principals : (c : Column) → column_place c ≡ 0 → Principals c
principals C.Principal e = Principals.form
principals C.NotPrincipal e = Principals.not_form
principals C.Action e = never (cc)
principals C.NotAction e = never (cc)
principals C.Resource e = never (cc)
principals C.NotResource e = never (cc)

pub actions : (c : Column) → column_place c ≡ 1 → Actions c
actions C.Principal e = never (cc)
actions C.NotPrincipal e = never (cc)
actions C.Action e = Actions.form
actions C.NotAction e = Actions.not_form
actions C.Resource e = never (cc)
actions C.NotResource e = never (cc)

pub resources : (c : Column) → column_place c ≡ 2 → Resources c
resources C.Principal e = never (cc)
resources C.NotPrincipal e = never (cc)
resources C.Action e = never (cc)
resources C.NotAction e = never (cc)
resources C.Resource e = Resources.form
resources C.NotResource e = Resources.not_form

-- the places of a statement's members, of its brace and of its effect, and what the members hold
pub record Parts : Type 0 where
  pub n0 : ℕ
  pub n1 : ℕ
  pub n2 : ℕ
  pub n3 : ℕ
  pub n4 : ℕ
  pub n5 : ℕ
  pub at : ℕ
  pub effect : List ℕ
  pub v0 : Tree one
  pub v1 : Tree one
  pub v2 : Tree one
  pub v3 : Tree one

module _ (p : Parts) where
  abbrev pub row_tree : Column → Column → Column → Tree named
  row_tree c0 c1 c2 =
      Tree.member p.n0 effect_name (Tree.text p.at p.effect)
      (Tree.member p.n1 (column_name c0) p.v0
      (Tree.member p.n2 (column_name c1) p.v1
      (Tree.member p.n3 (column_name c2) p.v2 (Tree.member p.n4 condition_name p.v3 (Tree.end_object p.n5)))))

  pub row-verdict : {c0 c1 c2 : Column} → Principals c0 → Actions c1 → Resources c2
      → Mb.row 0 (row_tree c0 c1 c2)
      ≡ following (Mb.principal p.v0) (following (Mb.strings p.v1) (following (Mb.strings p.v2) (following (Mb.condition p.v3) fine)))
  unfolding row_kind row_names effect_name column_name condition_name is_seen
  row-verdict Principals.form Actions.form Resources.form = refl
  row-verdict Principals.form Actions.form Resources.not_form = refl
  row-verdict Principals.form Actions.not_form Resources.form = refl
  row-verdict Principals.form Actions.not_form Resources.not_form = refl
  row-verdict Principals.not_form Actions.form Resources.form = refl
  row-verdict Principals.not_form Actions.form Resources.not_form = refl
  row-verdict Principals.not_form Actions.not_form Resources.form = refl
  row-verdict Principals.not_form Actions.not_form Resources.not_form = refl

  abbrev pub row_said : Column → Column → Column → Statement
  row_said c0 c1 c2 =
      record {
        effect = effect_of p.effect;
        elements =
            record { name = c0; values = listed S.Text (strings (holder p.v0)) }
            ∷ record { name = c1; values = listed S.Text (strings p.v1) }
            ∷ record { name = c2; values = listed S.Text (strings p.v2) }
            ∷ [];
        conditions = conditions_of (members_of p.v3);
      }

  pub row-said : {c0 c1 c2 : Column} → Principals c0 → Actions c1 → Resources c2 → statement_of (row_tree c0 c1 c2) ≡ row_said c0 c1 c2
  unfolding row_kind row_names effect_name column_name condition_name
  row-said Principals.form Actions.form Resources.form = refl
  row-said Principals.form Actions.form Resources.not_form = refl
  row-said Principals.form Actions.not_form Resources.form = refl
  row-said Principals.form Actions.not_form Resources.not_form = refl
  row-said Principals.not_form Actions.form Resources.form = refl
  row-said Principals.not_form Actions.form Resources.not_form = refl
  row-said Principals.not_form Actions.not_form Resources.form = refl
  row-said Principals.not_form Actions.not_form Resources.not_form = refl

  abbrev pub row_wished : Column → Column → Column → List Wish → List Wish
  row_wished c0 c1 c2 ws =
      effect_wish p.at p.effect
      ∷ made (place p.v0) (column c0)
      ∷ value_wishes S.Text (holder p.v0)
      (made (place p.v1) (column c1)
      ∷ value_wishes S.Text p.v1
      (made (place p.v2) (column c2) ∷ value_wishes S.Text p.v2 (operator_wishes (members_of p.v3) ws)))

  pub row-wished : {c0 c1 c2 : Column} → Principals c0 → Actions c1 → Resources c2 → (ws : List Wish)
      → statement_wishes (row_tree c0 c1 c2) ws ≡ row_wished c0 c1 c2 ws
  unfolding row_kind row_names effect_name column_name condition_name
  row-wished Principals.form Actions.form Resources.form ws = refl
  row-wished Principals.form Actions.form Resources.not_form ws = refl
  row-wished Principals.form Actions.not_form Resources.form ws = refl
  row-wished Principals.form Actions.not_form Resources.not_form ws = refl
  row-wished Principals.not_form Actions.form Resources.form ws = refl
  row-wished Principals.not_form Actions.form Resources.not_form ws = refl
  row-wished Principals.not_form Actions.not_form Resources.form ws = refl
  row-wished Principals.not_form Actions.not_form Resources.not_form ws = refl

-- principals under AWS
pub principal-verdict : (n m k q : ℕ) (es : Tree several)
    → Mb.principal (Tree.object n (Tree.member m aws_name (Tree.list k es) (Tree.end_object q))) ≡ following (Mb.each_text es) fine
unfolding aws_kind aws_name is_seen
principal-verdict n m k q es = refl

pub principal-holder : (n m k q : ℕ) (es : Tree several)
    → holder (Tree.object n (Tree.member m aws_name (Tree.list k es) (Tree.end_object q))) ≡ Tree.list k es
unfolding aws_kind aws_name
principal-holder n m k q es = refl

-- effects
pub effect-said : (e : Effect) → effect_of (effect_text e) ≡ e
unfolding allow_text deny_text
effect-said E.Allow = refl
effect-said E.Deny = refl

pub effect-wished : (n : ℕ) (e : Effect) → effect_wish n (effect_text e) ≡ made n (statement e)
unfolding allow_text deny_text
effect-wished n E.Allow = refl
effect-wished n E.Deny = refl

-- the document
module _ (n n0 n1 n2 m k : ℕ) (es : Tree several) where
  abbrev pub top_tree : Tree one
  top_tree =
      Tree.object n (Tree.member n0 version_name (Tree.text m version_text) (Tree.member n1 statement_name (Tree.list k es) (Tree.end_object n2)))

  pub top-verdict : Mb.document top_tree ≡ following (Mb.each_row es) fine
  unfolding top_kind top_names version_name statement_name version_text is_seen
  top-verdict = refl

  pub top-said : statements_of top_tree ≡ each_statement es
  unfolding top_kind top_names version_name statement_name
  top-said = refl

  pub top-wished : wishes top_tree ≡ made k (start (length (each_statement es))) ∷ row_wishes es (made 0 end ∷ [])
  unfolding top_kind top_names version_name statement_name
  top-wished = refl
