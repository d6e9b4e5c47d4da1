-- The strings of an element and the wishes of conditions: one token of the walk.
use Rattle.std.proofs.Common.{Option, Some, None, ℕ, ◌+◌, ◌-◌, ◌≡◌, refl, sym, ◌∙◌, ap, List, ◌∷◌, length, drop}
use Rattle.json_text.specs.Machinery.Pieces.{content_of}
use Rattle.json_text.specs.Machinery.Tokens.{Token, mark}
use Rattle.json_text.specs.declared.events.Event.{Event}
use Rattle.json_text.specs.declared.events.Event.TheVariants as E
use Rattle.stored.specs.Operators.{row_of}
use Rattle.stored.specs.Entries.Entry.{condition}
use Rattle.stored.specs.declared.items.Operator.{Operator}
use Rattle.stored.specs.declared.items.Sort.{Sort}
use Rattle.stored.specs.declared.items.Sort.TheVariants as So
use Rattle.records.specs.Wishes.{Wish, string_wish}
use Rattle.records.specs.Wishes.Wish.{made}
use Rattle.records.specs.Machinery.Streams as Streams
use Rattle.records.specs.Machinery.Streams.{values_from, conditions_from}
use Rattle.records.specs.Machinery.Cursors.{wish_of, string_kind, spot_of, spot_turn}
use Rattle.records.specs.declared.wishes.Wish.TheVariants as W
use Rattle.records.specs.declared.conditions.Spot.{Spot}
use Rattle.records.specs.declared.conditions.Spot.TheVariants as Sp
use Rattle.records.specs.declared.conditions.Turned.{Turned}
use Rattle.records.specs.declared.conditions.Turned.TheVariants as Tu

module _ (t : List ℕ) (r : List Wish) (ts : List Token) (at : ℕ) where
  -- the tokens from one at a place on
  abbrev pub tokens : Event → List Token
  tokens e = mark e (length t - at) (drop (at + 1) t) ts

  -- the tokens, from this one on, are wanted where the walk stays
  abbrev pub after_turned : List Token → Option Turned → List Wish
  after_turned us (Some (Tu.On p)) = conditions_from r ts (spot_of t p)
  after_turned us (Some (Tu.Waits o k)) = made (length t - at) (condition o k) ∷ conditions_from r us (Streams.Spot.value o)
  after_turned us (Some (Tu.Text o s)) = wish_of t (string_kind (row_of o).sort) at ∷ conditions_from r ts (spot_of t s)
  after_turned us (Some (Tu.Empty p s)) = wish_of t W.Empty p ∷ conditions_from r ts (spot_of t s)
  after_turned us None = r

  string-said : (s : Sort) → string_wish s (length t - at) (content_of (drop (at + 1) t)) ≡ wish_of t (string_kind s) at
  string-said So.Text = refl
  string-said So.Address = refl

  -- a string under an operator
  under : (o : Operator) (p : Spot) → string_wish (row_of o).sort (length t - at) (content_of (drop (at + 1) t)) ∷ conditions_from r ts (spot_of t p)
      ≡ wish_of t (string_kind (row_of o).sort) at ∷ conditions_from r ts (spot_of t p)
  under o p = ap (λ (w : Wish). w ∷ conditions_from r ts (spot_of t p)) (string-said (row_of o).sort)

  turns-one : (e : Event) (p : Spot)
      → conditions_from r (tokens e) (spot_of t p) ≡ after_turned (tokens e) (spot_turn p e at (content_of (drop (at + 1) t)))
  turns-one E.Name Sp.Before = refl
  turns-one E.Name Sp.Operators = refl
  turns-one E.Name (Sp.Operator o) = refl
  turns-one E.Name (Sp.Keys o) = refl
  turns-one E.Name (Sp.Key o k) = refl
  turns-one E.Name (Sp.Value o) = refl
  turns-one E.Name (Sp.EmptyList o q) = refl
  turns-one E.Name (Sp.FilledList o) = refl
  turns-one E.Text Sp.Before = refl
  turns-one E.Text Sp.Operators = refl
  turns-one E.Text (Sp.Operator o) = refl
  turns-one E.Text (Sp.Keys o) = refl
  turns-one E.Text (Sp.Key o k) = refl
  turns-one E.Text (Sp.Value o) = under o (Sp.Keys o)
  turns-one E.Text (Sp.EmptyList o q) = under o (Sp.FilledList o)
  turns-one E.Text (Sp.FilledList o) = under o (Sp.FilledList o)
  turns-one E.Other p = refl
  turns-one E.OpenList Sp.Before = refl
  turns-one E.OpenList Sp.Operators = refl
  turns-one E.OpenList (Sp.Operator o) = refl
  turns-one E.OpenList (Sp.Keys o) = refl
  turns-one E.OpenList (Sp.Key o k) = refl
  turns-one E.OpenList (Sp.Value o) = refl
  turns-one E.OpenList (Sp.EmptyList o q) = refl
  turns-one E.OpenList (Sp.FilledList o) = refl
  turns-one E.CloseList Sp.Before = refl
  turns-one E.CloseList Sp.Operators = refl
  turns-one E.CloseList (Sp.Operator o) = refl
  turns-one E.CloseList (Sp.Keys o) = refl
  turns-one E.CloseList (Sp.Key o k) = refl
  turns-one E.CloseList (Sp.Value o) = refl
  turns-one E.CloseList (Sp.EmptyList o q) = refl
  turns-one E.CloseList (Sp.FilledList o) = refl
  turns-one E.OpenObject Sp.Before = refl
  turns-one E.OpenObject Sp.Operators = refl
  turns-one E.OpenObject (Sp.Operator o) = refl
  turns-one E.OpenObject (Sp.Keys o) = refl
  turns-one E.OpenObject (Sp.Key o k) = refl
  turns-one E.OpenObject (Sp.Value o) = refl
  turns-one E.OpenObject (Sp.EmptyList o q) = refl
  turns-one E.OpenObject (Sp.FilledList o) = refl
  turns-one E.CloseObject Sp.Before = refl
  turns-one E.CloseObject Sp.Operators = refl
  turns-one E.CloseObject (Sp.Operator o) = refl
  turns-one E.CloseObject (Sp.Keys o) = refl
  turns-one E.CloseObject (Sp.Key o k) = refl
  turns-one E.CloseObject (Sp.Value o) = refl
  turns-one E.CloseObject (Sp.EmptyList o q) = refl
  turns-one E.CloseObject (Sp.FilledList o) = refl

  pub turns : (us : List Token) (e : Event) (p : Spot) {x : Option Turned} → us ≡ tokens e → spot_turn p e at (content_of (drop (at + 1) t)) ≡ x
      → conditions_from r us (spot_of t p) ≡ after_turned us x
  turns us e p {x} met turn =
      ap (λ (vs : List Token). conditions_from r vs (spot_of t p)) met
      ∙ turns-one e p
      ∙ ap (after_turned (tokens e)) turn
      ∙ ap (λ (vs : List Token). after_turned vs x) (sym met)
