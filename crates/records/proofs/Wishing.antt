-- One wish of a document: the effect, the document's beginning, and a place that is cut down to the text.
use Rattle.std.proofs.Common.{ℕ, min, ◌+◌, ◌-◌, ◌<◌, Bool, true, false, ◌≡◌, refl, sym, ◌∙◌, ap, List, [], arith, leb, length, drop, drop_of_length-le, leb-true, leb-false}
use Rattle.json_text.specs.Choice.{pick, same_bytes}
use Rattle.json_text.specs.Machinery.Pieces.{content_of}
use Rattle.json_text.specs.Machinery.Tokens.{Token, mark, tokens_of}
use Rattle.json_text.specs.declared.events.Event.{Event}
use Rattle.json_text.specs.declared.events.Event.TheVariants as E
use Rattle.stored.specs.Entries.Entry.{start, statement, column, condition, end}
use Rattle.stored.specs.declared.items.Effect.TheVariants as Ef
use Rattle.stored.specs.declared.items.Sort.{Sort}
use Rattle.stored.specs.declared.items.Sort.TheVariants as So
use Rattle.members.specs.Members.{top_kind, itself}
use Rattle.records.specs.Documents.{allow_text, deny_text}
use Rattle.records.specs.Wishes.{Wish, string_wish, effect_wish}
use Rattle.records.specs.Wishes.Wish.{made, strange, empty}
use Rattle.records.specs.Machinery.Walkers.{seek}
use Rattle.records.specs.Machinery.Streams.{effect_on, statement_from, document_from}
use Rattle.records.specs.Machinery.Cursors.{wish_of, effect_said, effect_by, wishes_left, first_cursor}
use Rattle.records.specs.declared.wishes.Wish as Code
use Rattle.records.specs.declared.wishes.Wish.TheVariants as W

-- no bytes are neither effect
no-effect : (n : ℕ) → effect_wish n [] ≡ strange n
unfolding allow_text deny_text
no-effect n = refl

pub no-effect-left : (t : List ℕ) → effect_wish 0 [] ≡ strange (length t - length t)
no-effect-left t =
    let nothing : length t - length t ≡ 0 = omega arith in
    no-effect 0 ∙ ap strange (sym nothing)

said : (t bs : List ℕ) (at : ℕ) → effect_wish (length t - at) bs ≡ wish_of t (effect_said bs) at
said t bs at = by (same_bytes bs allow_text) (same_bytes bs deny_text)
  where
    by : (x y : Bool) → pick x (made (length t - at) (statement Ef.Allow)) (pick y (made (length t - at) (statement Ef.Deny)) (strange (length t - at)))
        ≡ wish_of t (pick x (W.Statement Ef.Allow) (pick y (W.Statement Ef.Deny) W.Strange)) at
    by true y = refl
    by false true = refl
    by false false = refl

pub effect-met : (t : List ℕ) (at : ℕ) (s : List ℕ) (ts : List Token) (e : Event)
    → effect_on (mark e (length t - at) s ts) ≡ wish_of t (effect_by e (content_of s)) at
effect-met t at s ts E.Name = no-effect (length t - at)
effect-met t at s ts E.Text = said t (content_of s) at
effect-met t at s ts E.Other = no-effect (length t - at)
effect-met t at s ts E.OpenList = no-effect (length t - at)
effect-met t at s ts E.CloseList = no-effect (length t - at)
effect-met t at s ts E.OpenObject = no-effect (length t - at)
effect-met t at s ts E.CloseObject = no-effect (length t - at)

-- a document is an object
abbrev pub opened : List Token → Event → List Wish
opened ts E.Name = []
opened ts E.Text = []
opened ts E.Other = []
opened ts E.OpenList = []
opened ts E.CloseList = []
opened ts E.OpenObject = statement_from (seek top_kind itself 2 ts 0)
opened ts E.CloseObject = []

pub opens : (n : ℕ) (s : List ℕ) (ts : List Token) (e : Event) → document_from (mark e n s ts) ≡ opened ts e
opens n s ts E.Name = refl
opens n s ts E.Text = refl
opens n s ts E.Other = refl
opens n s ts E.OpenList = refl
opens n s ts E.CloseList = refl
opens n s ts E.OpenObject = refl
opens n s ts E.CloseObject = refl

-- behind the end every place says the same
module _ (t : List ℕ) (p : ℕ) (h : length t < p) where
  left : length t - p ≡ length t - length t
  left = omega arith

  string-beyond : (s : Sort) → string_wish s (length t - p) (content_of (drop (p + 1) t)) ≡ string_wish s (length t - length t) (content_of (drop (length t + 1) t))
  string-beyond s =
      let a : drop (p + 1) t ≡ [] = drop_of_length-le t {i = p + 1} (omega arith) in
      let b : drop (length t + 1) t ≡ [] = drop_of_length-le t {i = length t + 1} (omega arith) in
      ap (λ (n : ℕ). string_wish s n (content_of (drop (p + 1) t))) left
      ∙ ap (λ (bs : List ℕ). string_wish s (length t - length t) (content_of bs)) (a ∙ sym b)

  beyond : (w : Code.Wish) → wish_of t w p ≡ wish_of t w (length t)
  beyond (W.Start count) = ap (λ (n : ℕ). made n (start count)) left
  beyond (W.Statement effect) = ap (λ (n : ℕ). made n (statement effect)) left
  beyond W.Strange = ap strange left
  beyond (W.Column c) = ap (λ (n : ℕ). made n (column c)) left
  beyond (W.Condition o k) = ap (λ (n : ℕ). made n (condition o k)) left
  beyond W.Empty = ap empty left
  beyond W.Value = string-beyond So.Text
  beyond W.Network = string-beyond So.Address
  beyond W.End = ap (λ (n : ℕ). made n end) left

pub clipped : (t : List ℕ) (w : Code.Wish) (p : ℕ) → wish_of t w p ≡ wish_of t w (min p (length t))
clipped t w p = by (leb p (length t)) refl
  where
    by : (b : Bool) → leb p (length t) ≡ b → wish_of t w p ≡ wish_of t w (min p (length t))
    by true e = ap (wish_of t w) (omega (arith, leb-true p (length t) e))
    by false e =
        let h : length t < p = leb-false p (length t) e in
        beyond t p h w ∙ ap (wish_of t w) (omega arith)

-- the first cursor has all wishes of a document
pub first-wishes : (t : List ℕ) → wishes_left t first_cursor ≡ document_from (tokens_of t)
unfolding tokens_of
first-wishes t = refl
