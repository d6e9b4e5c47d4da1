-- An iterator over the wishes of a document: what it has still to give.
use Rattle.std.specs.Prelude.{ℕ, ◌≤◌, ◌≡◌, Option, Some, None, List, [], ◌∷◌, length}
use Rattle.records.specs.Wishes.{Wish}
use Rattle.records.specs.Machinery.Cursors.{wish_of, wishes_left}
use Rattle.records.specs.declared.stages.Wished.{Wished}
use Rattle.records.specs.declared.cursor.Wishes.{Wishes}

-- the text that it goes through
abbrev pub looked_at : Wishes → List ℕ
looked_at s = s.text.now

-- the wishes that are still to come
abbrev pub wishes_ahead : Wishes → List Wish
wishes_ahead s = wishes_left s.text.now s.cursor

-- a wish from s, with its place, and what is left behind it
pub record Gives (s : Wishes) (x : Wished) (t : Wishes) : Type 0 where
  pub text : looked_at t ≡ looked_at s
  pub left : wishes_ahead s ≡ wish_of (looked_at s) x.wish x.place ∷ wishes_ahead t
  pub inside : x.place ≤ length (looked_at s)

-- none is left
abbrev pub GivesWish : Wishes → Option Wished → Wishes → Type 0
GivesWish s (Some x) t = Gives s x t
GivesWish s None t = wishes_ahead s ≡ []
