-- Laying down which positions take which byte has one outcome: two contents of the workspace that the contract of `lay_taken` permits, for
-- the same codes and the same words before, are the same.
use Rattle.std.proofs.Common.{ℕ, ◌+◌, ◌-◌, ◌*◌, ◌/◌, ◌≤◌, ◌<◌, ◌≡◌, refl, sym, ◌∙◌, ap, subst, List, ◌⊎◌, inl, inr, arith, get_or, take, drop, get_or-take, get_or-drop, ext_get_or}
use Rattle.matching.specs.Machinery.Rows.{word_bit}
use Rattle.matching.specs.Machinery.Words.{taken_row}
use Rattle.matching.proofs.MarkedRows.{row-at}
use Rattle.states.specs.Machinery.Rows.{WordsFit, taken_at, stars_at, followers_at, followers_end, row_at, followers_laid}
use Rattle.states.specs.Machinery.Taken.{LaysTaken}
use Rattle.states.proofs.Below.{below-or-from}
use Rattle.states.proofs.BitsOfWords.{bits-same}
use Rattle.states.proofs.Followers.{followers-once}
use Rattle.states.proofs.RowsInWords.{row_word}

-- a word of the set of followers
follower-word : (words : List ℕ) (i : ℕ) → i < 2 → get_or (followers_laid words) i 0 ≡ get_or words (followers_at + i) 0
follower-word words i low = get_or-take 2 (drop followers_at words) i 0 low ∙ get_or-drop followers_at words i 0

module _ (one two : List ℕ) where
  -- both have the same word at a place
  abbrev Agree : ℕ → Type 0
  Agree k = get_or one k 0 ≡ get_or two k 0

  -- by its distance from another place
  agree-from : (n k : ℕ) → n ≤ k → Agree (n + (k - n)) → Agree k
  agree-from n k from = subst Agree {x = n + (k - n)} {y = k} (omega arith)

  agree-front : (n k : ℕ) → take n one ≡ take n two → k < n → Agree k
  agree-front n k same low = sym (get_or-take n one k 0 low) ∙ ap (λ (l : List ℕ). get_or l k 0) same ∙ get_or-take n two k 0 low

  agree-rest : (n k : ℕ) → drop n one ≡ drop n two → n ≤ k → Agree k
  agree-rest n k same from =
      agree-from n k from (sym (get_or-drop n one (k - n) 0) ∙ ap (λ (l : List ℕ). get_or l (k - n) 0) same ∙ get_or-drop n two (k - n) 0)

  agree-row : (i k : ℕ) → row_at one i ≡ row_at two i → i * 8 ≤ k → k < i * 8 + 8 → Agree k
  agree-row i k same from low =
      agree-from (i * 8) k from
      (sym (row_word one i (k - i * 8) (omega arith))
      ∙ ap (λ (l : List ℕ). get_or l (k - i * 8) 0) same
      ∙ row_word two i (k - i * 8) (omega arith))

  module _ (codes before : List ℕ) (Fits-one : WordsFit one) (fits-two : WordsFit two) (l : LaysTaken codes before one)
      (m : LaysTaken codes before two) where
    agree-taken : (k b : ℕ) → b ≡ k / 8 - 607 → taken_at ≤ k → k < stars_at → Agree k
    agree-taken k b is from low =
        agree-row (607 + b) k (l.takes.taken b (omega arith, omega arith) ∙ sym (m.takes.taken b (omega arith, omega arith)))
        (omega arith) (omega arith)

    -- the two sets have the same bytes, so their words have the same bits
    agree-followers : (i : ℕ) → i < 2 → Agree (followers_at + i)
    agree-followers i low =
        bits-same 64 (get_or one (followers_at + i) 0) (get_or two (followers_at + i) 0) (Fits-one (followers_at + i)) (fits-two (followers_at + i))
        (λ k few.
        ap (λ (w : ℕ). word_bit w k) (sym (follower-word one i low))
        ∙ row-at (followers_laid one) i k few
        ∙ followers-once (taken_row codes) (followers_laid one) (followers_laid two) l.takes.followers m.takes.followers (64 * i + k) (omega arith)
        ∙ sym (row-at (followers_laid two) i k few)
        ∙ ap (λ (w : ℕ). word_bit w k) (follower-word two i low))

    agree : (k : ℕ) → (k < taken_at) ⊎ (taken_at ≤ k) → (k < stars_at) ⊎ (stars_at ≤ k) → (k < followers_at) ⊎ (followers_at ≤ k)
        → (k < followers_end) ⊎ (followers_end ≤ k) → Agree k
    agree k (inl low) s f e = agree-front taken_at k (l.front ∙ sym m.front) low
    agree k (inr from) (inl low) f e = agree-taken k (k / 8 - 607) refl from low
    agree k (inr t) (inr from) (inl low) e = agree-row 734 k (l.takes.stars ∙ sym m.takes.stars) (omega arith) (omega arith)
    agree k (inr t) (inr s) (inr from) (inl low) = agree-from followers_at k from (agree-followers (k - followers_at) (omega arith))
    agree k (inr t) (inr s) (inr f) (inr from) = agree-rest followers_end k (l.rest ∙ sym m.rest) from

-- the words of a workspace have 64 bits, which the type of the slice says
pub one-laying : (codes before one two : List ℕ) → WordsFit one → WordsFit two → LaysTaken codes before one → LaysTaken codes before two → one ≡ two
one-laying codes before one two Fits-one fits-two l m =
    ext_get_or 0 one two (l.same ∙ sym m.same)
    (λ k inside.
    agree one two codes before Fits-one fits-two l m k (below-or-from k taken_at) (below-or-from k stars_at) (below-or-from k followers_at)
    (below-or-from k followers_end))
