-- The rows of the bytes in the workspace: laid down position by position, they say which positions take each byte and which
-- bytes follow others, and a step by these rows is a step by the codes.
use Rattle.std.proofs.Common.{ℕ, suc, ◌+◌, ◌-◌, ◌*◌, ◌/◌, ◌≤◌, ◌<◌, ◌≡◌, refl, sym, ◌∙◌, ap, ap₂, subst, List, [], ◌∷◌, ◌++◌, arith, length, get_or, take, drop, replicate, length-take, length-drop, length-append, length-take-le, take_at, drop_at, drop-cons, drop-drop, get_or-take, get_or-drop, get_or-append-add, ext_get_or}
use lib.ListN.{length-replicate, get_or-replicate, get_or-append}
use lib.Seq.{sets, length-sets}
use Rattle.matching.specs.Machinery.Rows.{pack}
use Rattle.matching.specs.Machinery.Words.{taken_bit, taken_row, star_row, words_row}
use Rattle.matching.proofs.Rows.{upto}
use Rattle.matching.proofs.ByWords.{step-by-words}
use Rattle.matching.proofs.MarkedRows.{none-marked, mark-more, all-marked, taken-outside}
use Rattle.states.specs.Machinery.Rows.{prints_at, codes_at, taken_at, stars_at, followers_at, followers_end, row_at, codes_laid, IsByte, taken_laid, stars_laid, followers_laid}
use Rattle.states.specs.Machinery.Taken.{takes, Marks, RowsLaid, FollowersOf, FollowersSet, Takes, LaysTaken}
use Rattle.states.specs.Machinery.Search.{step_from, Searchable}
use Rattle.states.proofs.Parts.{part-kept, front_kept, sets-front, sets_behind}
use Rattle.states.proofs.Followers.{followers-as}
use Rattle.states.proofs.RowsInWords.{row-length, row_word, part_laid, row_laid, row_kept}

-- no more codes than positions
pub codes-few : (positions : ℕ) (words : List ℕ) → length (codes_laid positions words) ≤ positions
codes-few positions words = omega (arith, length-take positions (drop codes_at words))

-- the rows of the bytes, position by position

-- the words with others in the place of the rows of the bytes
abbrev pub with_rows : List ℕ → List ℕ → List ℕ
with_rows words part = take taken_at words ++ (part ++ drop 752 (drop taken_at words))

module _ (words part : List ℕ) (room : stars_at ≤ length words) (clear : part ≡ replicate (length (take 752 (drop taken_at words))) 0) where
  front-size : length (take taken_at words) ≡ taken_at
  front-size = length-take-le taken_at words (omega arith)

  part-size : length part ≡ 752
  part-size =
      ap length clear
      ∙ length-replicate (length (take 752 (drop taken_at words))) 0
      ∙ length-take-le 752 (drop taken_at words) (omega (arith, length-drop taken_at words))

  pub cleared-length : length (with_rows words part) ≡ length words
  cleared-length =
      length-append (take taken_at words) (part ++ drop 752 (drop taken_at words))
      ∙ ap₂ ◌+◌ front-size (length-append part (drop 752 (drop taken_at words)))
      ∙ omega (arith, part-size, length-drop taken_at words, length-drop 752 (drop taken_at words))

  cleared-word : (k : ℕ) → k < 752 → get_or (with_rows words part) (taken_at + k) 0 ≡ 0
  cleared-word k low =
      ap (λ (n : ℕ). get_or (with_rows words part) (n + k) 0) (sym front-size)
      ∙ get_or-append-add (take taken_at words) (part ++ drop 752 (drop taken_at words)) k 0
      ∙ get_or-append part (drop 752 (drop taken_at words)) 0 k (omega (arith, part-size))
      ∙ ap (λ (l : List ℕ). get_or l k 0) clear
      ∙ get_or-replicate (length (take 752 (drop taken_at words))) k 0 0 (omega (arith, length-take-le 752 (drop taken_at words) (omega (arith, length-drop taken_at words))))

  cleared-row : (b : ℕ) → IsByte b → taken_laid (with_rows words part) b ≡ replicate 8 0
  cleared-row b is =
      let low = is.0 in
      let high = is.1 in
      let size = row-length (with_rows words part) (607 + b) (omega (arith, cleared-length)) in
      ext_get_or 0 (taken_laid (with_rows words part) b) (replicate 8 0) size
      (λ k h.
      let under : k < 8 = omega arith in
      row_word (with_rows words part) (607 + b) k under
      ∙ ap (λ (n : ℕ). get_or (with_rows words part) n 0) {x = (607 + b) * 8 + k} {y = taken_at + ((b - 33) * 8 + k)} (omega arith)
      ∙ cleared-word ((b - 33) * 8 + k) (omega arith)
      ∙ sym (get_or-replicate 8 k 0 0 under))

-- the rows of the bytes have the positions below p
pub record RowsUpto (codes before after : List ℕ) (p : ℕ) : Type 0 where
  pub rows : (b : ℕ) → IsByte b → taken_laid after b ≡ pack 8 (upto p (taken_bit codes b))
  pub front : take taken_at after ≡ take taken_at before
  pub behind : drop stars_at after ≡ drop stars_at before
  pub same : length after ≡ length before

pub rows-begin : (codes words part : List ℕ) → stars_at ≤ length words → part ≡ replicate (length (take 752 (drop taken_at words))) 0
    → RowsUpto codes words (with_rows words part) 0
rows-begin codes words part room clear =
    record {
      rows = λ b is. cleared-row words part room clear b is ∙ none-marked (taken_bit codes b);
      front = take_at (take taken_at words) (part ++ drop 752 (drop taken_at words)) taken_at (front-size words part room clear);
      behind =
          sym (drop-drop 752 taken_at (with_rows words part))
          ∙ ap (drop 752) (drop_at (take taken_at words) (part ++ drop 752 (drop taken_at words)) taken_at (front-size words part room clear))
          ∙ drop_at part (drop 752 (drop taken_at words)) 752 (part-size words part room clear)
          ∙ drop-drop 752 taken_at words;
      same = cleared-length words part room clear;
    }

-- the code that is read is the position's
pub code_read : (positions : ℕ) (before words : List ℕ) (p : ℕ) → positions ≤ 512 → p < positions → take taken_at words ≡ take taken_at before
    → get_or words (codes_at + p) 0 ≡ get_or (codes_laid positions before) p 0
code_read positions before words p most low same =
    sym (get_or-take taken_at words (codes_at + p) 0 (omega arith))
    ∙ ap (λ (l : List ℕ). get_or l (codes_at + p) 0) same
    ∙ get_or-take taken_at before (codes_at + p) 0 (omega arith)
    ∙ sym (get_or-drop codes_at before p 0)
    ∙ sym (get_or-take positions (drop codes_at before) p 0 low)

pub rows_next : (codes before words after : List ℕ) (p code : ℕ) → p < 512 → code ≡ get_or codes p 0 → RowsUpto codes before words p → Marks words after p (takes code)
    → RowsUpto codes before after (p + 1)
rows_next codes before words after p code low is r m =
    record {
      rows = λ b byte.
          mark-more (taken_bit codes b) (taken_laid words b) (taken_laid after b) p (takes code b) low (r.rows b byte) (ap (λ (k : ℕ). takes k b) is) (m.rows b byte);
      front = m.front ∙ r.front;
      behind = m.behind ∙ r.behind;
      same = m.same ∙ r.same;
    }

pub rows_end : (positions : ℕ) (words before after : List ℕ) (p : ℕ) → positions ≤ p → RowsUpto (codes_laid positions words) before after p → RowsLaid (codes_laid positions words) before after
unfolding taken_row
rows_end positions words before after p all r =
    record {
      taken = λ b byte.
          r.rows b byte
          ∙ all-marked (taken_bit (codes_laid positions words) b) p
          (λ q low from. taken-outside (codes_laid positions words) b q (omega (arith, codes-few positions words)));
      front = r.front;
      behind = r.behind;
      same = r.same;
    }

-- from the cleared words on, and from those before they were cleared
pub rows_start : (codes words cleared : List ℕ) → RowsUpto codes words cleared 0 → RowsUpto codes cleared cleared 0
rows_start codes words cleared r = record { rows = r.rows; front = refl; behind = refl; same = refl }

pub rows_whole : (positions : ℕ) (words cleared after : List ℕ) → positions ≤ 512 → RowsUpto (codes_laid positions cleared) words cleared 0
    → RowsLaid (codes_laid positions cleared) cleared after → RowsLaid (codes_laid positions words) words after
rows_whole positions words cleared after most r laid =
    record {
      taken = λ b byte. laid.taken b byte ∙ ap (λ (codes : List ℕ). taken_row codes b) (part-kept cleared words taken_at codes_at positions r.front (omega arith));
      front = laid.front ∙ r.front;
      behind = laid.behind ∙ r.behind;
      same = laid.same ∙ r.same;
    }

-- the bytes that follow others

-- the two words at a place
pub pair-at : (words : List ℕ) (at : ℕ) → at + 2 ≤ length words → take 2 (drop at words) ≡ get_or words at 0 ∷ get_or words (at + 1) 0 ∷ []
pair-at words at room =
    ap (take 2) (drop-cons words at 0 (omega arith) ∙ ap (λ (l : List ℕ). get_or words at 0 ∷ l) (drop-cons words (suc at) 0 (omega arith)))
    ∙ ap (λ (k : ℕ). get_or words at 0 ∷ get_or words k 0 ∷ []) {x = suc at} {y = at + 1} (omega arith)

pub followers-set : (words row : List ℕ) → prints_at ≤ length words → length row ≡ 2 → FollowersOf (taken_laid words) row → FollowersSet words (sets words 5880 row)
followers-set words row room two of =
    record {
      followers = subst (FollowersOf (taken_laid words)) (sym (part_laid words 5880 2 row two (omega arith))) of;
      front = sets-front words row 5880 followers_at (omega arith);
      behind = sets_behind words row 5880 followers_end (omega arith);
      same = length-sets words 5880 row;
    }

-- all of it

pub stars-length : (codes : List ℕ) → length (star_row codes) ≡ 8
unfolding star_row pack
stars-length codes = refl

module _ (positions : ℕ) (before rows after stars : List ℕ) (most : positions ≤ 512) (room : prints_at ≤ length before)
    (laid : RowsLaid (codes_laid positions before) before rows) (starred : stars ≡ star_row (codes_laid positions rows))
    (led : FollowersSet (sets rows 5872 stars) after) where
  eight : length stars ≡ 8
  eight = ap length starred ∙ stars-length (codes_laid positions rows)

  row_last : (b : ℕ) → IsByte b → taken_laid (sets rows 5872 stars) b ≡ taken_row (codes_laid positions before) b
  row_last b byte = let high = byte.1 in row_kept rows 734 (607 + b) stars eight (λ w. omega arith) ∙ laid.taken b byte

  stars-last : stars_laid (sets rows 5872 stars) ≡ star_row (codes_laid positions before)
  stars-last =
      row_laid rows 734 stars eight (omega (arith, laid.same))
      ∙ starred
      ∙ ap star_row (part-kept rows before taken_at codes_at positions laid.front (omega arith))

  rest-last : drop followers_end after ≡ drop followers_end before
  rest-last =
      led.behind
      ∙ sets_behind rows stars 5872 followers_end (omega (arith, eight))
      ∙ sym (drop-drop 10 stars_at rows)
      ∙ ap (drop 10) laid.behind
      ∙ drop-drop 10 stars_at before

  pub taken-laid : LaysTaken (codes_laid positions before) before after
  taken-laid =
      record {
        takes =
            record {
              taken = λ b byte.
                  let high = byte.1 in
                  part-kept after (sets rows 5872 stars) followers_at ((607 + b) * 8) 8 led.front (omega arith) ∙ row_last b byte;
              stars = part-kept after (sets rows 5872 stars) followers_at (734 * 8) 8 led.front (omega arith) ∙ stars-last;
              followers = followers-as (taken_laid (sets rows 5872 stars)) (taken_row (codes_laid positions before)) (followers_laid after) row_last led.followers;
            };
        front =
            front_kept after (sets rows 5872 stars) followers_at taken_at led.front (omega arith)
            ∙ sets-front rows stars 5872 taken_at (omega arith)
            ∙ laid.front;
        rest = rest-last;
        behind = sym (drop-drop 94 followers_end after) ∙ ap (drop 94) rest-last ∙ drop-drop 94 followers_end before;
        same = led.same ∙ length-sets rows 5872 stars ∙ laid.same;
      }

-- searching by the rows of the bytes

module _ (positions : ℕ) (words laid : List ℕ) (most : positions ≤ 512) (l : LaysTaken (codes_laid positions words) words laid) where
  -- the codes are as they were
  pub codes-stay : codes_laid positions laid ≡ codes_laid positions words
  codes-stay = part-kept laid words taken_at codes_at positions l.front (omega arith)

  pub searchable-laid : prints_at ≤ length words → Searchable positions laid
  searchable-laid room =
      record { most = most; room = omega (arith, l.same); takes = subst (λ (codes : List ℕ). Takes codes laid) (sym codes-stay) l.takes }

module _ (before after : List ℕ) (same : drop codes_at after ≡ drop codes_at before) where
  row-behind : (i : ℕ) → 576 ≤ i → row_at after i ≡ row_at before i
  row-behind i from =
      ap (λ (n : ℕ). take 8 (drop n after)) {x = i * 8} {y = codes_at + (i * 8 - codes_at)} (omega arith)
      ∙ ap (take 8) (sym (drop-drop (i * 8 - codes_at) codes_at after) ∙ ap (drop (i * 8 - codes_at)) same ∙ drop-drop (i * 8 - codes_at) codes_at before)
      ∙ ap (λ (n : ℕ). take 8 (drop n before)) {x = codes_at + (i * 8 - codes_at)} {y = i * 8} (omega arith)

  followers-behind : followers_laid after ≡ followers_laid before
  followers-behind = ap (take 2) (sym (drop-drop 1272 codes_at after) ∙ ap (drop 1272) same ∙ drop-drop 1272 codes_at before)

  -- a search changes none of them
  pub searchable-stays : (positions : ℕ) → length after ≡ length before → Searchable positions before → Searchable positions after
  searchable-stays positions long s =
      record {
        most = s.most;
        room = omega (arith, s.room);
        takes =
            subst (λ (codes : List ℕ). Takes codes after) (sym (ap (take positions) same))
            record {
              taken = λ b byte. let low = byte.0 in row-behind (607 + b) (omega arith) ∙ s.takes.taken b byte;
              stars = row-behind 734 (omega arith) ∙ s.takes.stars;
              followers = subst (FollowersOf (taken_row (codes_laid positions before))) (sym followers-behind) s.takes.followers;
            };
      }

module _ (positions : ℕ) (words : List ℕ) (s : Searchable positions words) where
  -- a step by the rows is a step by the codes
  pub step-leads : (i b : ℕ) → IsByte b
      → words_row ((positions + 63) / 64) (taken_laid words b) (stars_laid words) (row_at words i) ≡ step_from (codes_laid positions words) words i b
  step-leads i b byte =
      ap₂ (λ (taken stars : List ℕ). words_row ((positions + 63) / 64) taken stars (row_at words i)) (s.takes.taken b byte) s.takes.stars
      ∙ step-by-words (codes_laid positions words) (row_at words i) b ((positions + 63) / 64) (omega (arith, s.most)) (omega (arith, codes-few positions words))
