-- The positions behind those of a row, word by word; and bytes that none of them tells apart lead from the row to the same one.
use Rattle.std.proofs.Common.{◌≡◌, ℕ, zero, suc, ◌+◌, ◌*◌, ◌<◌, Bool, true, false, ◌&&◌, ◌||◌, eqb, List, get_or, sym, refl, ap, ◌∙◌, ap₂, add-zero, add-suc, arith}
use Rattle.matching.specs.Symbols.{pick}
use Rattle.matching.specs.Machinery.Codes.{start_code, star_code, one_code, takes_byte}
use Rattle.matching.specs.Machinery.Rows.{positions, step_bit, word_bit, row_bit, pack_word, step_row}
use Rattle.matching.specs.Machinery.Words.{moved_up, ahead_row}
use Rattle.matching.proofs.Rows.{word_same, row-bit, row_same}
use Rattle.matching.proofs.MarkedRows.{row-at}

-- word i of them
pub word-ahead : (row : List ℕ) (i before moved : ℕ) → word_bit before 63 ≡ moved_up (row_bit row) false (64 * i)
    → moved ≡ pack_word 64 (moved_up (word_bit (get_or row i 0)) (word_bit before 63))
    → moved ≡ pack_word 64 (λ k. moved_up (row_bit row) false (64 * i + k))
word-ahead row i before moved before-is is =
    is ∙ word_same 64 (moved_up (word_bit (get_or row i 0)) (word_bit before 63)) (λ k. moved_up (row_bit row) false (64 * i + k)) at
  where
    at : (k : ℕ) → k < 64 → moved_up (word_bit (get_or row i 0)) (word_bit before 63) k ≡ moved_up (row_bit row) false (64 * i + k)
    at zero h = before-is ∙ ap (moved_up (row_bit row) false) (sym (add-zero (64 * i)))
    at (suc k) h = row-at row i k (omega arith) ∙ ap (moved_up (row_bit row) false) (sym (add-suc (64 * i) k))

pub same_ahead : (codes row : List ℕ) (a b : ℕ)
    → ((p : ℕ) → p < positions → row_bit (ahead_row row) p ≡ true → takes_byte (get_or codes p 0) a ≡ takes_byte (get_or codes p 0) b)
    → step_row codes a row ≡ step_row codes b row
unfolding step_row ahead_row
same_ahead codes row a b same = row_same 8 (step_bit codes a (row_bit row)) (step_bit codes b (row_bit row)) cell
  where
    asks : (p : ℕ) → suc p < positions → (t : Bool) → row_bit row p ≡ t → (t && takes_byte (get_or codes (suc p) 0) a) ≡ (t && takes_byte (get_or codes (suc p) 0) b)
    asks p h true e = same (suc p) h (row-bit 8 (suc p) (moved_up (row_bit row) false) h ∙ e)
    asks p h false e = refl

    cell : (p : ℕ) → p < positions → step_bit codes a (row_bit row) p ≡ step_bit codes b (row_bit row) p
    cell zero h = refl
    cell (suc p) h =
        ap₂
        (λ (new takes : Bool).
        pick (eqb (get_or codes (suc p) 0) start_code) false
        (pick (eqb (get_or codes (suc p) 0) star_code) (new || row_bit row (suc p)) (pick (eqb (get_or codes (suc p) 0) one_code) (row_bit row p) takes)))
        (cell p (omega arith))
        (asks p h (row_bit row p) refl)
