-- Parts of words that lie where nothing was changed.
use Rattle.std.proofs.Common.{ℕ, zero, suc, ◌+◌, ◌≤◌, ◌≡◌, refl, sym, ap, ◌∙◌, List, [], ◌∷◌, arith, length, take, drop, set, take-take, drop-set-lt}
use borrow.Rule.Slice.PartMut.{put_mid}
use lib.Seq.{sets, sets-eq, take-length, take-nil, take-set-le}
use Rattle.std.proofs.lemmas.Slice.{put_mid-paste}

-- a part that lies where two lists agree
drop-taken : (at k : ℕ) (l : List ℕ) → drop at (take (at + k) l) ≡ take k (drop at l)
drop-taken zero k l = ap (λ (n : ℕ). take n l) {x = 0 + k} {y = k} (omega arith)
drop-taken (suc at) k [] = ap (drop (suc at)) (take-nil (suc at + k)) ∙ sym (take-nil k)
drop-taken (suc at) k (x ∷ l) =
    ap (λ (n : ℕ). drop (suc at) (take n (x ∷ l))) {x = suc at + k} {y = suc (at + k)} (omega arith) ∙ drop-taken at k l

pub part-kept : (l m : List ℕ) (k at n : ℕ) → take k l ≡ take k m → at + n ≤ k → take n (drop at l) ≡ take n (drop at m)
part-kept l m k at n same inside =
    sym (drop-taken at n l)
    ∙ ap (drop at) (sym (take-take (at + n) k l inside) ∙ ap (take (at + n)) same ∙ take-take (at + n) k m inside)
    ∙ drop-taken at n m

-- fewer of the first words
pub front_kept : (l m : List ℕ) (k j : ℕ) → take k l ≡ take k m → j ≤ k → take j l ≡ take j m
front_kept l m k j same low = sym (take-take j k l low) ∙ ap (take j) same ∙ take-take j k m low

-- a run of stores leaves what lies before and behind it
pub sets-front : (l vs : List ℕ) (at n : ℕ) → n ≤ at → take n (sets l at vs) ≡ take n l
sets-front l [] at n low = refl
sets-front l (v ∷ vs) at n low = sets-front (set l at v) vs (suc at) n (omega arith) ∙ take-set-le n l at v low

pub sets_behind : (l vs : List ℕ) (at n : ℕ) → at + length vs ≤ n → drop n (sets l at vs) ≡ drop n l
sets_behind l [] at n high = refl
sets_behind l (v ∷ vs) at n high = sets_behind (set l at v) vs (suc at) n (omega arith) ∙ drop-set-lt n l at v (omega arith)

-- a part laid over others is a run of stores
pub put_mid-sets : (l vs : List ℕ) (at k : ℕ) → k ≡ length vs → at + length vs ≤ length l → put_mid at k l vs ≡ sets l at vs
put_mid-sets l vs at k long room = rw (put_mid-paste at k l vs vs k refl refl long, long, take-length vs) (sym (sets-eq vs l at room))
