-- Runs of bytes laid down one behind the other are one run.
use Rattle.std.proofs.Common.{ℕ, suc, ◌+◌, ◌≤◌, ◌≡◌, refl, sym, ◌∙◌, ap, List, [], ◌∷◌, ◌++◌, arith, length, length-append, set}
use borrow.Rule.Slice.PartMut.{put_mid}
use Rattle.std.proofs.lemmas.Slice.{put_mid-paste}
use lib.Seq.{sets, sets-eq, take-length}
use Rattle.printing.specs.Laying.{Laid}

sets_behind : (l : List ℕ) (at : ℕ) (xs ys : List ℕ) (p : ℕ) → p ≡ at + length xs → sets (sets l at xs) p ys ≡ sets l at (xs ++ ys)
sets_behind l at [] ys p e = ap (λ (n : ℕ). sets l n ys) (omega arith)
sets_behind l at (x ∷ xs) ys p e = sets_behind (set l at x) (suc at) xs ys p (omega arith)

-- a run, and one behind it
pub joined : {before between after xs ys : List ℕ} {at p q m n : ℕ}
    → Laid before at xs m between p → Laid between p ys n after q → Laid before at (xs ++ ys) (m + n) after q
joined {before} {between} {after} {xs} {ys} {at} {p} {q} x y =
    record {
      lies = y.lies ∙ ap (λ (l : List ℕ). sets l p ys) x.lies ∙ sets_behind before at xs ys p x.ends;
      ends = omega (arith, x.ends, y.ends, length-append xs ys);
      within = omega (arith, x.within, y.within);
    }

-- a run that is known to be within fewer bytes
pub widened : {before after xs : List ℕ} {at q m n : ℕ} → m ≤ n → Laid before at xs m after q → Laid before at xs n after q
widened h x = record { lies = x.lies; ends = x.ends; within = omega (arith, x.within) }

-- no bytes
pub nothing : (l : List ℕ) (at m : ℕ) → Laid l at [] m l at
nothing l at m = record { lies = refl; ends = omega arith; within = omega arith }

-- a part laid over others is a run
pub copied : (before : List ℕ) (at k : ℕ) (bytes : List ℕ) → k ≡ length bytes → at + length bytes ≤ length before → put_mid at k before bytes ≡ sets before at bytes
copied before at k bytes long room = rw (put_mid-paste at k before bytes bytes k refl refl long, long, take-length bytes) (sym (sets-eq bytes before at room))

-- the same bytes
pub relaid : {before after xs ys : List ℕ} {at q m : ℕ} → xs ≡ ys → Laid before at xs m after q → Laid before at ys m after q
relaid e x = rw (← e) x
