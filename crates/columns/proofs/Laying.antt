-- Runs laid down one behind the other are one run.
use Rattle.std.proofs.Common.{ℕ, suc, ◌+◌, ◌≡◌, ap, ◌∙◌, List, [], ◌∷◌, ◌++◌, arith, length, set}
use lib.Seq.{sets}

-- a run behind a run
pub sets-append : (l : List ℕ) (i : ℕ) (xs ys : List ℕ) → sets (sets l i xs) (i + length xs) ys ≡ sets l i (xs ++ ys)
sets-append l i [] ys = ap (λ (k : ℕ). sets l k ys) {x = i + 0} {y = i} (omega arith)
sets-append l i (x ∷ xs) ys =
    ap (λ (k : ℕ). sets (sets (set l i x) (suc i) xs) k ys) {x = i + suc (length xs)} {y = suc i + length xs} (omega arith)
    ∙ sets-append (set l i x) (suc i) xs ys
