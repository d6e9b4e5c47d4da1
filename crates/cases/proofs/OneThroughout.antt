-- Words and bytes are numbers: by their test of equality, `all_equal` is `all_are`.
use Rattle.std.proofs.Common.{◌≡◌, ℕ, List, [], ◌∷◌, ◌&&◌, eqb, refl, ap}
use Rattle.cases.specs.Text.{all_are, all_equal}

pub numbers-are : (one : ℕ) (l : List ℕ) → all_equal eqb one l ≡ all_are one l
numbers-are one [] = refl
numbers-are one (n ∷ ns) = ap (eqb n one &&◌) (numbers-are one ns)
