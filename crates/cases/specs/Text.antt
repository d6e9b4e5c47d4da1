-- The text of the cases: where a byte stands next, parts of bytes, and the signs of a word; and memory that holds one number.
use Rattle.std.specs.Prelude.{ℕ, ◌+◌, ◌-◌, Bool, true, ◌&&◌, ◌||◌, List, [], ◌∷◌, eqb, leb, length, get_or, take, drop}
use Rattle.stored.specs.Choice.{pick}

-- the bytes from a place to another, or none where there is no such part
abbrev pub part_of : List ℕ → ℕ → ℕ → List ℕ
part_of bytes from to = pick (leb to (length bytes) && leb from to) (take (to - from) (drop from bytes)) []

-- how many bytes there are up to the first that is wanted, which counts as so many of its own, or in all
abbrev pub up_to : ℕ → ℕ → List ℕ → ℕ
up_to own wanted [] = 0
up_to own wanted (b ∷ bs) = pick (eqb b wanted) own (up_to own wanted bs + 1)

-- these bytes stand in the text from a place on, 0 being past its end
abbrev pub stand_at : List ℕ → ℕ → List ℕ → Bool
stand_at text at [] = true
stand_at text at (b ∷ bs) = eqb (get_or text at 0) b && stand_at text (at + 1) bs

-- every number of the list is this one
abbrev pub all_are : ℕ → List ℕ → Bool
all_are one [] = true
all_are one (n ∷ ns) = eqb n one && all_are one ns

-- every element of the list is this one, by a test of equality
abbrev pub all_equal : {A : Type 0} → (A → A → Bool) → A → List A → Bool
all_equal equal one [] = true
all_equal equal one (x ∷ xs) = equal x one && all_equal equal one xs

-- a blank, or the end of a line
abbrev pub is_blank : ℕ → Bool
is_blank b = eqb b 0x20 || eqb b 0x0A

abbrev pub is_digit : ℕ → Bool
is_digit b = leb 0x30 b && leb b 0x39

-- what a hex digit stands for, 0 for every other byte
abbrev pub digit_of : ℕ → ℕ
digit_of b = pick (is_digit b) (b - 0x30) (pick (leb 0x41 b && leb b 0x46) (b - 0x41 + 10) 0)
