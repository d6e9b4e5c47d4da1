-- What the functions that lay down which positions take which byte promise each other.
use Rattle.std.specs.Prelude.{ℕ, ◌+◌, ◌-◌, ◌*◌, ◌/◌, ◌%◌, ◌^◌, ◌≤◌, ◌<◌, ◌≡◌, Bool, ◌||◌, List, eqb, length, get_or, take, drop, set}
use Rattle.std.specs.Int.Bits.{bit_or}
use Rattle.matching.specs.Machinery.Codes.{one_code, takes_byte}
use Rattle.matching.specs.Machinery.Rows.{row_bit, mark_row}
use Rattle.matching.specs.Machinery.Words.{taken_row, star_row}
use Rattle.states.specs.Machinery.Rows.{prints_at, IsByte, Tells, taken_at, stars_at, followers_at, followers_end, taken_laid, stars_laid, followers_laid}

-- position p marked in row i
abbrev pub marked_at : List ℕ → ℕ → ℕ → List ℕ
marked_at words i p = set words (i * 8 + p / 64) (bit_or (get_or words (i * 8 + p / 64) 0) (2 ^ (p % 64)))

-- whether a position with this code takes a byte
abbrev pub takes : ℕ → ℕ → Bool
takes code b = eqb code one_code || takes_byte code b

-- position p was marked in the rows of some bytes, and nothing else was changed
pub record Marks (before after : List ℕ) (p : ℕ) (marked : ℕ → Bool) : Type 0 where
  pub rows : (b : ℕ) → IsByte b → taken_laid after b ≡ mark_row (taken_laid before b) p (marked b)
  pub front : take taken_at after ≡ take taken_at before
  pub behind : drop stars_at after ≡ drop stars_at before
  pub same : length after ≡ length before

-- the rows of all bytes are laid down for these codes
abbrev pub TakenLaid : List ℕ → List ℕ → Type 0
TakenLaid codes words = (b : ℕ) → IsByte b → taken_laid words b ≡ taken_row codes b

-- they were laid down; what is before and behind them stays
pub record RowsLaid (codes before after : List ℕ) : Type 0 where
  pub taken : TakenLaid codes after
  pub front : take taken_at after ≡ take taken_at before
  pub behind : drop stars_at after ≡ drop stars_at before
  pub same : length after ≡ length before

-- a small letter follows its capital where both have the same row
abbrev pub IsFollower : (ℕ → List ℕ) → ℕ → Type 0
IsFollower row b = (0x61 ≤ b) × (b ≤ 0x7A) × (row (b - 32) ≡ row b)

-- a set has those that follow, and no other byte
abbrev pub FollowersOf : (ℕ → List ℕ) → List ℕ → Type 0
FollowersOf row set = (x : ℕ) → x < 128 → Tells (row_bit set x) (IsFollower row x)

-- it has those below a bound
abbrev pub FollowersBelow : (ℕ → List ℕ) → ℕ → List ℕ → Type 0
FollowersBelow row bound set = (x : ℕ) → x < 128 → Tells (row_bit set x) ((x < bound) × IsFollower row x)

-- such a set was laid down; what is before and behind it stays
pub record FollowersSet (before after : List ℕ) : Type 0 where
  pub followers : FollowersOf (taken_laid before) (followers_laid after)
  pub front : take followers_at after ≡ take followers_at before
  pub behind : drop followers_end after ≡ drop followers_end before
  pub same : length after ≡ length before

-- which positions take a byte, which stand behind a star, and which bytes follow others, for these codes
pub record Takes (codes words : List ℕ) : Type 0 where
  pub taken : TakenLaid codes words
  pub stars : stars_laid words ≡ star_row codes
  pub followers : FollowersOf (taken_row codes) (followers_laid words)

-- all of this was laid down; what is before and behind it stays, the footprints too
pub record LaysTaken (codes before after : List ℕ) : Type 0 where
  pub takes : Takes codes after
  pub front : take taken_at after ≡ take taken_at before
  pub rest : drop followers_end after ≡ drop followers_end before
  pub behind : drop prints_at after ≡ drop prints_at before
  pub same : length after ≡ length before
