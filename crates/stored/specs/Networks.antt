-- What a network may be (RULES 2.6).
use Rattle.std.specs.Prelude.{ℕ, ◌-◌, ◌%◌, ◌^◌, Bool, ◌&&◌, eqb, leb}

-- the length is at most 32, and the bits after the length are zero
abbrev pub network_sound : ℕ → ℕ → Bool
network_sound address length = leb length 32 && eqb (address % 2 ^ (32 - length)) 0
