-- The edges of networks.
use Rattle.std.specs.Prelude.{ℕ, ◌+◌, ◌^◌, min, List, [], ◌∷◌, ltb}
use Rattle.stored.specs.Choice.{pick}
use Rattle.matching.specs.Machinery.Ranges.{network_low, network_high}

-- the least end of a network above an address, 2 ^ 32 if there is none: its low address, or one past its high address
abbrev pub above : ℕ → ℕ → ℕ
above end x = pick (ltb x end) end (2 ^ 32)

abbrev pub next_edge : List (ℕ × ℕ) → ℕ → ℕ
next_edge [] x = 2 ^ 32
next_edge (n ∷ ns) x = min (min (above (network_low n.0 n.1) x) (above (network_high n.0 n.1 + 1) x)) (next_edge ns x)
