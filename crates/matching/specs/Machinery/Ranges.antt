-- A network as a range of addresses.
use Rattle.std.specs.Prelude.{ℕ, ◌+◌, ◌-◌, ◌*◌, ◌/◌}
use Rattle.matching.specs.Network.{network_size}

-- the lowest address of a network
abbrev pub network_low : ℕ → ℕ → ℕ
network_low network length = network / network_size length * network_size length

-- the highest address of a network
abbrev pub network_high : ℕ → ℕ → ℕ
network_high network length = network_low network length + (network_size length - 1)
