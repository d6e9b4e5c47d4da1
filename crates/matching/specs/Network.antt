-- When an address is in a network (RULES 4.4).
use Rattle.std.specs.Prelude.{ℕ, ◌-◌, ◌/◌, ◌^◌, Bool, ◌==◌}

-- the number of addresses of a network with that prefix length (over 32 as 32)
abbrev pub network_size : ℕ → ℕ
network_size length = 2 ^ (32 - length)

-- network and address agree in the first `length` of their 32 bits
abbrev pub agree : ℕ → ℕ → ℕ → Bool
agree network address length = network / network_size length == address / network_size length
