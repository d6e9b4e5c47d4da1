-- The number of words that hold a column's positions.
use Rattle.std.proofs.Common.{ℕ, ◌+◌, ◌/◌, ◌%◌, ◌≡◌, min, arith}
use Rattle.std.proofs.lemmas.Grind.{div_ceil_times}

pub used-words : (n : ℕ) → n / 64 + min 1 (n % 64) ≡ (n + 63) / 64
used-words n = omega (arith, (div_ceil_times n 64 (omega arith)).0, (div_ceil_times n 64 (omega arith)).1)
