-- What laying bytes down leaves.
use Rattle.std.specs.Prelude.{ℕ, ◌+◌, ◌≤◌, ◌≡◌, List, length}
use Rattle.std.proofs.lemmas.List.Edits.{sets}

-- bytes are laid down at a place, and no other byte changes; the answer is the place behind them, at most so many bytes on
pub record Laid (before : List ℕ) (at : ℕ) (bytes : List ℕ) (most : ℕ) (after : List ℕ) (behind : ℕ) : Type 0 where
  pub lies : after ≡ sets before at bytes
  pub ends : behind ≡ at + length bytes
  pub within : behind ≤ at + most
