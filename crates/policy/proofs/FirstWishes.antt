-- A cursor at the beginning has all wishes of the text before it.
use Rattle.std.proofs.Common.{ℕ, ◌≡◌, List}
use Rattle.records.specs.Machinery.Cursors.{wishes_left, first_cursor}
use Rattle.records.proofs.Wishing as Wishing
use Rattle.policy.specs.Machinery.Runs.{wishes_of}

pub first-wishes : (t : List ℕ) → wishes_left t first_cursor ≡ wishes_of t
unfolding wishes_of
first-wishes t = Wishing.first-wishes t
