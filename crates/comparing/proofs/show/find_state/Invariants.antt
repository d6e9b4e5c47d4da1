-- None of the states before the one at hand has the footprint: that is the invariant.
use Rattle.std.proofs.Common.{ℕ, ◌≤◌, ◌<◌, ◌≡◌}
use Rattle.judging.specs.Requests.{text}
use Rattle.judging.specs.Judging.{rows_of}
use Rattle.states.specs.Machinery.Search.{string_of}
use Rattle.comparing.specs.Machinery.Product.{print_of}
use Rattle.comparing.proofs.show.find_state.Given as goal

abbrev pub invariant-loop-i : goal.invariant-loop-i
invariant-loop-i l =
    (j : ℕ) → l.from ≤ j → j < l.i → print_of (rows_of l.tables.first.now) (rows_of l.tables.second.now) l.column (text (string_of l.words j)) ≡ l.print → ⊥
