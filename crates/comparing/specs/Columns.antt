-- What refusals 10, 11 and 12 count (RULES 6.7, 7.3): the values of a column, the states of all strings, and the footprints.
use Rattle.std.specs.Prelude.{ℕ, ◌≤◌, ◌≡◌, Bool, true, List, ltb, length}
use Rattle.stored.specs.Choice.{pick}
use Rattle.stored.specs.Values.{in_range}
use Rattle.stored.specs.Tables.{Statement}
use Rattle.matching.specs.declared.reading.Reading.{Reading}
use Rattle.matching.specs.State.{state_of}
use Rattle.columns.specs.Values.{values_in, sum_of, networks_in}
use Rattle.comparing.specs.Requests.{Admitted}
use Rattle.comparing.specs.Gaps.{footprint}
use Rattle.comparing.specs.Counts.{Different, MoreThan}

-- 10: a sum above 512 in columns 0 to 6, over 128 networks in column 7
abbrev pub is_wide : List Statement → ℕ → Bool
is_wide rows column = pick (ltb column 7) (ltb 512 (sum_of (values_in column rows))) (ltb 128 (length (networks_in rows)))

-- the strings of requests
abbrev pub IsString : List ℕ → Type 0
IsString s = in_range s ≡ true

-- n different states among all strings, the empty one included
abbrev pub States : List (Reading × List ℕ) → ℕ → Type 0
States vs n = Different IsString (state_of vs) n

-- at most 512 of them, or more
abbrev pub Few : List (Reading × List ℕ) → Type 0
Few vs = (n : ℕ) × States vs n × (n ≤ 512)

abbrev pub TooMany : List (Reading × List ℕ) → Type 0
TooMany vs = MoreThan IsString (state_of vs) 512

-- n different footprints among all admitted values of a column
abbrev pub Footprints : List Statement → List Statement → ℕ → ℕ → Type 0
Footprints first second column n = Different (Admitted column) (footprint first second column) n
