-- The reading of a network's text, one byte at a time.
use Rattle.std.specs.Prelude.{ℕ, ◌+◌, ◌*◌, ◌-◌, ◌<◌, List, Option, Some, None, eqb, leb}
use Rattle.json_text.specs.Choice.{pick}
use Rattle.json_text.specs.Bytes.{is_digit}
use Rattle.records.specs.Networks as N
use Rattle.records.specs.Networks.{length_of, numbers_of}
use Rattle.policy.specs.declared.networks.Network.{Network}
use Rattle.policy.specs.declared.networks.Seen.{Seen}
use Rattle.policy.specs.declared.networks.Part.{Part}
use Rattle.policy.specs.declared.networks.Part.TheVariants as P

abbrev pub as_digit : ℕ → Option ℕ
as_digit b = pick (is_digit b) (Some (b - 0x30)) None

abbrev pub longer_of : ℕ → ℕ → Option ℕ → Option ℕ
longer_of most d None = pick (leb d most) (Some d) None
longer_of most d (Some n) = pick (eqb n 0) None (pick (leb (n * 10 + d) most) (Some (n * 10 + d)) None)

abbrev pub seen : Part → Option ℕ → Option Seen
seen p n = Some (record { part = p; number = n })

abbrev pub digit_step : Part → Option ℕ → Option Seen
digit_step p (Some n) = seen p (Some n)
digit_step p None = None

abbrev pub dot_step : ℕ → ℕ → Option ℕ → Option Seen
dot_step k a None = None
dot_step k a (Some n) = pick (eqb k 0) None (seen (P.Dotted (k - 1) (a * 256 + n)) None)

abbrev pub slash_step : ℕ → ℕ → Option ℕ → Option Seen
slash_step k a None = None
slash_step k a (Some n) = pick (eqb k 0) (seen (P.Length (a * 256 + n)) None) None

-- a digit of a number up to a greatest value, or else
abbrev pub digit_or : Part → ℕ → Option ℕ → Option Seen → Option ℕ → Option Seen
digit_or p most n else (Some d) = digit_step p (longer_of most d n)
digit_or p most n else None = else

abbrev pub dotted_step : ℕ → ℕ → Option ℕ → ℕ → Option Seen
dotted_step k a n b =
    digit_or (P.Dotted k a) 255 n (pick (eqb b 0x2E) (dot_step k a n) (pick (eqb b 0x2F) (slash_step k a n) None)) (as_digit b)

abbrev pub length_step : ℕ → Option ℕ → ℕ → Option Seen
length_step a n b = digit_or (P.Length a) 32 n None (as_digit b)

abbrev pub part_step : Part → Option ℕ → ℕ → Option Seen
part_step (P.Dotted k a) n b = dotted_step k a n b
part_step (P.Length a) n b = length_step a n b

abbrev pub step_of : Seen → ℕ → Option Seen
step_of s b = part_step s.part s.number b

abbrev pub network : ℕ → ℕ → Option Network
network a n = Some (record { address = a; prefix = n })

abbrev pub part_end : Part → Option ℕ → Option Network
part_end (P.Dotted k a) None = None
part_end (P.Dotted k a) (Some n) = pick (eqb k 0) (network (a * 256 + n) 32) None
part_end (P.Length a) None = None
part_end (P.Length a) (Some n) = network a n

abbrev pub end_of : Seen → Option Network
end_of s = part_end s.part s.number

abbrev pub read_of : Option Network → N.Read
read_of (Some n) = N.Read.network n.address n.prefix
read_of None = N.Read.none

-- there is room for one byte more in the address
abbrev pub RoomLeft : Part → Type 0
RoomLeft (P.Dotted k a) = a < 0x1000000
RoomLeft (P.Length a) = Unit {0}

abbrev pub as_number : Option ℕ → N.Number
as_number None = N.Number.blank
as_number (Some n) = N.Number.value n

-- what the bytes left say, and what they say after a step
abbrev pub read_by : Part → Option ℕ → List ℕ → N.Read
read_by (P.Dotted k a) n bs = numbers_of bs k a (as_number n)
read_by (P.Length a) n bs = length_of a bs (as_number n)

abbrev pub read_after : List ℕ → Option Seen → N.Read
read_after bs (Some s) = read_by s.part s.number bs
read_after bs None = N.Read.none
