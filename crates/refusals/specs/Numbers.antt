-- The numbers of refusals (RULES 7).
use Rattle.std.specs.Prelude.{ℕ}
use Rattle.refusals.specs.declared.Reason.{Reason}
use Rattle.refusals.specs.declared.Reason.TheVariants as R

abbrev pub number_of : Reason → ℕ
number_of R.TooLong = 1
number_of R.Cut = 2
number_of R.Unknown = 3
number_of R.OutOfTurn = 4
number_of R.EmptyList = 5
number_of R.OverLimit = 6
number_of R.OutOfRange = 7
number_of R.Unsound = 8
number_of R.FaultyRequest = 9
number_of R.TooWide = 10
number_of R.Crowded = 11
number_of R.TooManyKinds = 12
number_of R.NoSuchGap = 13
number_of R.NoRoom = 14
number_of R.NotJson = 20
number_of R.WrongName = 21
number_of R.WrongForm = 22
