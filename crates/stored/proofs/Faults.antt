-- A reason has a number, and none has 0: what is found wrong is told from nothing by its number.
use Rattle.std.proofs.Common.{◌≡◌, false, eqb, refl}
use Rattle.refusals.specs.Numbers.{number_of}
use Rattle.refusals.specs.declared.Reason.{Reason}
use Rattle.refusals.specs.declared.Reason.TheVariants as R

pub numbered : (reason : Reason) → eqb (number_of reason) 0 ≡ false
numbered R.TooLong = refl
numbered R.Cut = refl
numbered R.Unknown = refl
numbered R.OutOfTurn = refl
numbered R.EmptyList = refl
numbered R.OverLimit = refl
numbered R.OutOfRange = refl
numbered R.Unsound = refl
numbered R.FaultyRequest = refl
numbered R.TooWide = refl
numbered R.Crowded = refl
numbered R.TooManyKinds = refl
numbered R.NoSuchGap = refl
numbered R.NoRoom = refl
numbered R.NotJson = refl
numbered R.WrongName = refl
numbered R.WrongForm = refl
