-- No two reasons have one number, so that a number says its reason.
use Rattle.std.proofs.Common.{◌≡◌, ℕ, cond, eqb, refl, sym, ap, ◌∙◌}
use Rattle.refusals.specs.Numbers.{number_of}
use Rattle.refusals.specs.declared.Reason.{Reason}
use Rattle.refusals.specs.declared.Reason.TheVariants as R

-- the reason with a number
abbrev reason_with : ℕ → Reason
reason_with n =
    cond (eqb n 1) R.TooLong (
    cond (eqb n 2) R.Cut (
    cond (eqb n 3) R.Unknown (
    cond (eqb n 4) R.OutOfTurn (
    cond (eqb n 5) R.EmptyList (
    cond (eqb n 6) R.OverLimit (
    cond (eqb n 7) R.OutOfRange (
    cond (eqb n 8) R.Unsound (
    cond (eqb n 9) R.FaultyRequest (
    cond (eqb n 10) R.TooWide (
    cond (eqb n 11) R.Crowded (
    cond (eqb n 12) R.TooManyKinds (
    cond (eqb n 13) R.NoSuchGap (
    cond (eqb n 14) R.NoRoom (
    cond (eqb n 20) R.NotJson (
    cond (eqb n 21) R.WrongName (
    R.WrongForm))))))))))))))))

said : (reason : Reason) → reason_with (number_of reason) ≡ reason
said R.TooLong = refl
said R.Cut = refl
said R.Unknown = refl
said R.OutOfTurn = refl
said R.EmptyList = refl
said R.OverLimit = refl
said R.OutOfRange = refl
said R.Unsound = refl
said R.FaultyRequest = refl
said R.TooWide = refl
said R.Crowded = refl
said R.TooManyKinds = refl
said R.NoSuchGap = refl
said R.NoRoom = refl
said R.NotJson = refl
said R.WrongName = refl
said R.WrongForm = refl

pub number-once : (a b : Reason) → number_of a ≡ number_of b → a ≡ b
number-once a b same = sym (said a) ∙ ap reason_with same ∙ said b
