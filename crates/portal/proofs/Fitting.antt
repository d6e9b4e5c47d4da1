-- Every refusal that an entry point can give fits its code: its number is 1 to 15, its table 0 to 2, its place at most 16,384. So the code
-- gives all three back.
use Prim.Native.Nat.{ℕ, ◌^◌, ◌≤◌, ◌<◌}
use mathlib.Core.Path.{◌≡◌, refl, subst}
use mathlib.Core.List.{List}
use native.Mathlib.Omega.{arith}
use lib.Dec.{ltb}
use borrow.Author.Tests.{ltb-true}
use Rattle.stored.specs.Choice.{pick}
use Rattle.stored.specs.Reading.{reading, ReadAnswer, ReadAnswer as A}
use Rattle.stored.proofs.Promises.{refused-where}
use Rattle.stored.proofs.Choosing.{pick-cases}
use Rattle.judging.specs.Requests.{Value, columns, first_fault}
use Rattle.judging.specs.Meaning.{some_allows, some_denies}
use Rattle.judging.specs.Judging.{rows_of, verdict, judgement, Judgement, Judgement as J}
use Rattle.judging.proofs.Refusing.{table-refused, table-reads}
use Rattle.portal.specs.Codes.{refusal_code, place_in, number_in, table_in}

-- a refusal that fits its code
pub record Fits (number table place : ℕ) : Type 0 where
  pub some : 0 < number
  pub few : number ≤ 15
  pub one_of : table ≤ 2
  pub near : place ≤ 16384

-- what the code of a refusal gives back
pub record GivesBack (number table place r : ℕ) : Type 0 where
  pub high : 2 ^ 32 ≤ r
  pub low : r < 2 ^ 63
  pub number_same : number_in r ≡ number
  pub table_same : table_in r ≡ table
  pub place_same : place_in r ≡ place
  pub some : 0 < number_in r

pub gives_back : (number table place r : ℕ) → Fits number table place → r ≡ refusal_code number table place → GivesBack number table place r
gives_back number table place r fits e =
    record {
      high = omega (arith, fits.some);
      low = omega (arith, fits.few, fits.one_of);
      number_same = omega (arith, fits.few);
      table_same = omega (arith, fits.few);
      place_same = omega (arith, fits.near);
      some = omega (arith, fits.some, fits.few);
    }

-- a refusal of the reader fits
pub reader-fits : (t : List ℕ) (number table place : ℕ) → table ≤ 2 → reading t ≡ A.Refused number place → Fits number table place
reader-fits t number table place low e =
    let (some, few, near) = refused-where t number place e in
    record { some = some; few = omega arith; one_of = low; near = near }

-- so does any refusal at a column
pub column_fits : (number place : ℕ) → 0 < number → number ≤ 15 → place ≤ columns → Fits number 0 place
column_fits number place some few near = record { some = some; few = few; one_of = omega arith; near = omega arith }

-- a judgement that is a refusal fits
abbrev pub JudgementFits : Judgement → Type 0
JudgementFits J.NotMentioned = Unit {0}
JudgementFits J.Allowed = Unit {0}
JudgementFits J.DeniedByRule = Unit {0}
JudgementFits (J.Refused number place) = Fits number 0 place

-- every judgement fits
pub judgement-fits : (table : List ℕ) (request : List Value) → JudgementFits (judgement table request)
judgement-fits table request = by (reading table) refl
  where
    verdict-fits : JudgementFits (verdict request (rows_of table))
    verdict-fits =
        pick-cases JudgementFits (some_denies request (rows_of table)) J.DeniedByRule
        (pick (some_allows request (rows_of table)) J.Allowed J.NotMentioned) (λ e. tt)
        (λ e. pick-cases JudgementFits (some_allows request (rows_of table)) J.Allowed J.NotMentioned (λ f. tt) (λ f. tt))

    by : (answer : ReadAnswer) → reading table ≡ answer → JudgementFits (judgement table request)
    by (A.Refused number place) e =
        subst JudgementFits (table-refused table request number place e) (reader-fits table number 0 place (omega arith) e)
    by (A.Accepted n) e =
        subst JudgementFits (table-reads table request n e)
        (pick-cases JudgementFits (ltb (first_fault 0 request) columns) (J.Refused 9 (first_fault 0 request)) (verdict request (rows_of table))
        (λ low. column_fits 9 (first_fault 0 request) (omega arith) (omega arith) (omega (arith, ltb-true (first_fault 0 request) columns low)))
        (λ high. verdict-fits))
