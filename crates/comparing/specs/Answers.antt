-- The answers of the comparison by the published numbers (RULES 7.3), and how the code's answers are seen so.
use Rattle.std.specs.Prelude.{ℕ, Result, Ok, Err, is_some, unwrap_or}
use Rattle.refusals.specs.Numbers.{number_of}
use Rattle.judging.specs.Requests.{Present}
use Rattle.comparing.specs.declared.answers.Side.{Side}
use Rattle.comparing.specs.declared.answers.Side.TheVariants as T
use Rattle.comparing.specs.declared.answers.Refused.{Refused as Refusal}
use Rattle.comparing.specs.declared.answers.Shape.{Shape as Told}

-- the number of gaps, or the number of the refusal, the table (1, 2, or 0 for the comparison), and the place
pub data Counting : Type 0 where
  Gaps : ℕ → Counting
  Refused : ℕ → ℕ → ℕ → Counting

-- what a shown gap is, beside its bytes: the lengths of the values of columns 0 to 6, which keys are there, and the address
pub record Shape : Type 0 where
  pub principal : ℕ
  pub action : ℕ
  pub resource : ℕ
  pub vpc : ℕ
  pub prefix : ℕ
  pub vpce : ℕ
  pub referer : ℕ
  pub present : Present
  pub address : ℕ

-- a shown gap, or the number of the refusal, the table (1, 2, or 0 for the comparison), and the place
pub data Showing : Type 0 where
  Shown : Shape → Showing
  Refused : ℕ → ℕ → ℕ → Showing

-- the number of the table that a refusal speaks of
abbrev pub table_of : Side → ℕ
table_of T.Comparison = 0
table_of T.First = 1
table_of T.Second = 2

-- the number of gaps that the code answers, or its refusal in numbers
abbrev pub as_counting : Result ℕ Refusal → Counting
as_counting (Ok n) = Counting.Gaps n
as_counting (Err r) = Counting.Refused (number_of r.reason) (table_of r.table) r.place

-- the shape that the code tells: which keys are there, apart from their lengths and the address, which are 0 for those that are not
abbrev pub as_shape : Told → Shape
as_shape told =
    record {
      principal = told.principal;
      action = told.action;
      resource = told.resource;
      vpc = unwrap_or told.vpc 0;
      prefix = unwrap_or told.prefix 0;
      vpce = unwrap_or told.vpce 0;
      referer = unwrap_or told.referer 0;
      present =
          record {
            vpc = is_some told.vpc;
            prefix = is_some told.prefix;
            vpce = is_some told.vpce;
            referer = is_some told.referer;
            address = is_some told.address;
          };
      address = unwrap_or told.address 0;
    }

-- the shape of the gap that the code answers, or its refusal in numbers
abbrev pub as_showing : Result Told Refusal → Showing
as_showing (Ok shape) = Showing.Shown (as_shape shape)
as_showing (Err r) = Showing.Refused (number_of r.reason) (table_of r.table) r.place
