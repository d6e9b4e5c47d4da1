-- The rows that strings reach, and what is worked out once for all of them.
use Rattle.std.specs.Prelude.{◌≡◌, List, ℕ}
use Rattle.std.proofs.Math.Seq.{slice}
use Rattle.matching.specs.Machinery.Rows.{row_bit, row_of}
use Rattle.states.specs.Machinery.Rows.{codes_at}
use Rattle.columns.specs.Machinery.LastPositions.{no_positions, last_positions}
use Rattle.columns.specs.Machinery.Plan.{fresh_run, done_run, run_plan, TextPlans}
use Rattle.columns.specs.declared.plan.Plans.{Plans}
use Rattle.columns.specs.declared.prints.Prints.{Prints}

-- some string reaches the row
abbrev pub IsReached : List ℕ → List ℕ → Type 0
IsReached codes row = (s : List ℕ) × (row_of codes s ≡ row)

-- the plans of both tables
abbrev pub own_plan : List ℕ → Plans → List ℕ
own_plan words plans = slice codes_at plans.middle words

abbrev pub other_plan : List ℕ → Plans → List ℕ
other_plan words plans = slice plans.middle plans.end words

-- the last positions of the values of both plans, and the rows that hold by each plan where no position is reached
abbrev pub prints_by : Plans → List ℕ → List ℕ → Prints
prints_by plans own other =
    record {
      plans = plans;
      ends = last_positions (last_positions no_positions own) other;
      own = done_run (run_plan (row_bit no_positions) fresh_run own);
      other = done_run (run_plan (row_bit no_positions) fresh_run other);
    }

abbrev pub prints_of : List ℕ → Plans → Prints
prints_of words plans = prints_by plans (own_plan words plans) (other_plan words plans)

-- worked out for a column of strings whose plans lie in the workspace
pub record Prepared (first second : List ℕ) (column : ℕ) (words : List ℕ) (prints : Prints) : Type 0 where
  pub laid : TextPlans first second column words prints.plans
  pub found : prints ≡ prints_of words prints.plans
