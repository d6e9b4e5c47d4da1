-- Where refusal 10 is given for no column, every column can be surveyed.
use Rattle.std.proofs.Common.{ℕ, ◌≤◌, ◌<◌, sym, ap, ◌∙◌, Bool, List, arith, ltb, length, lt-ltb, ltb-false}
use Rattle.stored.specs.Choice.{pick}
use Rattle.stored.specs.Tables.{Statement}
use Rattle.matching.specs.Machinery.Codes.{codes_of}
use Rattle.judging.specs.Requests.{columns}
use Rattle.states.specs.Machinery.Rows.{most_states}
use Rattle.columns.specs.Values.{values_in, sum_of, networks_in}
use Rattle.columns.proofs.Widths.{codes-sum}
use Rattle.comparing.specs.Compared.{first_wide}
use Rattle.comparing.specs.Outcomes.{NoneWide}
use Rattle.comparing.specs.Machinery.Survey.{Surveyable}
use Rattle.comparing.proofs.compare.Lowest.{none-wide}

-- then the sum of a column of strings is at most 512
pub narrow-sum : (rows : List Statement) → NoneWide rows → (column : ℕ) → column < 7 → sum_of (values_in column rows) ≤ 512
narrow-sum rows none column low =
    ltb-false 512 (sum_of (values_in column rows))
    (sym (ap (λ (t : Bool). pick t (ltb 512 (sum_of (values_in column rows))) (ltb 128 (length (networks_in rows)))) (lt-ltb column 7 low))
    ∙ none column (omega arith))

-- and so is the number of its codes
pub narrow-codes : (rows : List Statement) → NoneWide rows → (column : ℕ) → column < 7 → length (codes_of (values_in column rows)) ≤ most_states
narrow-codes rows none column low = omega (arith, narrow-sum rows none column low, codes-sum (values_in column rows))

pub not_wide : (rows : List Statement) (words : List ℕ) → columns ≤ first_wide rows → 8192 ≤ length words → Surveyable rows words
not_wide rows words none room =
    record {
      narrow = narrow-sum rows (none-wide rows none);
      networks = ltb-false 128 (length (networks_in rows)) (none-wide rows none 7 (omega arith));
      room = room;
    }
