-- The plans of two tables in the workspace: where they were laid down they can be read, there is room for them, and they stay where only
-- footprints are written, with what was worked out by them.
use Rattle.std.proofs.Common.{ℕ, ◌+◌, ◌≤◌, ◌≡◌, refl, sym, ap, ap₂, subst, ◌∙◌, Bool, true, false, List, ◌++◌, arith, length, take, drop, length-append, take_at, drop_at, length-take-le}
use lib.Seq.{sets, sets-eq, length-sets, slice}
use Rattle.stored.specs.Entries.{entries_of}
use Rattle.stored.specs.Machinery.Following.{Accepted}
use Rattle.judging.specs.Judging.{rows_of}
use Rattle.states.specs.Machinery.Rows.{prints_at, codes_at}
use Rattle.states.proofs.Parts.{front_kept, sets-front, sets_behind}
use Rattle.columns.specs.Machinery.Both.{Narrow, FewNetworks}
use Rattle.columns.specs.Values.{values_in, sum_of}
use Rattle.columns.specs.Machinery.Plan.{plan_of, PlansFit, HasPlans, TextPlans, LaysPlans}
use Rattle.columns.specs.Machinery.Prints.{prints_by, prints_of, Prepared}
use Rattle.columns.specs.declared.plan.Plans.{Plans}
use Rattle.columns.specs.declared.prints.Prints.{Prints}
use Rattle.columns.proofs.PlanShort.{plan-short, addresses-short}
use Rattle.columns.proofs.Widths.{sum_both, networks-both}

-- words laid down can be read
sets-there : (run words : List ℕ) (at : ℕ) → at + length run ≤ length words → slice at (at + length run) (sets words at run) ≡ run
sets-there run words at room =
    ap (λ (l : List ℕ). drop at (take (at + length run) l)) (sets-eq run words at room)
    ∙ ap (drop at) (take_at (take at words ++ run) (drop (at + length run) words) (at + length run) size)
    ∙ drop_at (take at words) run at front
  where
    front : length (take at words) ≡ at
    front = length-take-le at words (omega arith)

    size : length (take at words ++ run) ≡ at + length run
    size = omega (arith, length-append (take at words) run, front)

module _ (first second : List ℕ) (one : Accepted (entries_of first)) (two : Accepted (entries_of second)) (few : length (rows_of first) ≤ 32)
    (more : length (rows_of second) ≤ 32) where
  -- both plans lie below the footprints
  pub texts-fit : (column from : ℕ) → Narrow (rows_of first ++ rows_of second) column → PlansFit first second column true from
  texts-fit column from narrow =
      omega (
        arith,
        plan-short column 0 (entries_of first) one,
        plan-short column from (entries_of second) two,
        sum_both column (rows_of first) (rows_of second),
        narrow,
      )

  pub addresses-fit : FewNetworks (rows_of first ++ rows_of second) → PlansFit first second 7 false 0
  addresses-fit narrow =
      omega (
        arith,
        addresses-short 0 (entries_of first) one,
        addresses-short 0 (entries_of second) two,
        networks-both (rows_of first) (rows_of second),
        narrow,
      )

module _ (first second : List ℕ) (column : ℕ) (strings : Bool) (from : ℕ) (fit : PlansFit first second column strings from) where
  -- one laid down behind the other
  pub plans-laid : (words : List ℕ) (middle last : ℕ) → prints_at ≤ length words
      → middle ≡ codes_at + length (plan_of column strings 0 (entries_of first))
      → last ≡ middle + length (plan_of column strings from (entries_of second))
      → LaysPlans first second column strings from words
      (sets (sets words codes_at (plan_of column strings 0 (entries_of first))) middle (plan_of column strings from (entries_of second)))
      (record { middle = middle; end = last })
  plans-laid words middle last room is ends =
      record {
        laid = ap (λ (n : ℕ). sets begun n b) is;
        places = ap₂ {C = Plans} (λ (m n : ℕ). record { middle = m; end = n }) is (ends ∙ ap (λ (n : ℕ). n + length b) is);
        has =
            record {
              own =
                  ap (drop codes_at) (sets-front begun b middle middle (omega arith))
                  ∙ ap (λ (n : ℕ). slice codes_at n begun) is
                  ∙ sets-there a words codes_at (omega (arith, fit));
              other =
                  ap (λ (n : ℕ). slice middle n (sets begun middle b)) ends
                  ∙ sets-there b begun middle (omega (arith, fit, length-sets words codes_at a));
              order = omega arith;
              within = omega (arith, fit);
            };
        front = sets-front begun b middle codes_at (omega arith) ∙ sets-front words a codes_at codes_at (omega arith);
        kept = sets_behind begun b middle prints_at (omega (arith, fit)) ∙ sets_behind words a codes_at prints_at (omega (arith, fit));
        same = length-sets begun middle b ∙ length-sets words codes_at a;
      }
    where
      a : List ℕ
      a = plan_of column strings 0 (entries_of first)

      b : List ℕ
      b = plan_of column strings from (entries_of second)

      begun : List ℕ
      begun = sets words codes_at a

-- footprints are written behind the plans
pub plans-stay : (first second : List ℕ) (column : ℕ) (strings : Bool) (from : ℕ) (words after : List ℕ) (plans : Plans) → take prints_at after ≡ take prints_at words
    → HasPlans first second column strings from words plans → HasPlans first second column strings from after plans
plans-stay first second column strings from words after plans same h =
    let order = h.order in
    let within = h.within in
    record {
      own = ap (drop codes_at) (front_kept after words prints_at plans.middle same (omega arith)) ∙ h.own;
      other = ap (drop plans.middle) (front_kept after words prints_at plans.end same (omega arith)) ∙ h.other;
      order = order;
      within = within;
    }

-- what was worked out by the plans of a column of strings
pub prepared : (first second : List ℕ) (column : ℕ) (words : List ℕ) (plans : Plans) (prints : Prints) → TextPlans first second column words plans
    → prints ≡ prints_of words plans → Prepared first second column words prints
prepared first second column words plans prints has is =
    subst (λ (p : Prints). Prepared first second column words p) (sym is) (record { laid = has; found = refl })

pub prepared-stays : (first second : List ℕ) (column : ℕ) (words after : List ℕ) (prints : Prints) → take prints_at after ≡ take prints_at words
    → Prepared first second column words prints → Prepared first second column after prints
prepared-stays first second column words after prints same h =
    let laid = plans-stay first second column true (sum_of (values_in column (rows_of first))) words after prints.plans same h.laid in
    record {
      laid = laid;
      found = h.found ∙ ap₂ (prints_by prints.plans) (h.laid.own ∙ sym laid.own) (h.laid.other ∙ sym laid.other);
    }
