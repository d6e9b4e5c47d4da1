-- One column: what its search says of its states, and its footprints behind those of the columns before it.
use Rattle.std.proofs.Common.{ℕ, ◌≤◌, ◌≡◌, ap, ◌∙◌, subst, List, ◌++◌, Some, None, arith, length, take, drop}
use Rattle.stored.specs.Tables.{Statement}
use Rattle.matching.specs.Machinery.Codes.{codes_of}
use Rattle.states.specs.Machinery.Rows.{prints_at, most_states}
use Rattle.states.specs.Machinery.Search.{FoundAll}
use Rattle.columns.specs.Values.{values_in}
use Rattle.columns.specs.Machinery.Both.{Narrow}
use Rattle.columns.proofs.Widths.{codes-sum}
use Rattle.comparing.specs.Columns.{Few, TooMany}
use Rattle.comparing.specs.Machinery.Survey.{HasStates, FoundStates, Gathered}
use Rattle.comparing.specs.declared.survey.States.{States}
use Rattle.comparing.proofs.survey.AllStates.{states-few, states-many}

module _ (first second : List Statement) (column : ℕ) (before after : List ℕ) (r : States) (f : FoundStates first second column before after r)
    (narrow : Narrow (first ++ second) column) where
  codes-few : length (codes_of (values_in column (first ++ second))) ≤ most_states
  codes-few = omega (arith, codes-sum (values_in column (first ++ second)), narrow)

  -- at most 512 states, and all of them
  pub found-states : (n : ℕ) → r.states ≡ Some n → HasStates first second column after n
  found-states n is =
      record { explored = subst (FoundAll (codes_of (values_in column (first ++ second))) after) is f.answer; narrow = narrow }

  pub found-few : (n : ℕ) → r.states ≡ Some n → Few (values_in column (first ++ second))
  found-few n is = states-few (values_in column (first ++ second)) codes-few after n (found-states n is).explored

  -- or more
  pub found-many : r.states ≡ None → TooMany (values_in column (first ++ second))
  found-many is =
      states-many (values_in column (first ++ second)) codes-few after (subst (FoundAll (codes_of (values_in column (first ++ second))) after) is f.answer)

-- a search before the footprints are laid down does not touch those of other columns
pub gathered-behind : (first second : List Statement) (column : ℕ) (before middle after : List ℕ) (from to : ℕ)
    → drop prints_at middle ≡ drop prints_at before → length middle ≡ length before
    → Gathered first second column middle after from to → Gathered first second column before after from to
gathered-behind first second column before middle after from to kept same g =
    record {
      list = g.list;
      firsts = g.firsts;
      prints = g.prints;
      size = g.size;
      some = g.some;
      few = g.few;
      kept = g.kept ∙ ap (take from) kept;
      same = g.same ∙ same;
    }
