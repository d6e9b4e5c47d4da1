-- A table whose conditions stand by their operators is what the text that prints its statements makes.
use Rattle.std.proofs.Common.{ℕ, ◌<◌, ◌≡◌, refl, sym, ◌∙◌, ap, subst, List, [], ◌∷◌, inl, inr, length}
use Rattle.json_text.specs.Trees.{tree_of}
use Rattle.stored.specs.Choice.{In}
use Rattle.stored.specs.Operators.{row_of}
use Rattle.stored.specs.Items.{key_sort}
use Rattle.stored.specs.Machine.{fresh_state}
use Rattle.stored.specs.Reading.{reading}
use Rattle.stored.specs.Entries.{encode, Bytes, AllFit}
use Rattle.stored.specs.Machinery.Following.{Follows}
use Rattle.stored.specs.Tables.{Condition, Statement, rows_of}
use Rattle.stored.specs.Form.{statements_for, entries_for, WellFormed, SoundStatement}
use Rattle.stored.specs.declared.items.Sort.{Sort}
use Rattle.stored.specs.declared.items.Sort.TheVariants as S
use Rattle.stored.specs.Reading.{ReadAnswer as A}
use Rattle.stored.proofs.Promises.{three-elements, sound-values, whole-rows}
use Rattle.stored.proofs.Accepting.{accepted, read_through}
use Rattle.stored.proofs.EntriesFor.{stands-for}
use Rattle.records.specs.Wishes.{wishes, entries}
use Rattle.records.proofs.Wished.{wished}
use Rattle.printed.specs.Grouped.{Grouped}
use Rattle.printed.specs.Machinery.Makes.{Makes}
use Rattle.printed.specs.Machinery.Plans.{printed}
use Rattle.printed.proofs.Grouping.{groups-once}
use Rattle.printed.proofs.ValuesSaid.{holds, Holds}
use Rattle.printed.proofs.ConditionsSaid.{groups-hold}
use Rattle.printed.proofs.RowsSaid.{three-of, Ready}
use Rattle.printed.proofs.DocumentsSaid.{AllReady, runs, printed-text, printed-fine, printed-says, printed-made}
use Rattle.printed.proofs.Addresses.{table_fits, SmallRow, rows-small}

-- a statement of a table can be printed
ready : (s : Statement) → WellFormed s → SoundStatement s → SmallRow s → Grouped s → Ready s
ready s w v m g =
    record {
      elements_are =
          three-of s.elements w.in_order
          (λ e i. (holds S.Text e.values (v.elements e i).holds (m.elements e i), w.elements_filled e i));
      once = groups-once s.conditions g.together g.none_twice;
      hold = groups-hold s.conditions each;
    }
  where
    each : (c : Condition) → In c s.conditions → Holds (row_of c.operator).sort c.values × (0 < length c.values)
    each c i = (
      subst (λ (x : Sort). Holds x c.values) (sym (v.conditions c i).one_sort)
          (holds (key_sort c.key) c.values (v.conditions c i).holds (m.conditions c i)),
      w.conditions_filled c i,
    )

all-ready : (rows : List Statement) → ((s : Statement) → In s rows → Ready s) → AllReady rows
all-ready [] f = tt
all-ready (s ∷ rows) f = (f s (inl refl), all-ready rows (λ x i. f x (inr i)))

module _ (table : List ℕ) (n : ℕ) (b : Bytes table) (e : reading table ≡ A.Accepted n) (g : (s : Statement) → In s (rows_of table) → Grouped s) where
  fits : AllFit (statements_for (rows_of table))
  fits = (subst AllFit (stands-for table n e) (table_fits table b)).1

  can-print : AllReady (rows_of table)
  can-print =
      all-ready (rows_of table)
      (λ s i. ready s ((three-elements table n e).2 s i) (sound-values table n e s i) (rows-small (rows_of table) fits s i) (g s i))

  follows : Follows fresh_state (entries (wishes (tree_of (printed-text (rows_of table) can-print).value_first)))
  follows =
      subst (Follows fresh_state)
      (sym (wished (tree_of (printed-text (rows_of table) can-print).value_first)
      ∙ ap entries_for (printed-says (rows_of table) can-print) ∙ sym (stands-for table n e)))
      (accepted table n e)

  pub makes : Makes (printed (rows_of table)) table
  makes =
      record {
        text = printed-text (rows_of table) can-print;
        sound_members = printed-fine (rows_of table) can-print;
        sound_records =
            runs (wishes (tree_of (printed-text (rows_of table) can-print).value_first)) fresh_state (printed-made (rows_of table) can-print) follows;
        is_table = ap (λ (rows : List Statement). encode (entries_for rows)) (printed-says (rows_of table) can-print) ∙ whole-rows table n b e;
        short = (read_through table n e).0;
      }
