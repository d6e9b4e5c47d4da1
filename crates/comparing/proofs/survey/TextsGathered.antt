-- The footprints of a column of strings in the workspace are those of its first values, by which of three ways they came there: no value at
-- all, the rows but the empty string's, or absence and then all rows.
use Rattle.std.proofs.Common.{ℕ, ◌+◌, ◌-◌, ◌≤◌, ◌<◌, ◌≡◌, refl, sym, ap, ap₂, ◌∙◌, List, [], ◌∷◌, ◌++◌, map, arith, length, take}
use Rattle.std.proofs.Math.ListN.{length-map}
use Rattle.stored.specs.Tables.{Statement}
use Rattle.matching.specs.declared.reading.Reading.{Reading}
use Rattle.matching.specs.Machinery.Codes.{codes_of}
use Rattle.judging.specs.Requests.{absent, text}
use Rattle.states.specs.Machinery.Rows.{prints_at, most_states, codes_at}
use Rattle.states.proofs.Parts.{part-kept, front_kept}
use Rattle.columns.specs.Values.{values_in, sum_of}
use Rattle.columns.proofs.Widths.{codes-sum}
use Rattle.comparing.specs.Machinery.Product.{print_of}
use Rattle.comparing.specs.Machinery.Adding.{text_at, adding_rows}
use Rattle.comparing.specs.Machinery.Survey.{HasRoom, HasStates, prints_between, print_at, add_print, Added, RowsAdded, Gathered}
use Rattle.comparing.proofs.survey.AddingPrints.{prints-none, prints-length}
use Rattle.comparing.proofs.survey.StatesKept.{states-kept}
use Rattle.comparing.proofs.survey.NoValues.{no-values, texts-alike, firsts-none}
use Rattle.comparing.proofs.survey.Gathering.{alike-printed}
use Rattle.comparing.proofs.survey.Texts.{TextsFound, gather-optional, gather-needed}

some-values : (vs : List (Reading × List ℕ)) → 0 < sum_of vs → 0 < length vs
some-values [] h = absurd (omega arith)
some-values (v ∷ vs) h = omega arith

module _ (first second : List Statement) (column : ℕ) where
  abbrev print : List ℕ → ℕ → ℕ
  print words = print_at first second column words

  -- what was found in the search stands in the workspace
  gathered : (before words after : List ℕ) (n from to : ℕ) (found : List ℕ) → TextsFound first second column words (print words) n found
      → n ≤ most_states → prints_between after from to ≡ map (print words) found → from ≤ to → prints_at + to ≤ length after
      → take (prints_at + from) after ≡ take (prints_at + from) before → length after ≡ length before
      → Gathered first second column before after from to
  gathered before words after n from to found t few is low room kept same =
      record {
        list = map (text_at words) found;
        firsts = t.firsts;
        prints = is ∙ t.prints;
        size =
            omega (arith, sym (prints-length after from to low room) ∙ ap length is ∙ length-map found (print words), length-map found (text_at words));
        some = omega (arith, t.some, length-map found (text_at words));
        few = omega (arith, t.few, length-map found (text_at words));
        kept = part-kept after before (prints_at + from) prints_at from kept (omega arith);
        same = same;
      }

  module _ (words : List ℕ) (states from : ℕ) (h : HasStates first second column words states) (r : HasRoom words from) where
    codes-few : length (codes_of (values_in column (first ++ second))) ≤ most_states
    codes-few = omega (arith, codes-sum (values_in column (first ++ second)), h.narrow)

    -- neither table has a value: any string stands for all
    pub gathered_none : (after : List ℕ) (p to : ℕ) (s : List ℕ) → column < 3 → sum_of (values_in column (first ++ second)) ≡ 0
        → p ≡ print_of first second column (text s) → Added words after from from p to → Gathered first second column words after from to
    gathered_none after p to s low zero is added =
        record {
          list = text (0x21 ∷ []) ∷ [];
          firsts = firsts-none first second column none low;
          prints = there;
          size =
              let up = added.low in
              let high = added.high in
              omega (arith, sym (prints-length after from to added.low (omega (arith, added.same, r.low, r.room))) ∙ ap length there);
          some = omega arith;
          few = omega arith;
          kept = part-kept after words (prints_at + from) prints_at from added.kept (omega arith);
          same = added.same;
        }
      where
        none : values_in column (first ++ second) ≡ []
        none = no-values (values_in column (first ++ second)) zero

        there : prints_between after from to ≡ map (print_of first second column) (text (0x21 ∷ []) ∷ [])
        there =
            added.prints
            ∙ ap₂ add_print (prints-none words from) (is ∙ alike-printed first second column (text s) (text (0x21 ∷ [])) (texts-alike first second column none s (0x21 ∷ [])))

    -- the rows but that of the empty string
    pub gathered-needed : (after : List ℕ) (to : ℕ) → column < 3 → 0 < sum_of (values_in column (first ++ second))
        → RowsAdded first second column words after from from 1 (states - 1) to → Gathered first second column words after from to
    gathered-needed after to low some added =
        let few = h.explored.few in
        let high = added.high in
        gathered words words after states from to (adding_rows (print words) [] 1 (states - 1))
        (gather-needed first second column codes-few words states h.explored (print words) (λ i l. refl) low
        (some-values (values_in column (first ++ second)) some))
        few
        (added.prints [] (prints-none words from))
        added.low (omega (arith, added.same, r.low, r.room)) added.kept added.same

    module _ (middle : List ℕ) (p start : ℕ) (is : p ≡ print_of first second column absent) (begun : Added words middle from from p start) where
      -- the search is not touched by the footprint of absence
      pub states-stay : HasStates first second column middle states
      states-stay = states-kept first second column words middle states (front_kept middle words (prints_at + from) codes_at begun.kept (omega arith)) h

      -- absence, then all rows
      pub gathered-optional : (after : List ℕ) (to : ℕ) → 3 ≤ column → column < 7
          → RowsAdded first second column middle after from start 0 (states - 0) to → Gathered first second column words after from to
      gathered-optional after to low high added =
          let few = h.explored.few in
          let top = added.high in
          let up = begun.low in
          let over = begun.high in
          gathered words middle after states from to (adding_rows (print middle) (most_states ∷ []) 0 states)
          (gather-optional first second column codes-few middle states states-stay.explored (print middle) (λ i l. refl) low high refl)
          few
          (added.prints (most_states ∷ []) (begun.prints ∙ ap₂ add_print (prints-none words from) is)
          ∙ ap (λ (n : ℕ). map (print middle) (adding_rows (print middle) (most_states ∷ []) 0 n)) {x = states - 0} {y = states} (omega arith))
          (omega (arith, added.low)) (omega (arith, added.same, begun.same, r.low, r.room))
          (front_kept after middle (prints_at + start) (prints_at + from) added.kept (omega arith) ∙ begun.kept)
          (added.same ∙ begun.same)
