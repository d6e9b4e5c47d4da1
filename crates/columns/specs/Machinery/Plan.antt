-- The plan of a column: the few records of a table that decide which of its rows hold, as words in their order; and the run over a plan with
-- a state, or with an address, which gathers these rows.
use Rattle.std.specs.Prelude.{ℕ, ◌+◌, ◌-◌, ◌*◌, ◌/◌, ◌%◌, ◌^◌, ◌≤◌, min, ◌≡◌, Bool, true, false, not, ◌&&◌, List, [], ◌∷◌, Option, Some, None, eqb, ltb, length, take, drop}
use Rattle.std.specs.Int.Bits.{bit_or}
use Rattle.std.proofs.lemmas.List.Edits.{sets}
use Rattle.std.proofs.Math.Seq.{slice}
use Rattle.stored.specs.Choice.{pick}
use Rattle.stored.specs.Items.{column_place, column_negated, key_code}
use Rattle.stored.specs.Operators.{row_of}
use Rattle.stored.specs.Entries.{Entry, entries_of}
use Rattle.stored.specs.declared.items.Item.{Item}
use Rattle.stored.specs.declared.items.Item.TheVariants as I
use Rattle.judging.specs.Judging.{rows_of}
use Rattle.judging.specs.Meaning.{sense}
use Rattle.states.specs.Machinery.Rows.{prints_at, codes_at}
use Rattle.columns.specs.Values.{values_in, sum_of}
use Rattle.columns.specs.Machinery.Edges.{above}
use Rattle.columns.specs.declared.plan.Plans.{Plans}
use Rattle.columns.specs.declared.runs.Run.{Run}

-- The words of a plan: a statement begins, a list of the column opens, a negated one does; from 4 on, in a column of strings a value by its
-- last position, in column 7 a network by its address and the number of bits behind its prefix.
abbrev pub statement_word : ℕ
statement_word = 1

abbrev pub list_word : Bool → ℕ
list_word negated = pick negated 3 2

abbrev pub value_word : ℕ → ℕ
value_word p = 4 + p

abbrev pub network_word : ℕ → ℕ → ℕ
network_word a n = 4 + (a * 64 + (32 - n))

-- a word in front, or none
abbrev pub with_word : Bool → ℕ → List ℕ → List ℕ
with_word there word plan = pick there (word ∷ plan) plan

-- The plan of entries. `strings`: the column is one of strings, not column 7; `here`: the list at hand is of the column; p: the position in
-- front of the next value of the column.
abbrev pub plan_from : ℕ → Bool → Bool → ℕ → List Entry → List ℕ
plan_from column strings here p [] = []
plan_from column strings here p (Entry.start n ∷ es) = plan_from column strings here p es
plan_from column strings here p (Entry.statement e ∷ es) = statement_word ∷ plan_from column strings false p es
plan_from column strings here p (Entry.column c ∷ es) =
    with_word (eqb (column_place c) column) (list_word (column_negated c)) (plan_from column strings (eqb (column_place c) column) p es)
plan_from column strings here p (Entry.condition o k ∷ es) =
    with_word (eqb (3 + key_code k) column) (list_word (row_of o).negated) (plan_from column strings (eqb (3 + key_code k) column) p es)
plan_from column strings here p (Entry.network a n ∷ es) =
    with_word (not strings && here) (network_word a n) (plan_from column strings here p es)
plan_from column strings here p (Entry.value bs ∷ es) =
    with_word (strings && here) (value_word (p + length bs)) (plan_from column strings here (pick here (p + (length bs + 1)) p) es)
plan_from column strings here p (Entry.end ∷ es) = plan_from column strings here p es

-- the plan of a table, its values' positions beginning at a place
abbrev pub plan_of : ℕ → Bool → ℕ → List Entry → List ℕ
plan_of column strings from es = plan_from column strings false from es

-- the word that an item with so many bytes beside it adds to the plan, if any
abbrev pub item_word : ℕ → Bool → Bool → ℕ → Item → ℕ → Option ℕ
item_word column strings here p (I.Start n) size = None
item_word column strings here p (I.Statement e) size = Some statement_word
item_word column strings here p (I.Column c) size = pick (eqb (column_place c) column) (Some (list_word (column_negated c))) None
item_word column strings here p (I.Condition o k) size = pick (eqb (3 + key_code k) column) (Some (list_word (row_of o).negated)) None
item_word column strings here p (I.Network a n) size = pick (not strings && here) (Some (network_word a n)) None
item_word column strings here p I.Value size = pick (strings && here) (Some (value_word (p + size))) None
item_word column strings here p I.End size = None

-- such a word as a plan
abbrev pub word_alone : Option ℕ → List ℕ
word_alone None = []
word_alone (Some word) = word ∷ []

-- before the first word
abbrev pub fresh_run : Run
fresh_run = record { bit = 0; next = 1; set = 0; holds = false; negated = false; some = false }

-- the row at hand holds, its last list closed
abbrev pub closes_run : Run → Bool
closes_run r = r.holds && sense r.negated r.some

-- the rows gathered, the row at hand closed
abbrev pub done_run : Run → ℕ
done_run r = pick (closes_run r) (bit_or r.set r.bit) r.set

-- a statement begins: no list is open, which is as good as a negated list with no value
abbrev pub began_run : Run → Run
began_run r =
    record { bit = r.next; next = r.next * 2 % 2 ^ 64; set = done_run r; holds = true; negated = true; some = false }

-- a list opens
abbrev pub opened_run : Bool → Run → Run
opened_run negated r =
    record { bit = r.bit; next = r.next; set = r.set; holds = closes_run r; negated = negated; some = false }

-- a value, which matches or not, if that can still matter
abbrev pub seen_run : Bool → Run → Run
seen_run hit r =
    pick (r.holds && not r.some)
    (record { bit = r.bit; next = r.next; set = r.set; holds = r.holds; negated = r.negated; some = hit })
    r

-- one word, given which values or networks match
unfoldable pub run_word : (ℕ → Bool) → Run → ℕ → Run
run_word hits r word =
    pick (ltb word 4)
    (pick (eqb word statement_word) (began_run r) (opened_run (eqb word 3) r))
    (seen_run (hits (word - 4)) r)

-- a whole plan
abbrev pub run_plan : (ℕ → Bool) → Run → List ℕ → Run
run_plan hits r [] = r
run_plan hits r (word ∷ plan) = run_plan hits (run_word hits r word) plan

-- the networks that an address is in
abbrev pub in_network : ℕ → ℕ → Bool
in_network x q = eqb (q / 64 / 2 ^ (q % 64)) (x / 2 ^ (q % 64))

-- the lowest address of a network, and the least of its ends above an address
abbrev pub low_of : ℕ → ℕ
low_of q = q / 64 / 2 ^ (q % 64) * 2 ^ (q % 64)

abbrev pub edge_of : ℕ → ℕ → ℕ
edge_of q x = min (above (low_of q) x) (above (low_of q + 2 ^ (q % 64)) x)

-- the least end above an address of the networks of a plan, 2 ^ 32 if there is none
abbrev pub edge_in : List ℕ → ℕ → ℕ
edge_in [] x = 2 ^ 32
edge_in (word ∷ plan) x = min (pick (ltb word 4) (2 ^ 32) (edge_of (word - 4) x)) (edge_in plan x)

-- there is room for the plans of two tables in the place of the codes, up to the footprints
abbrev pub PlansFit : List ℕ → List ℕ → ℕ → Bool → ℕ → Type 0
PlansFit first second column strings from =
    (codes_at + length (plan_of column strings 0 (entries_of first))) + length (plan_of column strings from (entries_of second)) ≤ prints_at

-- the workspace with both laid down there, the positions of the second table's values beginning at a place, and where they lie then
abbrev pub with_plans : List ℕ → List ℕ → ℕ → Bool → ℕ → List ℕ → List ℕ
with_plans first second column strings from words =
    sets (sets words codes_at (plan_of column strings 0 (entries_of first)))
    (codes_at + length (plan_of column strings 0 (entries_of first)))
    (plan_of column strings from (entries_of second))

abbrev pub plans_at : List ℕ → List ℕ → ℕ → Bool → ℕ → Plans
plans_at first second column strings from =
    record {
      middle = codes_at + length (plan_of column strings 0 (entries_of first));
      end = (codes_at + length (plan_of column strings 0 (entries_of first))) + length (plan_of column strings from (entries_of second));
    }

-- they lie there, one behind the other, the positions of the second table's values beginning at a place
pub record HasPlans (first second : List ℕ) (column : ℕ) (strings : Bool) (from : ℕ) (words : List ℕ) (plans : Plans) : Type 0 where
  pub own : slice codes_at plans.middle words ≡ plan_of column strings 0 (entries_of first)
  pub other : slice plans.middle plans.end words ≡ plan_of column strings from (entries_of second)
  pub order : plans.middle ≤ plans.end
  pub within : plans.end ≤ prints_at

-- of a column of strings, where the second table's positions begin behind the first's; and of column 7
abbrev pub TextPlans : List ℕ → List ℕ → ℕ → List ℕ → Plans → Type 0
TextPlans first second column words plans = HasPlans first second column true (sum_of (values_in column (rows_of first))) words plans

abbrev pub AddressPlans : List ℕ → List ℕ → List ℕ → Plans → Type 0
AddressPlans first second words plans = HasPlans first second 7 false 0 words plans

-- they were laid down; the rows and keys of the search stay, and the footprints
pub record LaysPlans (first second : List ℕ) (column : ℕ) (strings : Bool) (from : ℕ) (before after : List ℕ) (plans : Plans) : Type 0 where
  pub laid : after ≡ with_plans first second column strings from before
  pub places : plans ≡ plans_at first second column strings from
  pub has : HasPlans first second column strings from after plans
  pub front : take codes_at after ≡ take codes_at before
  pub kept : drop prints_at after ≡ drop prints_at before
  pub same : length after ≡ length before
