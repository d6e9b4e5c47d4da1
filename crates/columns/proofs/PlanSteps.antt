-- A plan as a loop over the records lays it down: a record adds its word, if any, and the rest is the plan of what is left behind it.
use Rattle.std.proofs.Common.{ℕ, suc, ◌+◌, ◌-◌, ◌≤◌, ◌<◌, ◌≡◌, refl, ap, ◌∙◌, Bool, true, false, not, ◌&&◌, List, ◌∷◌, ◌++◌, add-one, arith, eqb, ltb, length, get_or, drop, drop-cons}
use Rattle.std.specs.Prelude.{Some, None}
use Rattle.stored.specs.Choice.{pick}
use Rattle.stored.specs.Items.{column_place, column_negated, key_code}
use Rattle.stored.specs.Operators.{row_of}
use Rattle.stored.specs.Entries.{Entry, entry_of, bytes_of}
use Rattle.stored.specs.declared.items.Item.{Item}
use Rattle.stored.specs.declared.items.Item.TheVariants as I
use Rattle.columns.specs.declared.contents.ListAt.{ListAt}
use Rattle.columns.specs.declared.runs.Run.{Run}
use Rattle.columns.specs.declared.words.Word.{Word}
use Rattle.columns.specs.declared.words.Word.TheVariants as W
use Rattle.columns.specs.Machinery.Words.{word_of}
use Rattle.columns.specs.Machinery.Lists.{moved_of, positions_of}
use Rattle.columns.specs.Machinery.Plan.{began_run, opened_run, seen_run, run_word, run_plan, list_word, value_word, network_word, with_word, plan_from, item_word, word_alone}

-- a run over the words left, one after the other
module _ (hits : ℕ → Bool) (r : Run) where
  pub run-next : (plan : List ℕ) (i : ℕ) → i < length plan → run_plan hits r (drop i plan) ≡ run_plan hits (run_word hits r (get_or plan i 0)) (drop (i + 1) plan)
  run-next plan i low = ap (run_plan hits r) (drop-cons plan i 0 low) ∙ rw add-one

  -- what a word does
  abbrev pub run_at : Word → Run
  run_at W.Statement = began_run r
  run_at W.List = opened_run false r
  run_at W.NegatedList = opened_run true r
  run_at (W.Content n) = seen_run (hits n) r

  pub word-does : (n : ℕ) → run_word hits r n ≡ run_at (word_of n)
  unfolding run_word
  word-does n = by (ltb n 4) (eqb n 1) (eqb n 3)
    where
      by : (t s u : Bool)
          → pick t (pick s (began_run r) (opened_run u r)) (seen_run (hits (n - 4)) r)
          ≡ run_at (pick t (pick s W.Statement (pick u W.NegatedList W.List)) (W.Content (n - 4)))
      by true true u = refl
      by true false true = refl
      by true false false = refl
      by false s u = refl

-- a word in front that is there or not
alone-more : (there : Bool) (word : ℕ) (plan : List ℕ) → with_word there word plan ≡ word_alone (pick there (Some word) None) ++ plan
alone-more true word plan = refl
alone-more false word plan = refl

behind-value : (here : Bool) (p n : ℕ) → pick here (p + n) p ≡ p + pick here n 0
behind-value true p n = refl
behind-value false p n = omega arith

module _ (column : ℕ) (strings : Bool) (es : List Entry) where
  on : (here : Bool) (p : ℕ) → plan_from column strings here p es ≡ plan_from column strings here (p + 0) es
  on here p = ap (λ (q : ℕ). plan_from column strings here q es) {x = p} {y = p + 0} (omega arith)

  more : (there here : Bool) (word p : ℕ) → with_word there word (plan_from column strings here p es)
      ≡ word_alone (pick there (Some word) None) ++ plan_from column strings here (p + 0) es
  more there here word p = ap (with_word there word) (on here p) ∙ alone-more there word (plan_from column strings here (p + 0) es)

  -- an entry more
  pub plan-more : (list : ListAt) (p : ℕ) (i : Item) (bytes : List ℕ)
      → plan_from column strings list.here p (entry_of i bytes ∷ es)
      ≡ word_alone (item_word column strings list.here p i (length bytes))
      ++ plan_from column strings (moved_of column list i).here (p + positions_of list i (length bytes)) es
  plan-more list p (I.Start n) bytes = on list.here p
  plan-more list p (I.Statement e) bytes = ap (1 ∷◌) (on false p)
  plan-more list p (I.Column c) bytes = more (eqb (column_place c) column) (eqb (column_place c) column) (list_word (column_negated c)) p
  plan-more list p (I.Condition o k) bytes = more (eqb (3 + key_code k) column) (eqb (3 + key_code k) column) (list_word (row_of o).negated) p
  plan-more list p (I.Network a n) bytes = more (not strings && list.here) list.here (network_word a n) p
  plan-more list p I.Value bytes =
      ap (λ (q : ℕ). with_word (strings && list.here) (value_word (p + length bytes)) (plan_from column strings list.here q es)) (behind-value list.here p (length bytes + 1))
      ∙ alone-more (strings && list.here) (value_word (p + length bytes)) (plan_from column strings list.here (p + pick list.here (length bytes + 1) 0) es)
  plan-more list p I.End bytes = on list.here p

-- an entry takes up no more positions than its record has bytes
pub positions-few : (list : ListAt) (i : Item) (bytes : List ℕ) → positions_of list i (length bytes) ≤ suc (length (bytes_of (entry_of i bytes)))
positions-few list (I.Start n) bytes = omega arith
positions-few list (I.Statement e) bytes = omega arith
positions-few list (I.Column c) bytes = omega arith
positions-few list (I.Condition o k) bytes = omega arith
positions-few list (I.Network a n) bytes = omega arith
positions-few list I.Value bytes = by list.here
  where
    by : (here : Bool) → pick here (length bytes + 1) 0 ≤ suc (length bytes)
    by true = omega arith
    by false = omega arith
positions-few list I.End bytes = omega arith
