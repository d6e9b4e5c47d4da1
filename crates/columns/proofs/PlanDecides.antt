-- The run over the plan of a column gathers the same rows as the walk over all records, with a state or with an address: a list of another
-- column only closes the list before it, and its values do not matter.
use Rattle.std.proofs.Common.{ℕ, ◌+◌, ◌-◌, ◌*◌, ◌/◌, ◌^◌, ◌≡◌, refl, sym, ap, ap₂, ◌∙◌, Bool, true, false, not, ◌&&◌, ◌||◌, List, [], ◌∷◌, arith, bit_or, eqb, length, le-ltb}
use mathlib.Core.Bool.{and-true, and-false, or-false}
use Rattle.stored.specs.Choice.{pick}
use Rattle.stored.specs.Items.{column_place, column_negated, key_code}
use Rattle.stored.specs.Operators.{row_of}
use Rattle.stored.specs.Entries.{Entry}
use Rattle.matching.specs.declared.reading.Reading.{Reading}
use Rattle.matching.specs.Network.{agree}
use Rattle.matching.specs.Machinery.Rows.{row_bit}
use Rattle.judging.specs.declared.walk.Walk.{Walk}
use Rattle.judging.specs.Requests.{number}
use Rattle.judging.specs.Meaning.{sense, element_reading, operator_reading}
use Rattle.judging.specs.Machinery.Walk.{fresh_walk, closed_of, done_of, began_of, opened_of, matters_of, seen_of, condition_of, step_of, run_of}
use Rattle.columns.specs.declared.runs.Run.{Run}
use Rattle.columns.specs.Machinery.StateWalk.{state_step, run_state}
use Rattle.columns.specs.Machinery.Plan.{statement_word, list_word, with_word, plan_from, plan_of, in_network, fresh_run, closes_run, done_run, began_run, opened_run, seen_run, run_word, run_plan}
use Rattle.columns.proofs.PlanNetworks.{network-address, network-bits}

-- a run as a walk within a list of the column
abbrev listed : Run → Reading → Walk
listed r reading =
    record {
      bit = r.bit;
      next = r.next;
      set = r.set;
      holds = r.holds;
      here = true;
      negated = r.negated;
      some = r.some;
      reading = reading;
    }

-- outside such a list, the walk has closed what the run will close
record Outside (w : Walk) (r : Run) : Type 0 where
  bit : w.bit ≡ r.bit
  next : w.next ≡ r.next
  set : w.set ≡ r.set
  here : w.here ≡ false
  holds : w.holds ≡ closes_run r

abbrev Same : Bool → Walk → Run → Type 0
Same true w r = (reading : Reading) × (w ≡ listed r reading)
Same false w r = Outside w r

-- both would close the row alike
closed_same : (here : Bool) (w : Walk) (r : Run) → Same here w r → closed_of w ≡ closes_run r
closed_same true w r (reading, e) = ap closed_of e
closed_same false w r o =
    ap₂ (λ (h t : Bool). h && (not t || sense w.negated w.some)) o.holds o.here ∙ and-true (closes_run r)

bits-same : (here : Bool) (w : Walk) (r : Run) → Same here w r → (w.bit ≡ r.bit) × (w.next ≡ r.next) × (w.set ≡ r.set)
bits-same true w r (reading, e) = (ap (λ (x : Walk). x.bit) e, ap (λ (x : Walk). x.next) e, ap (λ (x : Walk). x.set) e)
bits-same false w r o = (o.bit, o.next, o.set)

done-same : (here : Bool) (w : Walk) (r : Run) → Same here w r → done_of w ≡ done_run r
done-same here w r s =
    let b = bits-same here w r s in
    ap (λ (t : Bool). pick t (bit_or w.set w.bit) w.set) (closed_same here w r s)
    ∙ ap₂ (λ (m n : ℕ). pick (closes_run r) (bit_or m n) m) b.2 b.0

-- a statement begins
began-same : (here : Bool) (w : Walk) (r : Run) → Same here w r → Same false (began_of true w) (began_run r)
began-same here w r s = record { bit = (bits-same here w r s).1; next = rw (bits-same here w r s).1; set = done-same here w r s; here = refl; holds = refl }

-- a list opens, of the column or of another one
opened-here : (here negated : Bool) (reading : Reading) (w : Walk) (r : Run) → Same here w r
    → opened_of true true negated reading w ≡ listed (opened_run negated r) reading
opened-here here negated reading w r s =
    let b = bits-same here w r s in
    let closed = and-true (closed_of w) ∙ closed_same here w r s in
    cc

opened-elsewhere : (here negated : Bool) (reading : Reading) (w : Walk) (r : Run) → Same here w r → Outside (opened_of false true negated reading w) r
opened-elsewhere here negated reading w r s =
    let b = bits-same here w r s in
    record { bit = b.0; next = b.1; set = b.2; here = refl; holds = and-true (closed_of w) ∙ closed_same here w r s }

-- a value of the column is seen
seen_same : (hit : Bool) (r : Run) (reading : Reading)
    → pick (matters_of (listed r reading)) (seen_of hit (listed r reading)) (listed r reading) ≡ listed (seen_run hit r) reading
seen_same hit r reading = by r.holds r.some
  where
    run : Bool → Bool → Run
    run holds some = record { bit = r.bit; next = r.next; set = r.set; holds = holds; negated = r.negated; some = some }

    by : (holds some : Bool)
        → pick (matters_of (listed (run holds some) reading)) (seen_of hit (listed (run holds some) reading)) (listed (run holds some) reading)
        ≡ listed (seen_run hit (run holds some)) reading
    by true true = refl
    by true false = refl
    by false some = refl

-- a network is no string, and a value of another column does not matter
network-same : (w : Walk) → pick (matters_of w) (seen_of false w) w ≡ w
network-same w = by (matters_of w)
  where
    by : (t : Bool) → pick t (seen_of false w) w ≡ w
    by true =
        ap (λ (some : Bool). record { bit = w.bit; next = w.next; set = w.set; holds = w.holds; here = w.here; negated = w.negated; some = some; reading = w.reading })
        (or-false w.some)
    by false = refl

elsewhere : (w : Walk) → w.here ≡ false → matters_of w ≡ false
elsewhere w e = ap (λ (t : Bool). w.holds && (t && not w.some)) e ∙ and-false w.holds

-- the words of a plan
module _ (hits : ℕ → Bool) (r : Run) where
  statement-word : run_word hits r statement_word ≡ began_run r
  unfolding run_word
  statement-word = refl

  list-word : (negated : Bool) → run_word hits r (list_word negated) ≡ opened_run negated r
  unfolding run_word
  list-word true = refl
  list-word false = refl

  hit-word : (q : ℕ) → run_word hits r (4 + q) ≡ seen_run (hits q) r
  unfolding run_word
  hit-word q = rw (le-ltb (4 + q) 4 (omega arith)) (ap (λ (n : ℕ). seen_run (hits n) r) {x = 4 + q - 4} {y = q} (omega arith))

-- a condition of a value that is there opens like an element
condition-opens : (is absent negated : Bool) (reading : Reading) (w : Walk) → condition_of is true absent negated reading w ≡ opened_of is true negated reading w
condition-opens true absent negated reading w = refl
condition-opens false absent negated reading w = refl

module _ (column : ℕ) (row : List ℕ) where
  -- the walk with a state
  Decides : List Entry → Type 0
  Decides es =
      (w : Walk) (r : Run) (here : Bool) (p : ℕ) → Same here w r
      → done_of (run_state column row w p es) ≡ done_run (run_plan (row_bit row) r (plan_from column true here p es))

  opens : (es : List Entry) → Decides es → (w : Walk) (r : Run) (here is negated : Bool) (reading : Reading) (p : ℕ) → Same here w r
      → done_of (run_state column row (opened_of is true negated reading w) p es)
      ≡ done_run (run_plan (row_bit row) r (with_word is (list_word negated) (plan_from column true is p es)))
  unfolding Decides
  opens es go w r here true negated reading p s =
      go (opened_of true true negated reading w) (opened_run negated r) true p (reading, opened-here here negated reading w r s)
      ∙ ap (λ (x : Run). done_run (run_plan (row_bit row) x (plan_from column true true p es))) (sym (list-word (row_bit row) r negated))
  opens es go w r here false negated reading p s =
      go (opened_of false true negated reading w) r false p (opened-elsewhere here negated reading w r s)

  value-decides : (bs : List ℕ) (es : List Entry) → Decides es → Decides (Entry.value bs ∷ es)
  unfolding Decides state_step
  value-decides bs es go w r true p (reading, e) =
      ap (λ (x : Walk). done_of (run_state column row (pick (matters_of x) (seen_of (row_bit row (p + length bs)) x) x) (pick x.here (p + (length bs + 1)) p) es)) e
      ∙ go (pick (matters_of (listed r reading)) (seen_of (row_bit row (p + length bs)) (listed r reading)) (listed r reading)) (seen_run (row_bit row (p + length bs)) r) true
      (p + (length bs + 1)) (reading, seen_same (row_bit row (p + length bs)) r reading)
      ∙ ap (λ (x : Run). done_run (run_plan (row_bit row) x (plan_from column true true (p + (length bs + 1)) es))) (sym (hit-word (row_bit row) r (p + length bs)))
  value-decides bs es go w r false p o =
      ap₂ (λ (t u : Bool). done_of (run_state column row (pick t (seen_of (row_bit row (p + length bs)) w) w) (pick u (p + (length bs + 1)) p) es)) (elsewhere w o.here) o.here
      ∙ go w r false p o

  decides : (es : List Entry) → Decides es
  unfolding Decides state_step
  decides [] w r here p s = done-same here w r s
  decides (Entry.start n ∷ es) w r here p s = decides es w r here p s
  decides (Entry.statement e ∷ es) w r here p s =
      decides es (began_of true w) (began_run r) false p (began-same here w r s)
      ∙ ap (λ (x : Run). done_run (run_plan (row_bit row) x (plan_from column true false p es))) (sym (statement-word (row_bit row) r))
  decides (Entry.column c ∷ es) w r here p s = opens es (decides es) w r here (eqb (column_place c) column) (column_negated c) (element_reading c) p s
  decides (Entry.condition o k ∷ es) w r here p s =
      ap (λ (x : Walk). done_of (run_state column row x p es)) (condition-opens (eqb (3 + key_code k) column) (row_of o).absent (row_of o).negated (operator_reading o) w)
      ∙ opens es (decides es) w r here (eqb (3 + key_code k) column) (row_of o).negated (operator_reading o) p s
  decides (Entry.network a n ∷ es) w r here p s =
      ap (λ (x : Walk). done_of (run_state column row x p es)) (network-same w) ∙ decides es w r here p s
  decides (Entry.value bs ∷ es) w r here p s = value-decides bs es (decides es) w r here p s
  decides (Entry.end ∷ es) w r here p s = decides es w r here p s

-- the run over the plan of a column of strings gathers what the walk with the state gathers
pub plan-decides : (column : ℕ) (row : List ℕ) (from : ℕ) (es : List Entry)
    → done_run (run_plan (row_bit row) fresh_run (plan_of column true from es)) ≡ done_of (run_state column row fresh_walk from es)
unfolding Decides
plan-decides column row from es =
    sym (decides column row es fresh_walk fresh_run false from (record { bit = refl; next = refl; set = refl; here = refl; holds = refl }))

-- the word of a network says whether an address is in it
network-hits : (x a n : ℕ) → in_network x (a * 64 + (32 - n)) ≡ agree a x n
network-hits x a n =
    ap₂ (λ (m k : ℕ). eqb (m / 2 ^ k) (x / 2 ^ k)) (network-address a n) (network-bits a n)

module _ (x : ℕ) where
  -- the walk with an address
  Finds : List Entry → Type 0
  Finds es =
      (w : Walk) (r : Run) (here : Bool) (p : ℕ) → Same here w r
      → done_of (run_of false 7 (number x) w es) ≡ done_run (run_plan (in_network x) r (plan_from 7 false here p es))

  opens-7 : (es : List Entry) → Finds es → (w : Walk) (r : Run) (here is negated : Bool) (reading : Reading) (p : ℕ) → Same here w r
      → done_of (run_of false 7 (number x) (opened_of is true negated reading w) es)
      ≡ done_run (run_plan (in_network x) r (with_word is (list_word negated) (plan_from 7 false is p es)))
  unfolding Finds
  opens-7 es go w r here true negated reading p s =
      go (opened_of true true negated reading w) (opened_run negated r) true p (reading, opened-here here negated reading w r s)
      ∙ ap (λ (u : Run). done_run (run_plan (in_network x) u (plan_from 7 false true p es))) (sym (list-word (in_network x) r negated))
  opens-7 es go w r here false negated reading p s =
      go (opened_of false true negated reading w) r false p (opened-elsewhere here negated reading w r s)

  network-finds : (a n : ℕ) (es : List Entry) → Finds es → Finds (Entry.network a n ∷ es)
  unfolding Finds step_of
  network-finds a n es go w r true p (reading, e) =
      ap (λ (u : Walk). done_of (run_of false 7 (number x) (pick (matters_of u) (seen_of (agree a x n) u) u) es)) e
      ∙ go (pick (matters_of (listed r reading)) (seen_of (agree a x n) (listed r reading)) (listed r reading)) (seen_run (agree a x n) r) true p
      (reading, seen_same (agree a x n) r reading)
      ∙ ap (λ (u : Run). done_run (run_plan (in_network x) u (plan_from 7 false true p es)))
      (ap (λ (hit : Bool). seen_run hit r) (sym (network-hits x a n)) ∙ sym (hit-word (in_network x) r (a * 64 + (32 - n))))
  network-finds a n es go w r false p o =
      ap (λ (t : Bool). done_of (run_of false 7 (number x) (pick t (seen_of (agree a x n) w) w) es)) (elsewhere w o.here) ∙ go w r false p o

  finds : (es : List Entry) → Finds es
  unfolding Finds step_of
  finds [] w r here p s = done-same here w r s
  finds (Entry.start n ∷ es) w r here p s = finds es w r here p s
  finds (Entry.statement e ∷ es) w r here p s =
      finds es (began_of true w) (began_run r) false p (began-same here w r s)
      ∙ ap (λ (u : Run). done_run (run_plan (in_network x) u (plan_from 7 false false p es))) (sym (statement-word (in_network x) r))
  finds (Entry.column c ∷ es) w r here p s = opens-7 es (finds es) w r here (eqb (column_place c) 7) (column_negated c) (element_reading c) p s
  finds (Entry.condition o k ∷ es) w r here p s =
      ap (λ (u : Walk). done_of (run_of false 7 (number x) u es)) (condition-opens (eqb (3 + key_code k) 7) (row_of o).absent (row_of o).negated (operator_reading o) w)
      ∙ opens-7 es (finds es) w r here (eqb (3 + key_code k) 7) (row_of o).negated (operator_reading o) p s
  finds (Entry.network a n ∷ es) w r here p s = network-finds a n es (finds es) w r here p s
  finds (Entry.value bs ∷ es) w r here p s =
      ap (λ (u : Walk). done_of (run_of false 7 (number x) u es)) (network-same w) ∙ finds es w r here (pick here (p + (length bs + 1)) p) s
  finds (Entry.end ∷ es) w r here p s = finds es w r here p s

-- the run over the plan of column 7 gathers what the walk with the address gathers
pub plan-finds : (x : ℕ) (es : List Entry)
    → done_run (run_plan (in_network x) fresh_run (plan_of 7 false 0 es)) ≡ done_of (run_of false 7 (number x) fresh_walk es)
unfolding Finds
plan-finds x es = sym (finds x es fresh_walk fresh_run false 0 (record { bit = refl; next = refl; set = refl; here = refl; holds = refl }))
