-- The next statement: token by token, and what follows of the wishes of statements and of their number.
use Rattle.std.proofs.Common.{Some, ℕ, zero, suc, ◌+◌, ◌-◌, Bool, false, ◌≡◌, refl, sym, ◌∙◌, ap, List, [], ◌∷◌, add-one, arith, eqb, ne_eqb}
use Rattle.json_text.specs.Choice.{pick}
use Rattle.json_text.specs.Machinery.Tokens.{Token}
use Rattle.json_text.specs.Machinery.Tokens.Token.{name, text, other, open-list, close-list, open-object, close-object}
use Rattle.records.specs.Wishes.{Wish}
use Rattle.records.specs.Machinery.Streams as Streams
use Rattle.records.specs.Machinery.Streams.{row_from, rows_from, count_from}
use Rattle.records.specs.Machinery.Rows.{among_of, higher, Sighted, after_sight, row_in}
use Rattle.records.specs.Machinery.Rows.Sighted.{none, seen}
use Rattle.records.specs.declared.rows.Among.{Among}
use Rattle.records.specs.declared.rows.Among.TheVariants as A
use Rattle.std.specs.declared.ops.ControlFlow.TheVariants.{Continue}

-- a bracket closes inside a statement
closes : (ts : List Token) (d : ℕ) → after_sight (row_in ts) ts (higher (A.Within (suc d))) ≡ row_in ts (A.Within d)
closes ts d =
    let e : eqb (suc d) 0 ≡ false = ne_eqb (suc d) 0 (λ x. omega arith) in
    let f : suc d - 1 ≡ d = omega arith in
    ap (λ (b : Bool). after_sight (row_in ts) ts (Some (pick b (Continue A.Between) (Continue (A.Within (suc d - 1)))))) e ∙ ap (λ (k : ℕ). row_in ts (A.Within k)) f

-- the wishes of statements, from the next one on
abbrev pub rows_by : List Wish → Sighted → List Wish
rows_by r none = r
rows_by r (seen ts listed) = row_from ts (pick listed (rows_from r ts (Streams.Among.inside 1)) r)

pub rows_in : (r : List Wish) (ts : List Token) (a : Among) → rows_from r ts (among_of a) ≡ rows_by r (row_in ts a)
rows_in r [] a = refl
rows_in r (name n x ∷ ts) a = rows_in r ts a
rows_in r (text n x ∷ ts) a = rows_in r ts a
rows_in r (other n ∷ ts) a = rows_in r ts a
rows_in r (open-list n ∷ ts) A.Begin = rows_in r ts A.Between
rows_in r (open-list n ∷ ts) A.Between = rows_in r ts (A.Within 0)
rows_in r (open-list n ∷ ts) (A.Within d) =
    ap (λ (k : ℕ). rows_from r ts (Streams.Among.inside (suc k))) (sym (add-one d)) ∙ rows_in r ts (A.Within (d + 1))
rows_in r (close-list n ∷ ts) A.Begin = refl
rows_in r (close-list n ∷ ts) A.Between = refl
rows_in r (close-list n ∷ ts) (A.Within zero) = rows_in r ts A.Between
rows_in r (close-list n ∷ ts) (A.Within (suc d)) = rows_in r ts (A.Within d) ∙ ap (rows_by r) (sym (closes ts d))
rows_in r (open-object n ∷ ts) A.Begin = refl
rows_in r (open-object n ∷ ts) A.Between = refl
rows_in r (open-object n ∷ ts) (A.Within d) =
    ap (λ (k : ℕ). rows_from r ts (Streams.Among.inside (suc k))) (sym (add-one d)) ∙ rows_in r ts (A.Within (d + 1))
rows_in r (close-object n ∷ ts) A.Begin = refl
rows_in r (close-object n ∷ ts) A.Between = refl
rows_in r (close-object n ∷ ts) (A.Within zero) = rows_in r ts A.Between
rows_in r (close-object n ∷ ts) (A.Within (suc d)) = rows_in r ts (A.Within d) ∙ ap (rows_by r) (sym (closes ts d))

-- their number
abbrev pub counted_by : Sighted → ℕ
counted_by none = 0
counted_by (seen ts listed) = pick listed (suc (count_from ts (Streams.Among.inside 1))) 1

pub count-in : (ts : List Token) (a : Among) → count_from ts (among_of a) ≡ counted_by (row_in ts a)
count-in [] a = refl
count-in (name n x ∷ ts) a = count-in ts a
count-in (text n x ∷ ts) a = count-in ts a
count-in (other n ∷ ts) a = count-in ts a
count-in (open-list n ∷ ts) A.Begin = count-in ts A.Between
count-in (open-list n ∷ ts) A.Between = count-in ts (A.Within 0)
count-in (open-list n ∷ ts) (A.Within d) =
    ap (λ (k : ℕ). count_from ts (Streams.Among.inside (suc k))) (sym (add-one d)) ∙ count-in ts (A.Within (d + 1))
count-in (close-list n ∷ ts) A.Begin = refl
count-in (close-list n ∷ ts) A.Between = refl
count-in (close-list n ∷ ts) (A.Within zero) = count-in ts A.Between
count-in (close-list n ∷ ts) (A.Within (suc d)) = count-in ts (A.Within d) ∙ ap counted_by (sym (closes ts d))
count-in (open-object n ∷ ts) A.Begin = refl
count-in (open-object n ∷ ts) A.Between = refl
count-in (open-object n ∷ ts) (A.Within d) =
    ap (λ (k : ℕ). count_from ts (Streams.Among.inside (suc k))) (sym (add-one d)) ∙ count-in ts (A.Within (d + 1))
count-in (close-object n ∷ ts) A.Begin = refl
count-in (close-object n ∷ ts) A.Between = refl
count-in (close-object n ∷ ts) (A.Within zero) = count-in ts A.Between
count-in (close-object n ∷ ts) (A.Within (suc d)) = count-in ts (A.Within d) ∙ ap counted_by (sym (closes ts d))
