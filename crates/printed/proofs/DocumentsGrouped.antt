-- The statements of a sound document have their conditions by their operators.
use Rattle.std.proofs.Common.{ℕ, ◌+◌, ◌/◌, ◌≡◌, refl, Bool, true, false, List, [], ◌∷◌, inl, inr, eqb, leb, arith, eqb-true, leb-true, leb-false}
use Rattle.json_text.specs.Choice.{pick}
use Rattle.json_text.specs.Trees.{Tree}
use Rattle.json_text.specs.Trees.Shape.{one, several, named}
use Rattle.json_text.specs.Trees.Tree.{text, other, list, object, end_list, element, end_object, member}
use Rattle.json_text.proofs.Choosing.{never}
use Rattle.members.specs.Machinery.Verdicts as Mb
use Rattle.members.specs.Members.{top_kind, row_kind, row_slot}
use Rattle.members.specs.Machinery.Verdicts.{add, is_bad}
use Rattle.members.specs.Members.Verdict.{fine}
use Rattle.stored.specs.Choice.{In}
use Rattle.stored.specs.Tables.{Statement}
use Rattle.records.specs.Documents.{Found, held, stated, marked, members_of, statement_of, each_statement, statements_under, statements_of}
use Rattle.printed.specs.Grouped.{Grouped}
use Rattle.printed.proofs.Grouping.{groups-together, groups-twice}
use Rattle.printed.proofs.OnceInTrees.{both-fine, member-fine, tree_groups, groups-same, groups-once}

-- the Condition of a sound statement
condition-value : (k : ℕ) (v : Tree one) → row_slot k ≡ 6 → Mb.row_value k v ≡ fine → Mb.condition v ≡ fine
condition-value k v s = by (leb k 2) refl (leb k 4) refl (leb k 8) refl s
  where
    by : (a : Bool) → leb k 2 ≡ a → (b : Bool) → leb k 4 ≡ b → (c : Bool) → leb k 8 ≡ c
        → pick a k (pick c ((k + 3) / 2) 6) ≡ 6
        → pick a (Mb.any_text v) (pick b (Mb.principal v) (pick c (Mb.strings v) (Mb.condition v))) ≡ fine → Mb.condition v ≡ fine
    by true e b f c g s h = let l = leb-true k 2 e in absurd (omega arith)
    by false e b f true g s h = let l = leb-true k 8 g in absurd (omega arith)
    by false e true f false g s h =
        let l = leb-true k 4 f in
        let m = leb-false k 8 g in
        absurd (omega arith)
    by false e false f false g s h = h

condition-members : (v : Tree one) → Mb.condition v ≡ fine → Mb.operators 0 (members_of v) ≡ fine
condition-members (text n bs) e = never (cc)
condition-members (other n) e = never (cc)
condition-members (list n es) e = never (cc)
condition-members (object n ms) e = e

row-conditions : (seen : ℕ) (ms : Tree named) → Mb.row seen ms ≡ fine → Mb.operators 0 (members_of (held (marked 6 ms))) ≡ fine
row-conditions seen (end_object n) e = refl
row-conditions seen (member n x v ms) e =
    let f = member-fine (is_bad (row_kind x) (row_slot (row_kind x)) seen) n (Mb.row_value (row_kind x) v) (Mb.row (add seen (row_slot (row_kind x))) ms) e in
    by (eqb (row_slot (row_kind x)) 6) refl f.1 (row-conditions (add seen (row_slot (row_kind x))) ms f.2)
  where
    by : (b : Bool) → eqb (row_slot (row_kind x)) 6 ≡ b → Mb.row_value (row_kind x) v ≡ fine → Mb.operators 0 (members_of (held (marked 6 ms))) ≡ fine
        → Mb.operators 0 (members_of (held (pick b (Found.found (row_kind x) v) (marked 6 ms)))) ≡ fine
    by true h c more = condition-members v (condition-value (row_kind x) v (eqb-true (row_slot (row_kind x)) 6 h) c)
    by false h c more = more

row-grouped : (ms : Tree named) → Mb.row 0 ms ≡ fine → Grouped (statement_of ms)
row-grouped ms e =
    let c = members_of (held (marked 6 ms)) in
    let o = (groups-once 0 c (row-conditions 0 ms e)).0 in
    record {
      together = rw (groups-same c) (groups-together (tree_groups c) o);
      none_twice = rw (groups-same c) (groups-twice (tree_groups c) o);
    }

-- every statement of a sound document
abbrev AllGrouped : List Statement → Type 0
AllGrouped rows = (s : Statement) → In s rows → Grouped s

one_more : (s : Statement) (rows : List Statement) → Grouped s → AllGrouped rows → AllGrouped (s ∷ rows)
one_more s rows g f x (inl e) = rw e g
one_more s rows g f x (inr i) = f x i

rows-grouped : (es : Tree several) → Mb.each_row es ≡ fine → AllGrouped (each_statement es)
rows-grouped (end_list n) e = λ s i. absurd i
rows-grouped (element (text n bs) es) e = never (cc)
rows-grouped (element (other n) es) e = never (cc)
rows-grouped (element (list n xs) es) e = never (cc)
rows-grouped (element (object n ms) es) e =
    let f = both-fine (Mb.row 0 ms) (Mb.each_row es) e in
    one_more (statement_of ms) (each_statement es) (row-grouped ms f.0) (rows-grouped es f.1)

under-grouped : (v : Tree one) → Mb.rows v ≡ fine → AllGrouped (statements_under v)
under-grouped (text n bs) e = never (cc)
under-grouped (other n) e = never (cc)
under-grouped (list n es) e = rows-grouped es e
under-grouped (object n ms) e = one_more (statement_of ms) [] (row-grouped ms e) (λ s i. absurd i)

top-value : (k : ℕ) (v : Tree one) → k ≡ 2 → Mb.top_value k v ≡ fine → Mb.rows v ≡ fine
top-value k v e h = rw e at h

top-grouped : (seen : ℕ) (ms : Tree named) → Mb.top seen ms ≡ fine → AllGrouped (statements_under (held (stated ms)))
top-grouped seen (end_object n) e = λ s i. absurd i
top-grouped seen (member n x v ms) e =
    let f = member-fine (is_bad (top_kind x) (top_kind x) seen) n (Mb.top_value (top_kind x) v) (Mb.top (add seen (top_kind x)) ms) e in
    by (eqb (top_kind x) 2) refl f.1 (top-grouped (add seen (top_kind x)) ms f.2)
  where
    by : (b : Bool) → eqb (top_kind x) 2 ≡ b → Mb.top_value (top_kind x) v ≡ fine → AllGrouped (statements_under (held (stated ms)))
        → AllGrouped (statements_under (held (pick b (Found.found (top_kind x) v) (stated ms))))
    by true h c more = under-grouped v (top-value (top_kind x) v (eqb-true (top_kind x) 2 h) c)
    by false h c more = more

pub document-grouped : (v : Tree one) → Mb.document v ≡ fine → (s : Statement) → In s (statements_of v) → Grouped s
document-grouped (text n bs) e = never (cc)
document-grouped (other n) e = never (cc)
document-grouped (list n es) e = never (cc)
document-grouped (object n ms) e = top-grouped 0 ms e
