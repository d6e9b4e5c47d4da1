-- The printed document: it has no fault, it says the statements, and none of its records is refused.
use Rattle.std.proofs.Common.{ℕ, suc, ◌≡◌, refl, sym, ◌∙◌, ap, subst, true, false, List, [], ◌∷◌, length, arith}
use Rattle.json_text.specs.Trees.{Tree, tree_of}
use Rattle.json_text.specs.Trees.Shape.{one, several, named}
use Rattle.json_text.specs.Grammar.{Text}
use Rattle.members.specs.Machinery.Verdicts as Mb
use Rattle.members.specs.Members.{version_text}
use Rattle.members.specs.Members.Verdict.{fine}
use Rattle.stored.specs.Entries.Entry.{end}
use Rattle.stored.specs.Tables.{Statement}
use Rattle.stored.specs.declared.machine.State.{State}
use Rattle.stored.specs.Machinery.Following.{Follows}
use Rattle.records.specs.Documents.{each_statement, statements_of}
use Rattle.records.specs.Wishes.{Wish, row_wishes, wishes, entries}
use Rattle.records.specs.Wishes.Wish.{made, strange, empty, unread}
use Rattle.records.specs.Records.{running}
use Rattle.printed.specs.Machinery.Values.{Value, Sound, located, letters, print}
use Rattle.printed.specs.Machinery.Plans.{version_name, statement_name, statement_values, document_value, printed}
use Rattle.printed.proofs.Printing.{text_of, text-tree}
use Rattle.printed.proofs.Names.{version-name-shown, statement-name-shown, version-shown}
use Rattle.printed.proofs.ValuesSaid.{AllMade}
use Rattle.printed.proofs.ColumnForms.{top_tree, top-verdict, top-said, top-wished}
use Rattle.printed.proofs.RowsSaid.{Ready, row_fine, row-says, row_made, row-sound}

abbrev pub AllReady : List Statement → Type 0
AllReady [] = Unit {0}
AllReady (s ∷ rows) = Ready s × AllReady rows

rows-fine : (rows : List Statement) (r : List ℕ) → AllReady rows → Mb.each_row (located (statement_values rows) r) ≡ fine
rows-fine [] r h = refl
rows-fine (s ∷ rows) r h = rw (row_fine s (print true (statement_values rows) r) h.0) (rows-fine rows r h.1)

rows-say : (rows : List Statement) (r : List ℕ) → AllReady rows → each_statement (located (statement_values rows) r) ≡ rows
rows-say [] r h = refl
rows-say (s ∷ rows) r h = rw (row-says s (print true (statement_values rows) r) h.0, rows-say rows r h.1)

rows_made : (rows : List Statement) (r : List ℕ) (ws : List Wish) → AllReady rows → AllMade ws → AllMade (row_wishes (located (statement_values rows) r) ws)
rows_made [] r ws h a = a
rows_made (s ∷ rows) r ws h a =
    row_made s (print true (statement_values rows) r) (row_wishes (located (statement_values rows) r) ws) h.0 (rows_made rows r ws h.1 a)

rows-sound : (rows : List Statement) → AllReady rows → Sound 2 (statement_values rows)
rows-sound [] h = tt
rows-sound (s ∷ rows) h = ((omega arith, row-sound s h.0), rows-sound rows h.1)

-- wishes that are all entries run as the entries do
pub runs : (ws : List Wish) (s : State) → AllMade ws → Follows s (entries ws) → running ws s ≡ fine
runs [] s a f = refl
runs (made n e ∷ ws) s a f = rw f.1 (runs ws f.0 a f.2)
runs (strange n ∷ ws) s a f = absurd a
runs (empty n ∷ ws) s a f = absurd a
runs (unread n bs ∷ ws) s a f = absurd a

module _ (rows : List Statement) (h : AllReady rows) where
  abbrev behind : Value named
  behind = Value.member statement_name (Value.list (statement_values rows)) Value.end_object

  abbrev es : Tree several
  es = located (statement_values rows) (print true Value.end_object [])

  abbrev n0 : ℕ
  n0 = suc (length (letters version_name (0x3A ∷ print false (Value.text version_text) (print true behind []))))

  abbrev n1 : ℕ
  n1 = suc (length (letters statement_name (0x3A ∷ print false (Value.list (statement_values rows)) (print true Value.end_object []))))

  abbrev n : ℕ
  n = suc (length (print false (Value.member version_name (Value.text version_text) behind) []))

  abbrev m : ℕ
  m = suc (length (letters version_text (print true behind [])))

  abbrev k : ℕ
  k = suc (length (print false (statement_values rows) (print true Value.end_object [])))

  document-tree : located (document_value rows) [] ≡ top_tree n n0 n1 1 m k es
  unfolding document_value
  document-tree = refl

  document-sound : Sound 0 (document_value rows)
  unfolding document_value
  document-sound = (omega arith, (version-name-shown, version-shown, (statement-name-shown, (omega arith, rows-sound rows h), tt)))

  document-fine : Mb.document (located (document_value rows) []) ≡ fine
  document-fine = ap Mb.document document-tree ∙ top-verdict n n0 n1 1 m k es ∙ rw (rows-fine rows (print true Value.end_object []) h)

  document-says : statements_of (located (document_value rows) []) ≡ rows
  document-says = ap statements_of document-tree ∙ top-said n n0 n1 1 m k es ∙ rows-say rows (print true Value.end_object []) h

  document-made : AllMade (wishes (located (document_value rows) []))
  document-made =
      subst AllMade (sym (ap wishes document-tree ∙ top-wished n n0 n1 1 m k es)) (rows_made rows (print true Value.end_object []) (made 0 end ∷ []) h tt)

  -- the printed text
  pub printed-text : Text (printed rows)
  unfolding printed
  printed-text = text_of (document_value rows) document-sound

  same-tree : tree_of printed-text.value_first ≡ located (document_value rows) []
  unfolding printed printed-text
  same-tree = text-tree (document_value rows) document-sound

  pub printed-fine : Mb.document (tree_of printed-text.value_first) ≡ fine
  printed-fine = ap Mb.document same-tree ∙ document-fine

  pub printed-says : statements_of (tree_of printed-text.value_first) ≡ rows
  printed-says = ap statements_of same-tree ∙ document-says

  pub printed-made : AllMade (wishes (tree_of printed-text.value_first))
  printed-made = subst (λ (v : Tree one). AllMade (wishes v)) (sym same-tree) document-made
