-- What the verdict on a document names is the first of its faults.
use Rattle.std.proofs.Common.{ℕ, ◌≡◌, refl, sym, ◌∙◌, ap, Bool, true, false, ◌&&◌, ◌||◌, List, [], ◌∷◌, ◌++◌, eqb, leb}
use Rattle.json_text.specs.Choice.{pick, same_bytes}
use Rattle.json_text.specs.Texts.{ascii}
use Rattle.json_text.specs.Trees.{Tree}
use Rattle.json_text.specs.Trees.Shape.{one, several, named}
use Rattle.json_text.specs.Trees.Tree.{text, other, list, object, end_list, element, end_object, member}
use Rattle.members.specs.Members.{Verdict, version_text, top_kind, row_kind, aws_kind, operator_kind, key_kind, row_slot, itself}
use Rattle.members.specs.Machinery.Verdicts.{following, add, always, members, each_text, strings, any_text, this_text, operator, condition, aws_whole, principal, row_value, row_whole, row, each_row, rows, top_value, top_whole, document}
use Rattle.members.specs.Members.Verdict.{fine, refused}
use Rattle.members.specs.Faults.{MemberFault, bad_name, bad_value, among, all_among, member_faults, text_faults, this_text_faults, each_text_faults, string_faults, operator_faults, condition_faults, principal_faults, row_value_faults, row_faults, each_row_faults, rows_faults, top_value_faults, faults}
use Rattle.members.proofs.Marked.{SameMarks, none-met, one_more}

abbrev pub first : List MemberFault → Verdict
first [] = fine
first (f ∷ fs) = refused f.number f.left

first-of-two : (fs gs : List MemberFault) → first (fs ++ gs) ≡ following (first fs) (first gs)
first-of-two [] gs = refl
first-of-two (f ∷ fs) gs = refl

-- the closing brace, and a member, of any object
closes : (whole : Bool) (n : ℕ) → pick whole fine (refused 22 n) ≡ first (pick whole [] (bad_value n))
closes true n = refl
closes false n = refl

names : (unknown twice : Bool) (n : ℕ) (c m : Verdict) (others fs gs : List MemberFault) → c ≡ first fs → m ≡ first gs
    → pick (unknown || twice) (refused 21 n) (following c m)
    ≡ first (pick unknown (bad_name n ++ others) (pick twice (bad_name n) [] ++ (fs ++ gs)))
names true twice n c m others fs gs e f = refl
names false true n c m others fs gs e f = refl
names false false n c m others fs gs e f = rw (e, f) (sym (first-of-two fs gs))

module _ (kind_of : List ℕ → ℕ) (slot_of : ℕ → ℕ) (check : ℕ → Tree one → Verdict) (value_faults : ℕ → Tree one → List MemberFault)
    (whole : ℕ → Bool) (needed : List ℕ) (checks : (k : ℕ) (v : Tree one) → check k v ≡ first (value_faults k v))
    (wholes : (mask : ℕ) (seen : List ℕ) → SameMarks mask seen → whole mask ≡ all_among seen needed) where
  in-object : (ms : Tree named) (mask : ℕ) (seen : List ℕ) → SameMarks mask seen
      → members kind_of slot_of check whole mask ms ≡ first (member_faults kind_of slot_of value_faults needed seen ms)
  in-object (end_object n) mask seen marks = rw (wholes mask seen marks) (closes (all_among seen needed) n)
  in-object (member n x v ms) mask seen marks =
      let k = kind_of x in
      rw (marks (slot_of k))
      (names (eqb k 0) (among seen (slot_of k)) n (check k v) (members kind_of slot_of check whole (add mask (slot_of k)) ms)
      (member_faults kind_of slot_of value_faults needed seen ms) (value_faults k v) (member_faults kind_of slot_of value_faults needed (slot_of k ∷ seen) ms)
      (checks k v) (in-object ms (add mask (slot_of k)) (slot_of k ∷ seen) (one_more mask seen (slot_of k) marks)))

-- Types

in-text : (v : Tree one) → any_text v ≡ first (text_faults v)
in-text (text n bs) = refl
in-text (other n) = refl
in-text (list n es) = refl
in-text (object n ms) = refl

in-version : (v : Tree one) → this_text version_text v ≡ first (this_text_faults version_text v)
in-version (text n bs) = closes (same_bytes bs version_text) n
in-version (other n) = refl
in-version (list n es) = refl
in-version (object n ms) = refl

in-each : (es : Tree several) → each_text es ≡ first (each_text_faults es)
in-each (end_list n) = refl
in-each (element (text n bs) es) = in-each es
in-each (element (other n) es) = refl
in-each (element (list n xs) es) = refl
in-each (element (object n ms) es) = refl

in-strings : (k : ℕ) (v : Tree one) → strings v ≡ first (string_faults v)
in-strings k (text n bs) = refl
in-strings k (other n) = refl
in-strings k (list n es) = in-each es
in-strings k (object n ms) = refl

-- The document

in-operator : (k : ℕ) (v : Tree one) → operator v ≡ first (operator_faults v)
in-operator k (text n bs) = refl
in-operator k (other n) = refl
in-operator k (list n es) = refl
in-operator k (object n ms) =
    in-object key_kind itself (λ k v. strings v) (λ k v. string_faults v) always [] in-strings (λ mask seen marks. refl) ms 0 [] none-met

in-condition : (v : Tree one) → condition v ≡ first (condition_faults v)
in-condition (text n bs) = refl
in-condition (other n) = refl
in-condition (list n es) = refl
in-condition (object n ms) =
    in-object operator_kind itself (λ k v. operator v) (λ k v. operator_faults v) always [] in-operator (λ mask seen marks. refl) ms 0 [] none-met

also-true : (b : Bool) → b ≡ (b && true)
also-true true = refl
also-true false = refl

in-principal : (v : Tree one) → principal v ≡ first (principal_faults v)
in-principal (text n bs) = closes (same_bytes bs (ascii "*")) n
in-principal (other n) = refl
in-principal (list n es) = refl
in-principal (object n ms) =
    in-object aws_kind itself (λ k v. strings v) (λ k v. string_faults v) aws_whole (1 ∷ []) in-strings
    (λ mask seen marks. marks 1 ∙ also-true (among seen 1)) ms 0 [] none-met

in-row-value : (k : ℕ) (v : Tree one) → row_value k v ≡ first (row_value_faults k v)
in-row-value k v = by (leb k 2) (leb k 4) (leb k 8)
  where
    by : (x y z : Bool)
        → pick x (any_text v) (pick y (principal v) (pick z (strings v) (condition v)))
        ≡ first (pick x (text_faults v) (pick y (principal_faults v) (pick z (string_faults v) (condition_faults v))))
    by true y z = in-text v
    by false true z = in-principal v
    by false false true = in-strings k v
    by false false false = in-condition v

row-needs : (mask : ℕ) (seen : List ℕ) → SameMarks mask seen → row_whole mask ≡ all_among seen (2 ∷ 3 ∷ 4 ∷ 5 ∷ [])
row-needs mask seen marks = rw (marks 2, marks 3, marks 4, marks 5, ← also-true (among seen 5))

in_row : (ms : Tree named) → row 0 ms ≡ first (member_faults row_kind row_slot row_value_faults (2 ∷ 3 ∷ 4 ∷ 5 ∷ []) [] ms)
in_row ms =
    in-object row_kind row_slot row_value row_value_faults row_whole (2 ∷ 3 ∷ 4 ∷ 5 ∷ []) in-row-value row-needs ms 0 [] none-met

in-each-row : (es : Tree several) → each_row es ≡ first (each_row_faults es)
in-each-row (end_list n) = refl
in-each-row (element (text n bs) es) = refl
in-each-row (element (other n) es) = refl
in-each-row (element (list n xs) es) = refl
in-each-row (element (object n ms) es) =
    rw (in_row ms, in-each-row es) (sym (first-of-two (row_faults (object n ms)) (each_row_faults es)))

in_rows_lem : (v : Tree one) → rows v ≡ first (rows_faults v)
in_rows_lem (text n bs) = refl
in_rows_lem (other n) = refl
in_rows_lem (list n es) = in-each-row es
in_rows_lem (object n ms) = in_row ms

in-top-value : (k : ℕ) (v : Tree one) → top_value k v ≡ first (top_value_faults k v)
in-top-value k v = by (eqb k 1)
  where
    by : (x : Bool) → pick x (this_text version_text v) (rows v) ≡ first (pick x (this_text_faults version_text v) (rows_faults v))
    by true = in-version v
    by false = in_rows_lem v

top-needs : (mask : ℕ) (seen : List ℕ) → SameMarks mask seen → top_whole mask ≡ all_among seen (1 ∷ 2 ∷ [])
top-needs mask seen marks = rw (marks 1, marks 2, ← also-true (among seen 2))

pub first-fault : (v : Tree one) → document v ≡ first (faults v)
first-fault (text n bs) = refl
first-fault (other n) = refl
first-fault (list n es) = refl
first-fault (object n ms) = in-object top_kind itself top_value top_value_faults top_whole (1 ∷ 2 ∷ []) in-top-value top-needs ms 0 [] none-met

pub no-fault : (v : Tree one) → faults v ≡ [] → document v ≡ fine
no-fault v e = first-fault v ∙ ap first e
