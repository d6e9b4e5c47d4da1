-- One pass over the tokens finds the first 21 or 22 that the tree has.
use Rattle.std.proofs.Common.{ℕ, ◌≡◌, refl, sym, ◌∙◌, ap, Bool, true, false, List, [], eqb, leb}
use Rattle.json_text.specs.Choice.{pick, same_bytes}
use Rattle.json_text.specs.Trees.{Tree}
use Rattle.json_text.specs.Trees.Shape.{one, several, named}
use Rattle.json_text.specs.Trees.Tree.{text, other, list, object, end_list, element, end_object, member}
use Rattle.json_text.specs.Machinery.Tokens.{Token, flat}
use Rattle.json_text.specs.Texts.{ascii}
use Rattle.json_text.specs.declared.events.Event.{Event}
use Rattle.members.specs.Members.{Verdict, version_text, top_kind, row_kind, aws_kind, operator_kind, key_kind, row_slot}
use Rattle.members.specs.Machinery.Verdicts.{following, add, is_bad, each_text, strings, keys, operator, operators, aws_whole, aws, row_value, row_whole, row, each_row, top_value, top_whole, top, document}
use Rattle.members.specs.Members.Verdict.{fine, refused}
use Rattle.members.specs.Machinery.Levels.{at, go, in_strings, behind_row, turn_in, after_turn, judge}
use Rattle.members.specs.Machinery.States.{Level}
use Rattle.members.specs.Machinery.States.{Level as L}
use Rattle.members.specs.Machinery.States.{State}
use Rattle.members.specs.Machinery.States.{Turn as T}

regroup : (c m v : Verdict) → following (following c m) v ≡ following c (following m v)
regroup fine m v = refl
regroup (refused n p) m v = refl

-- a name that is bad, or goes on to its value and the other members
name-step : (bad : Bool) (n : ℕ) (xs : List Token) (s : State) (c m v : Verdict) → judge xs s ≡ following c (following m v)
    → after_turn (judge xs) n (pick bad (T.Refused 21) (T.Next s)) ≡ following (pick bad (refused 21 n) (following c m)) v
name-step true n xs s c m v h = refl
name-step false n xs s c m v h = h ∙ sym (regroup c m v)

-- a closing brace where something may be missing
close-step : (whole : Bool) (n : ℕ) (xs : List Token) (s : State)
    → after_turn (judge xs) n (pick whole (T.Next s) (T.Refused 22)) ≡ following (pick whole fine (refused 22 n)) (judge xs s)
close-step true n xs s = refl
close-step false n xs s = refl

each-text : (M back : Level) → ((s : State) (e : Event) (x : List ℕ) → turn_in M s e x ≡ in_strings back s e x) → (es : Tree several) (ts : List Token)
    (a b c d e : ℕ) (f : Bool) → judge (flat es ts) (at M 0 a b c d e f) ≡ following (each_text es) (judge ts (at back 0 a b c d e f))
each-text M back same (end_list n) ts a b c d e f = rw same
each-text M back same (element (text n bs) es) ts a b c d e f = rw same (each-text M back same es ts a b c d e f)
each-text M back same (element (other n) es) ts a b c d e f = rw same
each-text M back same (element (list n xs) es) ts a b c d e f = rw same
each-text M back same (element (object n ms) es) ts a b c d e f = rw same

-- keys of an operator
key-value : (v : Tree one) (ts : List Token) (a b d e : ℕ) (f : Bool)
    → judge (flat v ts) (at L.Keys 0 a b 0 d e f) ≡ following (strings v) (judge ts (at L.Keys 0 a b 0 d e f))
key-value (text n bs) ts a b d e f = refl
key-value (other n) ts a b d e f = refl
key-value (list n es) ts a b d e f = each-text L.KeyStrings L.Keys (λ s e x. refl) es ts a b 0 d e f
key-value (object n ms) ts a b d e f = refl

key-members : (ms : Tree named) (ts : List Token) (a b d e : ℕ) (f : Bool)
    → judge (flat ms ts) (at L.Keys 0 a b 0 d e f) ≡ following (keys e ms) (judge ts (at L.Operators 0 a b 0 d 0 f))
key-members (end_object n) ts a b d e f = refl
key-members (member n x v ms) ts a b d e f =
    name-step (is_bad (key_kind x) (key_kind x) e) n (flat v (flat ms ts)) (at L.Keys 0 a b 0 d (add e (key_kind x)) f)
    (strings v) (keys (add e (key_kind x)) ms) (judge ts (at L.Operators 0 a b 0 d 0 f))
    (key-value v (flat ms ts) a b d (add e (key_kind x)) f ∙ ap (following (strings v)) (key-members ms ts a b d (add e (key_kind x)) f))

-- operators of a condition
operator-value : (v : Tree one) (ts : List Token) (a b d : ℕ) (f : Bool)
    → judge (flat v ts) (at L.Operators 0 a b 0 d 0 f) ≡ following (operator v) (judge ts (at L.Operators 0 a b 0 d 0 f))
operator-value (text n bs) ts a b d f = refl
operator-value (other n) ts a b d f = refl
operator-value (list n es) ts a b d f = refl
operator-value (object n ms) ts a b d f = key-members ms ts a b d 0 f

operator-members : (ms : Tree named) (ts : List Token) (a b d : ℕ) (f : Bool)
    → judge (flat ms ts) (at L.Operators 0 a b 0 d 0 f) ≡ following (operators d ms) (judge ts (at L.Row 0 a b 0 0 0 f))
operator-members (end_object n) ts a b d f = refl
operator-members (member n x v ms) ts a b d f =
    name-step (is_bad (operator_kind x) (operator_kind x) d) n (flat v (flat ms ts)) (at L.Operators 0 a b 0 (add d (operator_kind x)) 0 f)
    (operator v) (operators (add d (operator_kind x)) ms) (judge ts (at L.Row 0 a b 0 0 0 f))
    (operator-value v (flat ms ts) a b (add d (operator_kind x)) f ∙ ap (following (operator v)) (operator-members ms ts a b (add d (operator_kind x)) f))

-- the one member of a principal
aws-value : (v : Tree one) (ts : List Token) (a b c : ℕ) (f : Bool)
    → judge (flat v ts) (at L.Principals 0 a b c 0 0 f) ≡ following (strings v) (judge ts (at L.Principals 0 a b c 0 0 f))
aws-value (text n bs) ts a b c f = refl
aws-value (other n) ts a b c f = refl
aws-value (list n es) ts a b c f = each-text L.PrincipalStrings L.Principals (λ s e x. refl) es ts a b c 0 0 f
aws-value (object n ms) ts a b c f = refl

aws-members : (ms : Tree named) (ts : List Token) (a b c : ℕ) (f : Bool)
    → judge (flat ms ts) (at L.Principals 0 a b c 0 0 f) ≡ following (aws c ms) (judge ts (at L.Row 0 a b 0 0 0 f))
aws-members (end_object n) ts a b c f = close-step (aws_whole c) n ts (at L.Row 0 a b 0 0 0 f)
aws-members (member n x v ms) ts a b c f =
    name-step (is_bad (aws_kind x) (aws_kind x) c) n (flat v (flat ms ts)) (at L.Principals 0 a b (add c (aws_kind x)) 0 0 f)
    (strings v) (aws (add c (aws_kind x)) ms) (judge ts (at L.Row 0 a b 0 0 0 f))
    (aws-value v (flat ms ts) a b (add c (aws_kind x)) f ∙ ap (following (strings v)) (aws-members ms ts a b (add c (aws_kind x)) f))

-- members of a statement
row-value : (v : Tree one) (ts : List Token) (k a b : ℕ) (f : Bool)
    → judge (flat v ts) (at L.Row k a b 0 0 0 f) ≡ following (row_value k v) (judge ts (at L.Row 0 a b 0 0 0 f))
row-value (text n bs) ts k a b f = by (leb k 2) (leb k 4) (leb k 8) (same_bytes bs (ascii "*"))
  where
    by : (x y z w : Bool)
        → after_turn (judge ts) n (pick x (go L.Row 0 a b 0 0 0 f) (pick y (pick w (go L.Row 0 a b 0 0 0 f) (T.Refused 22)) (pick z (go L.Row 0 a b 0 0 0 f) (T.Refused 22))))
        ≡ following (pick x fine (pick y (pick w fine (refused 22 n)) (pick z fine (refused 22 n)))) (judge ts (at L.Row 0 a b 0 0 0 f))
    by true y z w = refl
    by false true z true = refl
    by false true z false = refl
    by false false true w = refl
    by false false false w = refl
row-value (other n) ts k a b f = by (leb k 2) (leb k 4) (leb k 8)
  where
    by : (x y z : Bool)
        → refused 22 n ≡ following (pick x (refused 22 n) (pick y (refused 22 n) (pick z (refused 22 n) (refused 22 n)))) (judge ts (at L.Row 0 a b 0 0 0 f))
    by true y z = refl
    by false true z = refl
    by false false true = refl
    by false false false = refl
row-value (list n es) ts k a b f = by (leb k 2) (leb k 4) (leb k 8)
  where
    by : (x y z : Bool)
        → after_turn (judge (flat es ts)) n (pick x (T.Refused 22) (pick y (T.Refused 22) (pick z (go L.RowStrings 0 a b 0 0 0 f) (T.Refused 22))))
        ≡ following (pick x (refused 22 n) (pick y (refused 22 n) (pick z (each_text es) (refused 22 n)))) (judge ts (at L.Row 0 a b 0 0 0 f))
    by true y z = refl
    by false true z = refl
    by false false true = each-text L.RowStrings L.Row (λ s e x. refl) es ts a b 0 0 0 f
    by false false false = refl
row-value (object n ms) ts k a b f = by (leb k 2) (leb k 4) (leb k 8)
  where
    by : (x y z : Bool)
        → after_turn (judge (flat ms ts)) n (pick x (T.Refused 22) (pick y (go L.Principals 0 a b 0 0 0 f) (pick z (T.Refused 22) (go L.Operators 0 a b 0 0 0 f))))
        ≡ following (pick x (refused 22 n) (pick y (aws 0 ms) (pick z (refused 22 n) (operators 0 ms)))) (judge ts (at L.Row 0 a b 0 0 0 f))
    by true y z = refl
    by false true z = aws-members ms ts a b 0 f
    by false false true = refl
    by false false false = operator-members ms ts a b 0 f

row-members : (ms : Tree named) (ts : List Token) (a b : ℕ) (f : Bool)
    → judge (flat ms ts) (at L.Row 0 a b 0 0 0 f) ≡ following (row b ms) (judge ts (at (behind_row f) 0 a 0 0 0 0 false))
row-members (end_object n) ts a b f = close-step (row_whole b) n ts (at (behind_row f) 0 a 0 0 0 0 false)
row-members (member n x v ms) ts a b f =
    let k = row_kind x in
    let e = add b (row_slot (row_kind x)) in
    name-step (is_bad k (row_slot k) b) n (flat v (flat ms ts)) (at L.Row k a e 0 0 0 f)
    (row_value k v) (row e ms) (judge ts (at (behind_row f) 0 a 0 0 0 0 false))
    (row-value v (flat ms ts) k a e f ∙ ap (following (row_value k v)) (row-members ms ts a e f))

each_row_lem : (es : Tree several) (ts : List Token) (a : ℕ)
    → judge (flat es ts) (at L.Rows 0 a 0 0 0 0 false) ≡ following (each_row es) (judge ts (at L.Top 0 a 0 0 0 0 false))
each_row_lem (end_list n) ts a = refl
each_row_lem (element (text n bs) es) ts a = refl
each_row_lem (element (other n) es) ts a = refl
each_row_lem (element (list n xs) es) ts a = refl
each_row_lem (element (object n ms) es) ts a =
    row-members ms (flat es ts) a 0 true ∙ ap (following (row 0 ms)) (each_row_lem es ts a)
    ∙ sym (regroup (row 0 ms) (each_row es) (judge ts (at L.Top 0 a 0 0 0 0 false)))

top-value : (v : Tree one) (ts : List Token) (k a : ℕ)
    → judge (flat v ts) (at L.Top k a 0 0 0 0 false) ≡ following (top_value k v) (judge ts (at L.Top 0 a 0 0 0 0 false))
top-value (text n bs) ts k a = by (eqb k 1) (same_bytes bs version_text)
  where
    by : (x w : Bool)
        → after_turn (judge ts) n (pick x (pick w (go L.Top 0 a 0 0 0 0 false) (T.Refused 22)) (T.Refused 22))
        ≡ following (pick x (pick w fine (refused 22 n)) (refused 22 n)) (judge ts (at L.Top 0 a 0 0 0 0 false))
    by true true = refl
    by true false = refl
    by false w = refl
top-value (other n) ts k a = by (eqb k 1)
  where
    by : (x : Bool) → refused 22 n ≡ following (pick x (refused 22 n) (refused 22 n)) (judge ts (at L.Top 0 a 0 0 0 0 false))
    by true = refl
    by false = refl
top-value (list n es) ts k a = by (eqb k 1)
  where
    by : (x : Bool)
        → after_turn (judge (flat es ts)) n (pick x (T.Refused 22) (go L.Rows 0 a 0 0 0 0 false))
        ≡ following (pick x (refused 22 n) (each_row es)) (judge ts (at L.Top 0 a 0 0 0 0 false))
    by true = refl
    by false = each_row_lem es ts a
top-value (object n ms) ts k a = by (eqb k 1)
  where
    by : (x : Bool)
        → after_turn (judge (flat ms ts)) n (pick x (T.Refused 22) (go L.Row 0 a 0 0 0 0 false))
        ≡ following (pick x (refused 22 n) (row 0 ms)) (judge ts (at L.Top 0 a 0 0 0 0 false))
    by true = refl
    by false = row-members ms ts a 0 false

top-members : (ms : Tree named) (ts : List Token) (a : ℕ)
    → judge (flat ms ts) (at L.Top 0 a 0 0 0 0 false) ≡ following (top a ms) (judge ts (at L.Outside 0 0 0 0 0 0 false))
top-members (end_object n) ts a = close-step (top_whole a) n ts (at L.Outside 0 0 0 0 0 0 false)
top-members (member n x v ms) ts a =
    let k = top_kind x in
    name-step (is_bad k k a) n (flat v (flat ms ts)) (at L.Top k (add a k) 0 0 0 0 false)
    (top_value k v) (top (add a k) ms) (judge ts (at L.Outside 0 0 0 0 0 0 false))
    (top-value v (flat ms ts) k (add a k) ∙ ap (following (top_value k v)) (top-members ms ts (add a k)))

at-end : (v : Verdict) → following v fine ≡ v
at-end fine = refl
at-end (refused n p) = refl

-- the pass over a document's tokens gives what is said of its tree
pub judged : (v : Tree one) → judge (flat v []) (at L.Outside 0 0 0 0 0 0 false) ≡ document v
judged (text n bs) = refl
judged (other n) = refl
judged (list n es) = refl
judged (object n ms) = top-members ms [] 0 ∙ at-end (top 0 ms)
