-- The wishes of a document, from its tokens as they come.
use Rattle.std.specs.Prelude.{ℕ, zero, suc, List, [], ◌∷◌}
use Rattle.json_text.specs.Machinery.Tokens.{Token}
use Rattle.json_text.specs.Machinery.Tokens.Token.{name, text, other, open-list, close-list, open-object, close-object}
use Rattle.stored.specs.Operators.{row_of}
use Rattle.stored.specs.Entries.Entry.{start, column, condition, end}
use Rattle.stored.specs.declared.items.Operator.{Operator}
use Rattle.stored.specs.declared.items.Key.{Key}
use Rattle.stored.specs.declared.items.Sort.{Sort}
use Rattle.stored.specs.declared.items.Sort.TheVariants as S
use Rattle.members.specs.Members.{top_kind, row_kind, operator_kind, key_kind, row_slot, itself}
use Rattle.records.specs.Documents.{operator_at, key_at, column_at}
use Rattle.records.specs.Wishes.{Wish, string_wish, effect_wish}
use Rattle.records.specs.Wishes.Wish.{made, empty}
use Rattle.records.specs.Machinery.Walkers.{Sought, next_place, seek}

-- no list is open; one that began at a place is still empty; one has a string
pub data Hold : Type 0 where
  outside : Hold
  fresh : ℕ → Hold
  filled : Hold

-- a string or a list of strings, perhaps under a name, then others
module _ (s : Sort) (r : List Wish) where
  abbrev pub after_string : (Hold → List Wish) → Hold → List Wish
  after_string go outside = r
  after_string go (fresh n) = go filled
  after_string go filled = go filled

  abbrev pub closing : Hold → List Wish
  closing outside = r
  closing (fresh n) = empty n ∷ r
  closing filled = r

  abbrev pub values_from : List Token → Hold → List Wish
  values_from [] h = r
  values_from (name n x ∷ ts) h = values_from ts h
  values_from (text n x ∷ ts) h = string_wish s n x ∷ after_string (values_from ts) h
  values_from (other n ∷ ts) h = r
  values_from (open-list n ∷ ts) h = values_from ts (fresh n)
  values_from (close-list n ∷ ts) h = closing h
  values_from (open-object n ∷ ts) h = values_from ts h
  values_from (close-object n ∷ ts) h = r

-- where the reader of conditions stands
pub data Spot : Type 0 where
  before : Spot
  operators : Spot
  operator : Operator → Spot
  keys : Operator → Spot
  key : Operator → Key → Spot
  -- the condition is wished for, its value not yet
  value : Operator → Spot
  empty_list : Operator → ℕ → Spot
  filled_list : Operator → Spot

module _ (r : List Wish) where
  abbrev pub on_name : (Spot → List Wish) → List ℕ → Spot → List Wish
  on_name go x before = r
  on_name go x operators = go (operator (operator_at (operator_kind x)))
  on_name go x (operator o) = r
  on_name go x (keys o) = go (key o (key_at (key_kind x)))
  on_name go x (key o k) = r
  on_name go x (value o) = r
  on_name go x (empty_list o n) = r
  on_name go x (filled_list o) = r

  abbrev pub on_text : (Spot → List Wish) → ℕ → List ℕ → Spot → List Wish
  on_text go n x before = r
  on_text go n x operators = r
  on_text go n x (operator o) = r
  on_text go n x (keys o) = r
  on_text go n x (key o k) = made n (condition o k) ∷ string_wish (row_of o).sort n x ∷ go (keys o)
  on_text go n x (value o) = string_wish (row_of o).sort n x ∷ go (keys o)
  on_text go n x (empty_list o m) = string_wish (row_of o).sort n x ∷ go (filled_list o)
  on_text go n x (filled_list o) = string_wish (row_of o).sort n x ∷ go (filled_list o)

  abbrev pub on_list : (Spot → List Wish) → ℕ → Spot → List Wish
  on_list go n before = r
  on_list go n operators = r
  on_list go n (operator o) = r
  on_list go n (keys o) = r
  on_list go n (key o k) = made n (condition o k) ∷ go (empty_list o n)
  on_list go n (value o) = go (empty_list o n)
  on_list go n (empty_list o m) = r
  on_list go n (filled_list o) = r

  abbrev pub on_list_end : (Spot → List Wish) → Spot → List Wish
  on_list_end go before = r
  on_list_end go operators = r
  on_list_end go (operator o) = r
  on_list_end go (keys o) = r
  on_list_end go (key o k) = r
  on_list_end go (value o) = r
  on_list_end go (empty_list o n) = empty n ∷ go (keys o)
  on_list_end go (filled_list o) = go (keys o)

  abbrev pub on_object : (Spot → List Wish) → Spot → List Wish
  on_object go before = go operators
  on_object go operators = r
  on_object go (operator o) = go (keys o)
  on_object go (keys o) = r
  on_object go (key o k) = r
  on_object go (value o) = r
  on_object go (empty_list o n) = r
  on_object go (filled_list o) = r

  abbrev pub on_object_end : (Spot → List Wish) → Spot → List Wish
  on_object_end go before = r
  on_object_end go operators = r
  on_object_end go (operator o) = r
  on_object_end go (keys o) = go operators
  on_object_end go (key o k) = r
  on_object_end go (value o) = r
  on_object_end go (empty_list o n) = r
  on_object_end go (filled_list o) = r

  abbrev pub conditions_from : List Token → Spot → List Wish
  conditions_from [] p = r
  conditions_from (name n x ∷ ts) p = on_name (conditions_from ts) x p
  conditions_from (text n x ∷ ts) p = on_text (conditions_from ts) n x p
  conditions_from (other n ∷ ts) p = r
  conditions_from (open-list n ∷ ts) p = on_list (conditions_from ts) n p
  conditions_from (close-list n ∷ ts) p = on_list_end (conditions_from ts) p
  conditions_from (open-object n ∷ ts) p = on_object (conditions_from ts) p
  conditions_from (close-object n ∷ ts) p = on_object_end (conditions_from ts) p

abbrev pub effect_on : List Token → Wish
effect_on [] = effect_wish 0 []
effect_on (name n x ∷ ts) = effect_wish n []
effect_on (text n x ∷ ts) = effect_wish n x
effect_on (other n ∷ ts) = effect_wish n []
effect_on (open-list n ∷ ts) = effect_wish n []
effect_on (close-list n ∷ ts) = effect_wish n []
effect_on (open-object n ∷ ts) = effect_wish n []
effect_on (close-object n ∷ ts) = effect_wish n []

abbrev pub effect_from : Sought → Wish
effect_from Sought.none = effect_wish 0 []
effect_from (Sought.found k ts) = effect_on ts

abbrev pub element_from : Sought → List Wish → List Wish
element_from Sought.none r = r
element_from (Sought.found k ts) r = made (next_place ts) (column (column_at k)) ∷ values_from S.Text r ts outside

abbrev pub condition_from : Sought → List Wish → List Wish
condition_from Sought.none r = r
condition_from (Sought.found k ts) r = conditions_from r ts before

-- one statement, from the tokens of its members, then others
abbrev pub row_from : List Token → List Wish → List Wish
row_from ts r =
    effect_from (seek row_kind row_slot 2 ts 0)
    ∷ element_from (seek row_kind row_slot 3 ts 0)
    (element_from (seek row_kind row_slot 4 ts 0)
    (element_from (seek row_kind row_slot 5 ts 0)
    (condition_from (seek row_kind row_slot 6 ts 0) r)))

-- the statements: before them, or so many brackets inside their list
pub data Among : Type 0 where
  begin : Among
  inside : ℕ → Among

module _ (r : List Wish) where
  abbrev pub deeper : (Among → List Wish) → Among → List Wish
  deeper go begin = go (inside 0)
  deeper go (inside d) = go (inside (suc d))

  abbrev pub row : (Among → List Wish) → List Token → Among → List Wish
  row go ts begin = row_from ts r
  row go ts (inside zero) = row_from ts (go (inside 1))
  row go ts (inside (suc d)) = go (inside (suc (suc d)))

  abbrev pub higher : (Among → List Wish) → Among → List Wish
  higher go begin = r
  higher go (inside zero) = r
  higher go (inside (suc d)) = go (inside d)

  abbrev pub rows_from : List Token → Among → List Wish
  rows_from [] a = r
  rows_from (name n x ∷ ts) a = rows_from ts a
  rows_from (text n x ∷ ts) a = rows_from ts a
  rows_from (other n ∷ ts) a = rows_from ts a
  rows_from (open-list n ∷ ts) a = deeper (rows_from ts) a
  rows_from (close-list n ∷ ts) a = higher (rows_from ts) a
  rows_from (open-object n ∷ ts) a = row (rows_from ts) ts a
  rows_from (close-object n ∷ ts) a = higher (rows_from ts) a

-- how many they are
abbrev pub counted : (Among → ℕ) → Among → ℕ
counted go begin = 1
counted go (inside zero) = suc (go (inside 1))
counted go (inside (suc d)) = go (inside (suc (suc d)))

abbrev pub counted_deeper : (Among → ℕ) → Among → ℕ
counted_deeper go begin = go (inside 0)
counted_deeper go (inside d) = go (inside (suc d))

abbrev pub counted_higher : (Among → ℕ) → Among → ℕ
counted_higher go begin = 0
counted_higher go (inside zero) = 0
counted_higher go (inside (suc d)) = go (inside d)

abbrev pub count_from : List Token → Among → ℕ
count_from [] a = 0
count_from (name n x ∷ ts) a = count_from ts a
count_from (text n x ∷ ts) a = count_from ts a
count_from (other n ∷ ts) a = count_from ts a
count_from (open-list n ∷ ts) a = counted_deeper (count_from ts) a
count_from (close-list n ∷ ts) a = counted_higher (count_from ts) a
count_from (open-object n ∷ ts) a = counted (count_from ts) a
count_from (close-object n ∷ ts) a = counted_higher (count_from ts) a

abbrev pub statement_from : Sought → List Wish
statement_from Sought.none = made 0 (start 0) ∷ made 0 end ∷ []
statement_from (Sought.found k ts) = made (next_place ts) (start (count_from ts begin)) ∷ rows_from (made 0 end ∷ []) ts begin

-- the wishes of a document, from its tokens
abbrev pub document_from : List Token → List Wish
document_from [] = []
document_from (name n x ∷ ts) = []
document_from (text n x ∷ ts) = []
document_from (other n ∷ ts) = []
document_from (open-list n ∷ ts) = []
document_from (close-list n ∷ ts) = []
document_from (open-object n ∷ ts) = statement_from (seek top_kind itself 2 ts 0)
document_from (close-object n ∷ ts) = []
