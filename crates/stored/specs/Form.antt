-- Which lists of statements are tables: the shape of a statement, what its lists may hold (RULES 2.3 to 2.6), and the entries that
-- statements stand for.
use Rattle.std.specs.Prelude.{ℕ, ◌+◌, ◌≤◌, ◌<◌, ◌≡◌, List, [], ◌∷◌, true, false, ◌⊎◌, length}
use Rattle.stored.specs.Choice.{In}
use Rattle.stored.specs.Items.{column_place, key_sort}
use Rattle.stored.specs.Operators.{row_of}
use Rattle.stored.specs.Values.{in_range, has_variable, has_wildcard, is_star_alone}
use Rattle.stored.specs.Networks.{network_sound}
use Rattle.stored.specs.Entries.{Entry}
use Rattle.stored.specs.Entries.Entry.{start, statement, column, condition, network, value, end}
use Rattle.stored.specs.declared.items.Sort.{Sort}
use Rattle.stored.specs.declared.items.Sort.TheVariants as S
use Rattle.stored.specs.Tables.{Listed, Element, Condition, Statement}
use Rattle.stored.specs.Tables.Listed.{text, range}

-- the entries that lists, elements, conditions and statements stand for, in front of others
abbrev pub listed_for : List Listed → List Entry → List Entry
listed_for [] es = es
listed_for (text bs ∷ l) es = value bs ∷ listed_for l es
listed_for (range a n ∷ l) es = network a n ∷ listed_for l es

abbrev pub elements_for : List Element → List Entry → List Entry
elements_for [] es = es
elements_for (e ∷ l) es = column e.name ∷ listed_for e.values (elements_for l es)

abbrev pub conditions_for : List Condition → List Entry → List Entry
conditions_for [] es = es
conditions_for (c ∷ l) es = condition c.operator c.key ∷ listed_for c.values (conditions_for l es)

abbrev pub statements_for : List Statement → List Entry
statements_for [] = end ∷ []
statements_for (s ∷ l) = statement s.effect ∷ elements_for s.elements (conditions_for s.conditions (statements_for l))

-- the entries of a table with these statements: their number, the statements, the end
abbrev pub entries_for : List Statement → List Entry
entries_for rows = start (length rows) ∷ statements_for rows

-- the columns of elements, one after the other
abbrev pub places_of : List Element → List ℕ
places_of [] = []
places_of (e ∷ es) = column_place e.name ∷ places_of es

-- how many values and networks elements list together, and conditions
abbrev pub elements_list : List Element → ℕ
elements_list [] = 0
elements_list (e ∷ es) = length e.values + elements_list es

abbrev pub conditions_list : List Condition → ℕ
conditions_list [] = 0
conditions_list (c ∷ cs) = length c.values + conditions_list cs

-- how many values and networks a statement holds
abbrev pub held_by : Statement → ℕ
held_by s = elements_list s.elements + conditions_list s.conditions

-- a statement as the stored form has it: principal, action, resource in that order and no other element, each with one value or more;
-- 0 to 4 conditions, each with one value or more (a network counts as one); at most 64 values and networks together
pub record WellFormed (s : Statement) : Type 0 where
  pub in_order : places_of s.elements ≡ 0 ∷ 1 ∷ 2 ∷ []
  pub elements_filled : (e : Element) → In e s.elements → 0 < length e.values
  pub few_conditions : length s.conditions ≤ 4
  pub conditions_filled : (c : Condition) → In c s.conditions → 0 < length c.values
  pub few_values : held_by s ≤ 64

-- what a list of a sort may hold: texts of 1 to 128 bytes, each of 21 to 7E hex, without `${`; or networks with a length of at most 32 and
-- the bits after the length zero
abbrev pub MayHold : Sort → Listed → Type 0
MayHold S.Text (text bs) = (0 < length bs) × (length bs ≤ 128) × (in_range bs ≡ true) × (has_variable bs ≡ false)
MayHold S.Text (range a n) = ⊥
MayHold S.Address (text bs) = ⊥
MayHold S.Address (range a n) = network_sound a n ≡ true

-- a principal is `*` alone, or has neither `*` nor `?`
abbrev pub IsPrincipal : List ℕ → Type 0
IsPrincipal bs = (is_star_alone bs ≡ true) ⊎ (has_wildcard bs ≡ false)

-- an element lists texts, and those of column 0 are principals
pub record SoundElement (e : Element) : Type 0 where
  pub holds : (x : Listed) → In x e.values → MayHold S.Text x
  pub principals : column_place e.name ≡ 0 → (bs : List ℕ) → In (text bs) e.values → IsPrincipal bs

-- the operator and the key of a condition are of one sort, and so is what it lists
pub record SoundCondition (c : Condition) : Type 0 where
  pub one_sort : (row_of c.operator).sort ≡ key_sort c.key
  pub holds : (x : Listed) → In x c.values → MayHold (key_sort c.key) x

-- a statement whose elements and conditions list only what they may
pub record SoundStatement (s : Statement) : Type 0 where
  pub elements : (e : Element) → In e s.elements → SoundElement e
  pub conditions : (c : Condition) → In c s.conditions → SoundCondition c
