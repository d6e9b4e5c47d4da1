-- JSON values without their places, how they are printed, and the tree that the printed text says.
use Rattle.std.specs.Prelude.{ℕ, suc, ◌<◌, ◌≡◌, Bool, true, false, List, [], ◌∷◌, eqb, length}
use Rattle.json_text.specs.Choice.{pick}
use Rattle.json_text.specs.Grammar.{Part}
use Rattle.json_text.specs.Trees.{Shape, Tree, Made}
use Rattle.json_text.specs.Trees.Shape.{one, several, named}
use Rattle.stored.specs.Values.{in_range}

-- a string; a list of values; an object with named values
pub data Value : Shape → Type 0 where
  text : List ℕ → Value one
  list : Value several → Value one
  object : Value named → Value one
  end_list : Value several
  element : Value one → Value several → Value several
  end_object : Value named
  member : List ℕ → Value one → Value named → Value named

-- a byte of a string: quote and backslash behind a backslash
abbrev pub needs_escape : ℕ → Bool
needs_escape b = pick (eqb b 0x22) true (eqb b 0x5C)

abbrev pub letter : Bool → ℕ → List ℕ → List ℕ
letter true b s = 0x5C ∷ b ∷ s
letter false b s = b ∷ s

-- a string behind its opening quote, in front of a text
abbrev pub letters : List ℕ → List ℕ → List ℕ
letters [] r = 0x22 ∷ r
letters (b ∷ bs) r = letter (needs_escape b) b (letters bs r)

-- a comma behind an element or a member
abbrev pub comma : Bool → List ℕ → List ℕ
comma true s = 0x2C ∷ s
comma false s = s

-- a value, the rest of a list or of an object, in front of a text; the test says whether an element or a member stands before it
abbrev pub print : {k : Shape} → Bool → Value k → List ℕ → List ℕ
print b (text bs) r = 0x22 ∷ letters bs r
print b (list es) r = 0x5B ∷ print false es r
print b (object ms) r = 0x7B ∷ print false ms r
print b end_list r = 0x5D ∷ r
print b (element v es) r = comma b (print false v (print true es r))
print b end_object r = 0x7D ∷ r
print b (member x v ms) r = comma b (0x22 ∷ letters x (0x3A ∷ print false v (print true ms r)))

-- the part of the grammar that it is
abbrev pub part_of : Bool → Shape → Part
part_of b one = Part.value
part_of false several = Part.elements
part_of true several = Part.more_elements
part_of false named = Part.members
part_of true named = Part.more_members

abbrev pub as_tree : (b : Bool) (k : Shape) → Made (part_of b k) → Tree k
as_tree false one t = t
as_tree true one t = t
as_tree false several t = t
as_tree true several t = t
as_tree false named t = t
as_tree true named t = t

-- where so many brackets are open: no string has a byte outside 21 to 7E hex, and no bracket is the ninth
abbrev pub Sound : {k : Shape} → ℕ → Value k → Type 0
Sound n (text bs) = in_range bs ≡ true
Sound n (list es) = (n < 8) × Sound (suc n) es
Sound n (object ms) = (n < 8) × Sound (suc n) ms
Sound n end_list = Unit {0}
Sound n (element v es) = Sound n v × Sound n es
Sound n end_object = Unit {0}
Sound n (member x v ms) = (in_range x ≡ true) × Sound n v × Sound n ms

-- the tree that the printed text says
abbrev pub located : {k : Shape} → Value k → List ℕ → Tree k
located (text bs) r = Tree.text (suc (length (letters bs r))) bs
located (list es) r = Tree.list (suc (length (print false es r))) (located es r)
located (object ms) r = Tree.object (suc (length (print false ms r))) (located ms r)
located end_list r = Tree.end_list (suc (length r))
located (element v es) r = Tree.element (located v (print true es r)) (located es r)
located end_object r = Tree.end_object (suc (length r))
located (member x v ms) r =
    Tree.member (suc (length (letters x (0x3A ∷ print false v (print true ms r))))) x (located v (print true ms r)) (located ms r)
