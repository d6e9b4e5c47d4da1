-- What a text says: the tree of its values, read off the way in which it is one of the grammar. Each value, name, closing bracket and closing
-- brace has its place, given by the number of bytes that are left there, its own first byte among them.
use Rattle.std.specs.Prelude.{ℕ, suc, ◌+◌, ◌*◌, ◌%◌, List, [], ◌∷◌, length}
use Rattle.json_text.specs.Bytes.{hex_of}
use Rattle.json_text.specs.Grammar.{Characters, Part, Reads}

-- the bytes that a string says, its escapes read: a code below 80 hex is the byte of that number
abbrev pub bytes_of : {s r : List ℕ} → Characters s r → List ℕ
bytes_of Characters.close = []
bytes_of (Characters.plain {a = a} e c) = a ∷ bytes_of c
bytes_of (Characters.escape {a = a} e c) = a ∷ bytes_of c
bytes_of (Characters.code {a = a} {b = b} e f c) = (a % 8 * 16 + hex_of b) ∷ bytes_of c
bytes_of (Characters.two {a = a} {b = b} e f c) = a ∷ b ∷ bytes_of c
bytes_of (Characters.e0 {b = b} {c = c} e f x) = 0xE0 ∷ b ∷ c ∷ bytes_of x
bytes_of (Characters.low_three {a = a} {b = b} {c = c} e f g x) = a ∷ b ∷ c ∷ bytes_of x
bytes_of (Characters.ed {b = b} {c = c} e f x) = 0xED ∷ b ∷ c ∷ bytes_of x
bytes_of (Characters.high_three {a = a} {b = b} {c = c} e f g x) = a ∷ b ∷ c ∷ bytes_of x
bytes_of (Characters.f0 {b = b} {c = c} {d = d} e f g x) = 0xF0 ∷ b ∷ c ∷ d ∷ bytes_of x
bytes_of (Characters.four {a = a} {b = b} {c = c} {d = d} e f g h x) = a ∷ b ∷ c ∷ d ∷ bytes_of x
bytes_of (Characters.f4 {b = b} {c = c} {d = d} e f g x) = 0xF4 ∷ b ∷ c ∷ d ∷ bytes_of x

-- what a tree is of: one value, several elements, named members
pub data Shape : Type 0 where
  one several named : Shape

-- a value (`other` is a number or a word: true, false, null); the elements of a list, up to its closing bracket; the members of an object, up
-- to its closing brace
pub data Tree : Shape → Type 0 where
  text : ℕ → List ℕ → Tree one
  other : ℕ → Tree one
  list : ℕ → Tree several → Tree one
  object : ℕ → Tree named → Tree one
  end_list : ℕ → Tree several
  element : Tree one → Tree several → Tree several
  end_object : ℕ → Tree named
  member : ℕ → List ℕ → Tree one → Tree named → Tree named

-- what each part makes
abbrev pub Made : Part → Type 0
Made Part.value = Tree one
Made Part.elements = Tree several
Made Part.more_elements = Tree several
Made Part.members = Tree named
Made Part.more_members = Tree named
Made Part.member = Tree named
Made Part.colon = Tree one × Tree named

-- a place is that of the first byte: a quote, a digit or a minus, a letter, a bracket
abbrev pub tree_of : {p : Part} {n : ℕ} {s r : List ℕ} → Reads p n s r → Made p
tree_of (Reads.blank e d) = tree_of d
tree_of (Reads.string {s = s} c) = text (suc (length s)) (bytes_of c)
tree_of (Reads.true_word {r = r}) = other (length (0x74 ∷ 0x72 ∷ 0x75 ∷ 0x65 ∷ r))
tree_of (Reads.false_word {r = r}) = other (length (0x66 ∷ 0x61 ∷ 0x6C ∷ 0x73 ∷ 0x65 ∷ r))
tree_of (Reads.null_word {r = r}) = other (length (0x6E ∷ 0x75 ∷ 0x6C ∷ 0x6C ∷ r))
tree_of (Reads.number {s = s} u) = other (length s)
tree_of (Reads.negative {s = s} u) = other (suc (length s))
tree_of (Reads.list {s = s} m d) = list (suc (length s)) (tree_of d)
tree_of (Reads.no_element {r = r}) = end_list (suc (length r))
tree_of (Reads.first_element d e) = element (tree_of d) (tree_of e)
tree_of (Reads.end_elements {r = r}) = end_list (suc (length r))
tree_of (Reads.next_element d e) = element (tree_of d) (tree_of e)
tree_of (Reads.object {s = s} m d) = object (suc (length s)) (tree_of d)
tree_of (Reads.no_member {r = r}) = end_object (suc (length r))
tree_of (Reads.first_member d) = tree_of d
tree_of (Reads.end_members {r = r}) = end_object (suc (length r))
tree_of (Reads.next_member d) = tree_of d
tree_of (Reads.named {s = s} c d) = member (suc (length s)) (bytes_of c) (tree_of d).0 (tree_of d).1
tree_of (Reads.content d e) = (tree_of d, tree_of e)
