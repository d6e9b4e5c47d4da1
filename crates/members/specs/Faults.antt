-- All that is wrong with the members of a document, said of its tree: 21 and 22, each at its place, in the order of the text.
use Rattle.std.specs.Prelude.{ℕ, ◌+◌, ◌<◌, ◌≡◌, Bool, true, false, ◌&&◌, ◌||◌, List, [], ◌∷◌, ◌++◌, eqb, leb}
use Rattle.json_text.specs.Choice.{pick, same_bytes}
use Rattle.json_text.specs.Texts.{ascii}
use Rattle.json_text.specs.Trees.{Tree}
use Rattle.json_text.specs.Trees.Shape.{one, several, named}
use Rattle.json_text.specs.Trees.Tree.{text, other, list, object, end_list, element, end_object, member}
use Rattle.members.specs.Members.{top_kind, row_kind, aws_kind, operator_kind, key_kind, row_slot, itself, version_text}
use Rattle.members.specs.Answers.{Checked}
use Rattle.members.specs.Answers.{Checked as C}

-- its number, and its place as the bytes left there
pub record MemberFault : Type 0 where
  pub number : ℕ
  pub left : ℕ

-- 21, at a name: the object has no such member, or has it already
abbrev pub bad_name : ℕ → List MemberFault
bad_name n = record { number = 21; left = n } ∷ []

-- 22, at a value of another type than is due, or at the closing brace of an object that lacks a member
abbrev pub bad_value : ℕ → List MemberFault
bad_value n = record { number = 22; left = n } ∷ []

-- What an object may have

-- a member is among those met; all that are needed are
abbrev pub among : List ℕ → ℕ → Bool
among [] slot = false
among (s ∷ seen) slot = eqb slot s || among seen slot

abbrev pub all_among : List ℕ → List ℕ → Bool
all_among seen [] = true
all_among seen (s ∷ needed) = among seen s && all_among seen needed

-- the members of an object: which a name is (0: none), as which it counts, what its value may be, which ones it needs, and which were met
module _ (kind_of : List ℕ → ℕ) (slot_of : ℕ → ℕ) (value_faults : ℕ → Tree one → List MemberFault) (needed : List ℕ) where
  abbrev pub member_faults : List ℕ → Tree named → List MemberFault
  member_faults seen (end_object n) = pick (all_among seen needed) [] (bad_value n)
  member_faults seen (member n x v ms) =
      pick (eqb (kind_of x) 0) (bad_name n ++ member_faults seen ms)
      (pick (among seen (slot_of (kind_of x))) (bad_name n) []
      ++ (value_faults (kind_of x) v ++ member_faults (slot_of (kind_of x) ∷ seen) ms))

-- Types

-- a string is due
abbrev pub text_faults : Tree one → List MemberFault
text_faults (text n bs) = []
text_faults (other n) = bad_value n
text_faults (list n es) = bad_value n
text_faults (object n ms) = bad_value n

-- this string is due
abbrev pub this_text_faults : List ℕ → Tree one → List MemberFault
this_text_faults x (text n bs) = pick (same_bytes bs x) [] (bad_value n)
this_text_faults x (other n) = bad_value n
this_text_faults x (list n es) = bad_value n
this_text_faults x (object n ms) = bad_value n

abbrev pub each_text_faults : Tree several → List MemberFault
each_text_faults (end_list n) = []
each_text_faults (element v es) = text_faults v ++ each_text_faults es

-- a string or a list of strings is due
abbrev pub string_faults : Tree one → List MemberFault
string_faults (text n bs) = []
string_faults (other n) = bad_value n
string_faults (list n es) = each_text_faults es
string_faults (object n ms) = bad_value n

-- an object is due
abbrev pub object_faults : (Tree named → List MemberFault) → Tree one → List MemberFault
object_faults inside (text n bs) = bad_value n
object_faults inside (other n) = bad_value n
object_faults inside (list n es) = bad_value n
object_faults inside (object n ms) = inside ms

-- The document

-- what an operator holds: keys, each with strings
abbrev pub operator_faults : Tree one → List MemberFault
operator_faults = object_faults (member_faults key_kind itself (λ k v. string_faults v) [] [])

-- Condition: operators
abbrev pub condition_faults : Tree one → List MemberFault
condition_faults = object_faults (member_faults operator_kind itself (λ k v. operator_faults v) [] [])

-- a principal: the string *, or an object with the one member AWS, which holds strings
abbrev pub principal_faults : Tree one → List MemberFault
principal_faults (text n bs) = pick (same_bytes bs (ascii "*")) [] (bad_value n)
principal_faults (other n) = bad_value n
principal_faults (list n es) = bad_value n
principal_faults (object n ms) = member_faults aws_kind itself (λ k v. string_faults v) (1 ∷ []) [] ms

-- a statement's members: Sid and Effect (1, 2), the principals (3, 4), actions and resources (5 to 8), Condition (9)
abbrev pub row_value_faults : ℕ → Tree one → List MemberFault
row_value_faults k v =
    pick (leb k 2) (text_faults v) (pick (leb k 4) (principal_faults v) (pick (leb k 8) (string_faults v) (condition_faults v)))

-- a statement: it needs Effect, a principal, an action and a resource
abbrev pub row_faults : Tree one → List MemberFault
row_faults = object_faults (member_faults row_kind row_slot row_value_faults (2 ∷ 3 ∷ 4 ∷ 5 ∷ []) [])

abbrev pub each_row_faults : Tree several → List MemberFault
each_row_faults (end_list n) = []
each_row_faults (element v es) = row_faults v ++ each_row_faults es

-- a statement or a list of statements
abbrev pub rows_faults : Tree one → List MemberFault
rows_faults (text n bs) = bad_value n
rows_faults (other n) = bad_value n
rows_faults (list n es) = each_row_faults es
rows_faults (object n ms) = row_faults (object n ms)

-- Version (1) and Statement (2)
abbrev pub top_value_faults : ℕ → Tree one → List MemberFault
top_value_faults k v = pick (eqb k 1) (this_text_faults version_text v) (rows_faults v)

-- the document: it needs Version and Statement
abbrev pub faults : Tree one → List MemberFault
faults = object_faults (member_faults top_kind itself top_value_faults (1 ∷ 2 ∷ []) [])

-- Which fault decides

-- every one of these stands further on in the text: fewer bytes are left there
abbrev pub Behind : ℕ → List MemberFault → Type 0
Behind left [] = Unit {0}
Behind left (f ∷ fs) = (f.left < left) × Behind left fs

-- of the faults of a text of so many bytes, one has this number and this place, and all others stand behind it
pub record Lowest (size : ℕ) (fs : List MemberFault) (number place : ℕ) : Type 0 where
  pub fault : MemberFault
  pub others : List MemberFault
  pub both : fs ≡ fault ∷ others
  pub its_number : fault.number ≡ number
  pub its_place : fault.left + place ≡ size
  pub behind : Behind fault.left others

-- what an answer says of the faults of a text of so many bytes
abbrev pub Decides : ℕ → List MemberFault → Checked → Type 0
Decides size fs C.Sound = fs ≡ []
Decides size fs (C.Refused number place) = Lowest size fs number place
