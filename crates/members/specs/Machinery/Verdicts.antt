-- The verdict on a document: the first of its faults, as one walk over the tree meets it, with the members met as the bits of a number.
use Rattle.std.specs.Prelude.{ℕ, ◌/◌, ◌%◌, ◌^◌, Bool, true, ◌&&◌, ◌||◌, List, eqb, leb}
use Rattle.std.specs.Int.Bits.{bit_or}
use Rattle.json_text.specs.Choice.{pick, same_bytes}
use Rattle.json_text.specs.Texts.{ascii}
use Rattle.json_text.specs.Trees.{Tree}
use Rattle.json_text.specs.Trees.Shape.{one, several, named}
use Rattle.json_text.specs.Trees.Tree.{text, other, list, object, end_list, element, end_object, member}
use Rattle.members.specs.Members.{Verdict, version_text, top_kind, row_kind, aws_kind, operator_kind, key_kind, row_slot, itself}
use Rattle.members.specs.Members.Verdict.{fine, refused}

-- the first fault of two
abbrev pub following : Verdict → Verdict → Verdict
following fine v = v
following (refused n at) v = refused n at

-- the members met are the bits of a number
unfoldable pub is_seen : ℕ → ℕ → Bool
is_seen seen slot = eqb (seen / 2 ^ slot % 2) 1

abbrev pub add : ℕ → ℕ → ℕ
add seen slot = bit_or seen (2 ^ slot)

-- unknown, or met before
abbrev pub is_bad : ℕ → ℕ → ℕ → Bool
is_bad kind slot seen = eqb kind 0 || is_seen seen slot

-- the members of an object: which they are, as which each counts, what its value may be, and what must have been met
module _ (kind_of : List ℕ → ℕ) (slot_of : ℕ → ℕ) (check : ℕ → Tree one → Verdict) (whole : ℕ → Bool) where
  abbrev pub members : ℕ → Tree named → Verdict
  members seen (end_object n) = pick (whole seen) fine (refused 22 n)
  members seen (member n x v ms) =
      pick (is_bad (kind_of x) (slot_of (kind_of x)) seen) (refused 21 n)
      (following (check (kind_of x) v) (members (add seen (slot_of (kind_of x))) ms))

abbrev pub each_text : Tree several → Verdict
each_text (end_list n) = fine
each_text (element (text n bs) es) = each_text es
each_text (element (other n) es) = refused 22 n
each_text (element (list n xs) es) = refused 22 n
each_text (element (object n ms) es) = refused 22 n

-- a string or a list of strings
abbrev pub strings : Tree one → Verdict
strings (text n bs) = fine
strings (other n) = refused 22 n
strings (list n es) = each_text es
strings (object n ms) = refused 22 n

-- any string
abbrev pub any_text : Tree one → Verdict
any_text (text n bs) = fine
any_text (other n) = refused 22 n
any_text (list n es) = refused 22 n
any_text (object n ms) = refused 22 n

-- this string
abbrev pub this_text : List ℕ → Tree one → Verdict
this_text x (text n bs) = pick (same_bytes bs x) fine (refused 22 n)
this_text x (other n) = refused 22 n
this_text x (list n es) = refused 22 n
this_text x (object n ms) = refused 22 n

-- nothing has to be met
abbrev pub always : ℕ → Bool
always seen = true

abbrev pub keys : ℕ → Tree named → Verdict
keys = members key_kind itself (λ k v. strings v) always

-- what an operator holds
abbrev pub operator : Tree one → Verdict
operator (text n bs) = refused 22 n
operator (other n) = refused 22 n
operator (list n es) = refused 22 n
operator (object n ms) = keys 0 ms

abbrev pub operators : ℕ → Tree named → Verdict
operators = members operator_kind itself (λ k v. operator v) always

-- what Condition holds
abbrev pub condition : Tree one → Verdict
condition (text n bs) = refused 22 n
condition (other n) = refused 22 n
condition (list n es) = refused 22 n
condition (object n ms) = operators 0 ms

abbrev pub aws_whole : ℕ → Bool
aws_whole seen = is_seen seen 1

abbrev pub aws : ℕ → Tree named → Verdict
aws = members aws_kind itself (λ k v. strings v) aws_whole

-- the string *, or an object with the one member AWS
abbrev pub principal : Tree one → Verdict
principal (text n bs) = pick (same_bytes bs (ascii "*")) fine (refused 22 n)
principal (other n) = refused 22 n
principal (list n es) = refused 22 n
principal (object n ms) = aws 0 ms

-- Sid and Effect; the principals; actions and resources; Condition
abbrev pub row_value : ℕ → Tree one → Verdict
row_value k v = pick (leb k 2) (any_text v) (pick (leb k 4) (principal v) (pick (leb k 8) (strings v) (condition v)))

-- Effect, a principal, an action and a resource
abbrev pub row_whole : ℕ → Bool
row_whole seen = is_seen seen 2 && (is_seen seen 3 && (is_seen seen 4 && is_seen seen 5))

abbrev pub row : ℕ → Tree named → Verdict
row = members row_kind row_slot row_value row_whole

abbrev pub each_row : Tree several → Verdict
each_row (end_list n) = fine
each_row (element (text n bs) es) = refused 22 n
each_row (element (other n) es) = refused 22 n
each_row (element (list n xs) es) = refused 22 n
each_row (element (object n ms) es) = following (row 0 ms) (each_row es)

-- a statement or a list of statements
abbrev pub rows : Tree one → Verdict
rows (text n bs) = refused 22 n
rows (other n) = refused 22 n
rows (list n es) = each_row es
rows (object n ms) = row 0 ms

-- Version, and Statement
abbrev pub top_value : ℕ → Tree one → Verdict
top_value k v = pick (eqb k 1) (this_text version_text v) (rows v)

-- Version and Statement
abbrev pub top_whole : ℕ → Bool
top_whole seen = is_seen seen 1 && is_seen seen 2

abbrev pub top : ℕ → Tree named → Verdict
top = members top_kind itself top_value top_whole

-- the whole document
abbrev pub document : Tree one → Verdict
document (text n bs) = refused 22 n
document (other n) = refused 22 n
document (list n es) = refused 22 n
document (object n ms) = top 0 ms
