-- A printed value is one of the grammar, and its tree is the value with its places.
use Rattle.std.proofs.Common.{ℕ, suc, ◌≡◌, refl, ◌∙◌, ap, Bool, true, false, not, ◌&&◌, ◌||◌, List, [], ◌∷◌, eqb, leb, arith, leb-true, le-leb}
use Rattle.json_text.specs.Bytes.{is_simple, is_plain}
use Rattle.json_text.specs.Choice.{pick}
use Rattle.json_text.specs.Grammar.{Characters, Reads, Blanks, Text}
use Rattle.json_text.specs.Trees.{Shape, bytes_of, tree_of}
use Rattle.json_text.specs.Trees.Shape.{one}
use Rattle.json_text.proofs.Choosing.{never, both_left, both_right}
use Rattle.stored.specs.Values.{byte_in_range, in_range}
use Rattle.printed.specs.Machinery.Values.{Value, needs_escape, letter, letters, print, part_of, as_tree, Sound, located}
use Rattle.printed.specs.Machinery.Values.Value.{text, list, object, end_list, element, end_object, member}

-- a byte that needs an escape has one, and any other is plain
simple : (b : ℕ) → needs_escape b ≡ true → is_simple b ≡ true
simple b e = go (eqb b 0x22) (eqb b 0x5C) (eqb b 0x2F) e
  where
    go : (x y z : Bool) → pick x true y ≡ true → (x || (y || z)) ≡ true
    go true y z e = refl
    go false true z e = refl
    go false false z e = never (cc)

plain : (b : ℕ) → needs_escape b ≡ false → byte_in_range b ≡ true → is_plain b ≡ true
plain b e h =
    let l = leb-true 0x21 b (both_left (leb 0x21 b) (leb b 0x7E) h) in
    let m = leb-true b 0x7E (both_right (leb 0x21 b) (leb b 0x7E) h) in
    rw (le-leb 0x20 b (omega arith), le-leb b 0x7F (omega arith)) (go (eqb b 0x22) (eqb b 0x5C) e)
  where
    go : (x y : Bool) → pick x true y ≡ false → (not x && not y) ≡ true
    go true y e = never (cc)
    go false true e = never (cc)
    go false false e = refl

-- one byte more in front of a string, with the bytes that it says
one_more : (x : Bool) (b : ℕ) (s r : List ℕ) → needs_escape b ≡ x → byte_in_range b ≡ true → Characters s r → Characters (letter x b s) r
one_more true b s r e h c = Characters.escape (simple b e) c
one_more false b s r e h c = Characters.plain (plain b e h) c

one-said : (x : Bool) (b : ℕ) (s r : List ℕ) (e : needs_escape b ≡ x) (h : byte_in_range b ≡ true) (c : Characters s r)
    → bytes_of (one_more x b s r e h c) ≡ b ∷ bytes_of c
unfolding one_more
one-said true b s r e h c = refl
one-said false b s r e h c = refl

pub characters : (bs r : List ℕ) → in_range bs ≡ true → Characters (letters bs r) r
characters [] r h = Characters.close
characters (b ∷ bs) r h =
    one_more (needs_escape b) b (letters bs r) r refl (both_left (byte_in_range b) (in_range bs) h)
    (characters bs r (both_right (byte_in_range b) (in_range bs) h))

pub said : (bs r : List ℕ) (h : in_range bs ≡ true) → bytes_of (characters bs r h) ≡ bs
unfolding characters
said [] r h = refl
said (b ∷ bs) r h =
    one-said (needs_escape b) b (letters bs r) r refl (both_left (byte_in_range b) (in_range bs) h) (characters bs r (both_right (byte_in_range b) (in_range bs) h))
    ∙ ap (λ (xs : List ℕ). b ∷ xs) (said bs r (both_right (byte_in_range b) (in_range bs) h))

pub reads : {k : Shape} (b : Bool) (v : Value k) (n : ℕ) → Sound n v → (r : List ℕ) → Reads (part_of b k) n (print b v r) r
reads b (text bs) n h r = Reads.string (characters bs r h)
reads b (list es) n h r = Reads.list h.0 (reads false es (suc n) h.1 r)
reads b (object ms) n h r = Reads.object h.0 (reads false ms (suc n) h.1 r)
reads false end_list n h r = Reads.no_element
reads true end_list n h r = Reads.end_elements
reads false (element v es) n h r = Reads.first_element (reads false v n h.0 (print true es r)) (reads true es n h.1 r)
reads true (element v es) n h r = Reads.next_element (reads false v n h.0 (print true es r)) (reads true es n h.1 r)
reads false end_object n h r = Reads.no_member
reads true end_object n h r = Reads.end_members
reads false (member x v ms) n h r =
    Reads.first_member (Reads.named (characters x (0x3A ∷ print false v (print true ms r)) h.0)
    (Reads.content (reads false v n h.1 (print true ms r)) (reads true ms n h.2 r)))
reads true (member x v ms) n h r =
    Reads.next_member (Reads.named (characters x (0x3A ∷ print false v (print true ms r)) h.0)
    (Reads.content (reads false v n h.1 (print true ms r)) (reads true ms n h.2 r)))

pub tree-said : {k : Shape} (b : Bool) (v : Value k) (n : ℕ) (h : Sound n v) (r : List ℕ) → as_tree b k (tree_of (reads b v n h r)) ≡ located v r
unfolding reads
tree-said false (text bs) n h r = rw (said bs r h)
tree-said true (text bs) n h r = rw (said bs r h)
tree-said false (list es) n h r = rw (tree-said false es (suc n) h.1 r)
tree-said true (list es) n h r = rw (tree-said false es (suc n) h.1 r)
tree-said false (object ms) n h r = rw (tree-said false ms (suc n) h.1 r)
tree-said true (object ms) n h r = rw (tree-said false ms (suc n) h.1 r)
tree-said false end_list n h r = refl
tree-said true end_list n h r = refl
tree-said false (element v es) n h r = rw (tree-said false v n h.0 (print true es r), tree-said true es n h.1 r)
tree-said true (element v es) n h r = rw (tree-said false v n h.0 (print true es r), tree-said true es n h.1 r)
tree-said false end_object n h r = refl
tree-said true end_object n h r = refl
tree-said false (member x v ms) n h r =
    rw (said x (0x3A ∷ print false v (print true ms r)) h.0, tree-said false v n h.1 (print true ms r), tree-said true ms n h.2 r)
tree-said true (member x v ms) n h r =
    rw (said x (0x3A ∷ print false v (print true ms r)) h.0, tree-said false v n h.1 (print true ms r), tree-said true ms n h.2 r)

-- a printed value is a text
pub text_of : (v : Value one) → Sound 0 v → Text (print false v [])
text_of v h = record { behind = []; value_first = reads false v 0 h []; blanks_then = Blanks.none }

pub text-tree : (v : Value one) (h : Sound 0 v) → tree_of (text_of v h).value_first ≡ located v []
unfolding text_of
text-tree v h = tree-said false v 0 h []
