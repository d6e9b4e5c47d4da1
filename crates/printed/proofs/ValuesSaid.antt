-- The printed list of values: it has no fault, it says the values, and each of them is wished for.
use Rattle.std.proofs.Common.{ℕ, suc, ◌^◌, ◌≤◌, ◌<◌, ◌≡◌, refl, ap, Bool, true, ◌&&◌, List, [], ◌∷◌, inl, inr, leb, length, arith, leb-true}
use Rattle.json_text.proofs.Choosing.{both_left}
use Rattle.members.specs.Machinery.Verdicts as Mb
use Rattle.members.specs.Members.Verdict.{fine}
use Rattle.stored.specs.Choice.{In}
use Rattle.stored.specs.Form.{MayHold}
use Rattle.stored.specs.Tables.{Listed}
use Rattle.stored.specs.declared.items.Sort.{Sort}
use Rattle.stored.specs.declared.items.Sort.TheVariants as S
use Rattle.records.specs.Documents.{range, listed_by, listed, each}
use Rattle.records.specs.Wishes.{Wish, string_wish, each_wish, list_wishes}
use Rattle.records.specs.Wishes.Wish.{made, strange, empty, unread}
use Rattle.printed.specs.Machinery.Values.{Value, Sound, located, letters, print}
use Rattle.printed.specs.Machinery.NetworkTexts.{network_text}
use Rattle.printed.specs.Machinery.Plans.{listed_text, listed_values}
use Rattle.printed.proofs.NetworksRead.{network-read, network-shown}

-- an address has 32 bits
abbrev pub Small : Listed → Type 0
Small (Listed.text bs) = Unit {0}
Small (Listed.range a n) = a < 2 ^ 32

-- what a list of a sort may hold
abbrev pub Holds : Sort → List Listed → Type 0
Holds s [] = Unit {0}
Holds s (x ∷ l) = MayHold s x × Small x × Holds s l

-- every wish is an entry
abbrev pub AllMade : List Wish → Type 0
AllMade [] = Unit {0}
AllMade (made n e ∷ ws) = AllMade ws
AllMade (strange n ∷ ws) = ⊥
AllMade (empty n ∷ ws) = ⊥
AllMade (unread n bs ∷ ws) = ⊥

short : (a n : ℕ) (b : Bool) → (leb n 32 && b) ≡ true → n ≤ 32
short a n b e = leb-true n 32 (both_left (leb n 32) b e)

-- one value: printed with bytes of 21 to 7E hex, read as itself, and wished for
text-sound : (s : Sort) (x : Listed) (n : ℕ) → MayHold s x → Small x → Sound n (Value.text (listed_text x))
text-sound S.Text (Listed.text bs) n h f = h.2
text-sound S.Text (Listed.range a m) n h f = absurd h
text-sound S.Address (Listed.text bs) n h f = absurd h
text-sound S.Address (Listed.range a m) n h f = network-shown a m f (short a m _ h)

text-said : (s : Sort) (x : Listed) → MayHold s x → Small x → listed_by s (listed_text x) ≡ x
text-said S.Text (Listed.text bs) h f = refl
text-said S.Text (Listed.range a n) h f = absurd h
text-said S.Address (Listed.text bs) h f = absurd h
text-said S.Address (Listed.range a n) h f = ap (range (network_text a n)) (network-read a n f (short a n _ h))

text-made : (s : Sort) (x : Listed) (n : ℕ) (ws : List Wish) → MayHold s x → Small x → AllMade ws → AllMade (string_wish s n (listed_text x) ∷ ws)
text-made S.Text (Listed.text bs) n ws h f k = k
text-made S.Text (Listed.range a m) n ws h f k = absurd h
text-made S.Address (Listed.text bs) n ws h f k = absurd h
text-made S.Address (Listed.range a m) n ws h f k = rw (network-read a m f (short a m _ h)) k

pub list-sound : (s : Sort) (l : List Listed) (n : ℕ) → Holds s l → Sound n (listed_values l)
list-sound s [] n h = tt
list-sound s (x ∷ l) n h = (text-sound s x n h.0 h.1, list-sound s l n h.2)

pub list-fine : (l : List Listed) (r : List ℕ) → Mb.each_text (located (listed_values l) r) ≡ fine
list-fine [] r = refl
list-fine (x ∷ l) r = list-fine l r

pub list-said : (s : Sort) (l : List Listed) (r : List ℕ) → Holds s l → listed s (each (located (listed_values l) r)) ≡ l
list-said s [] r h = refl
list-said s (x ∷ l) r h = rw (text-said s x h.0 h.1, list-said s l r h.2)

each-made : (s : Sort) (l : List Listed) (r : List ℕ) (ws : List Wish) → Holds s l → AllMade ws → AllMade (each_wish s (located (listed_values l) r) ws)
each-made s [] r ws h k = k
each-made s (x ∷ l) r ws h k =
    text-made s x (suc (length (letters (listed_text x) (print true (listed_values l) r)))) (each_wish s (located (listed_values l) r) ws) h.0 h.1
    (each-made s l r ws h.2 k)

pub list-made : (s : Sort) (l : List Listed) (n : ℕ) (r : List ℕ) (ws : List Wish) → Holds s l → 0 < length l → AllMade ws
    → AllMade (list_wishes s n (located (listed_values l) r) ws)
list-made s [] n r ws h some k = absurd (omega arith)
list-made s (x ∷ l) n r ws h some k = each-made s (x ∷ l) r ws h k

-- what is said of every value of a list is said of the list
pub holds : (s : Sort) (l : List Listed) → ((x : Listed) → In x l → MayHold s x) → ((x : Listed) → In x l → Small x) → Holds s l
holds s [] f g = tt
holds s (x ∷ l) f g = (f x (inl refl), g x (inl refl), holds s l (λ y i. f y (inr i)) (λ y i. g y (inr i)))
