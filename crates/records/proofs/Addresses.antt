-- The networks that a document wishes for have addresses of 32 bits.
use Prim.{tt}
use Rattle.std.proofs.Common.{ℕ, zero, suc, ◌+◌, ◌*◌, ◌-◌, ◌^◌, ◌≤◌, ◌<◌, Bool, true, false, ◌≡◌, refl, List, [], ◌∷◌, arith, eqb, leb, leb-true}
use Rattle.json_text.specs.Choice.{pick}
use Rattle.json_text.specs.Bytes.{is_digit}
use Rattle.json_text.specs.Trees.{Tree}
use Rattle.json_text.specs.Trees.Shape.{one, several, named}
use Rattle.json_text.specs.Trees.Tree.{text, other, list, object, end_list, element, end_object, member}
use Rattle.json_text.specs.Choice.{same_bytes}
use Rattle.stored.specs.Operators.{row_of}
use Rattle.stored.specs.Entries.{Entry, AllFit}
use Rattle.stored.specs.Entries.Entry.{statement, end}
use Rattle.stored.specs.declared.items.Effect.TheVariants as E
use Rattle.stored.specs.declared.items.Operator.{Operator}
use Rattle.stored.specs.declared.items.Sort.{Sort}
use Rattle.stored.specs.declared.items.Sort.TheVariants as S
use Rattle.members.specs.Members.{place, operator_kind}
use Rattle.records.specs.Networks.{Read, Number, Longer, with_digit, after_digit, length_of, ended, dotted, slashed, numbers_of, network_of}
use Rattle.records.specs.Documents.{Found, held, stated, marked, members_of, holder, same, allow_text, deny_text, bytes, operator_at}
use Rattle.records.specs.Wishes.{Wish, network_wish, string_wish, each_wish, list_wishes, value_wishes, effect_wish, element_wishes, key_wishes, operator_wishes, statement_wishes, row_wishes, rows_wishes, wishes, entry_of, entries}

abbrev Small : Read → Type 0
Small (Read.network a n) = a < 2 ^ 32
Small Read.none = Unit {0}

-- a number so far is at most 255
abbrev Byte : Number → Type 0
Byte Number.blank = Unit {0}
Byte (Number.value n) = n ≤ 255

abbrev Next : ℕ → Longer → Type 0
Next most (Longer.goes n) = n ≤ most
Next most Longer.fails = Unit {0}

picked : (b : Bool) (n most : ℕ) → leb n most ≡ b → Next most (pick b (Longer.goes n) Longer.fails)
picked true n most e = leb-true n most e
picked false n most e = tt

grows : (most d : ℕ) (n : Number) → Next most (with_digit most d n)
grows most d Number.blank = picked (leb d most) d most refl
grows most d (Number.value zero) = tt
grows most d (Number.value (suc n)) = picked (leb (suc n * 10 + d) most) (suc n * 10 + d) most refl

length-small : (a : ℕ) → a < 2 ^ 32 → (bs : List ℕ) (n : Number) → Small (length_of a bs n)
length-small a h [] Number.blank = tt
length-small a h [] (Number.value n) = h
length-small a h (b ∷ bs) n = by (is_digit b) (with_digit 32 (b - 0x30) n) (λ m. length-small a h bs (Number.value m))
  where
    by : (x : Bool) (l : Longer) → ((m : ℕ) → Small (length_of a bs (Number.value m))) → Small (pick x (after_digit (length_of a bs) l) Read.none)
    by false l go = tt
    by true (Longer.goes m) go = go m
    by true Longer.fails go = tt

-- with k dots to come, 3 - k bytes are in the address
abbrev Room : ℕ → ℕ → Type 0
Room zero a = a < 2 ^ 24
Room (suc zero) a = a < 2 ^ 16
Room (suc (suc zero)) a = a < 2 ^ 8
Room (suc (suc (suc zero))) a = a < 1
Room (suc (suc (suc (suc k)))) a = ⊥

more : (k a n : ℕ) → Room (suc k) a → n ≤ 255 → Room k (a * 256 + n)
more zero a n h b = omega arith
more (suc zero) a n h b = omega arith
more (suc (suc zero)) a n h b = omega arith
more (suc (suc (suc k))) a n h b = absurd h

ended-small : (k a : ℕ) (n : Number) → Room k a → Byte n → Small (ended k a n)
ended-small zero a Number.blank h b = tt
ended-small zero a (Number.value n) h b = omega arith
ended-small (suc k) a n h b = tt

numbers-small : (bs : List ℕ) (k a : ℕ) (n : Number) → Room k a → Byte n → Small (numbers_of bs k a n)
numbers-small [] k a n h b = ended-small k a n h b
numbers-small (c ∷ bs) k a n h b =
    by (is_digit c) (with_digit 255 (c - 0x30) n) (grows 255 (c - 0x30) n) (eqb c 0x2E) (eqb c 0x2F) k a n h b
    (λ k a n h b. numbers-small bs k a n h b)
  where
    dots : (k a : ℕ) (n : Number) → Room k a → Byte n → ((k a : ℕ) (n : Number) → Room k a → Byte n → Small (numbers_of bs k a n))
        → Small (dotted (numbers_of bs) k a n)
    dots zero a n h b go = tt
    dots (suc k) a Number.blank h b go = tt
    dots (suc k) a (Number.value m) h b go = go k (a * 256 + m) Number.blank (more k a m h b) tt

    slash : (k a : ℕ) (n : Number) → Room k a → Byte n → Small (slashed (λ m. length_of m bs Number.blank) k a n)
    slash zero a Number.blank h b = tt
    slash zero a (Number.value m) h b = length-small (a * 256 + m) (omega arith) bs Number.blank
    slash (suc k) a n h b = tt

    by : (x : Bool) (l : Longer) → Next 255 l → (y z : Bool) (k a : ℕ) (n : Number) → Room k a → Byte n
        → ((k a : ℕ) (n : Number) → Room k a → Byte n → Small (numbers_of bs k a n))
        → Small (pick x (after_digit (numbers_of bs k a) l) (pick y (dotted (numbers_of bs) k a n) (pick z (slashed (λ m. length_of m bs Number.blank) k a n) Read.none)))
    by true (Longer.goes m) e y z k a n h b go = go k a (Number.value m) h e
    by true Longer.fails e y z k a n h b go = tt
    by false l e true z k a n h b go = dots k a n h b go
    by false l e false true k a n h b go = slash k a n h b
    by false l e false false k a n h b go = tt

pub network-small : (bs : List ℕ) → Small (network_of bs)
unfolding network_of
network-small bs = numbers-small bs 3 0 Number.blank (omega arith) tt

string-fits : (s : Sort) (n : ℕ) (bs : List ℕ) (r : List Wish) → AllFit (entries r) → AllFit (entries (string_wish s n bs ∷ r))
string-fits S.Text n bs r h = (tt, h)
string-fits S.Address n bs r h = by (network_of bs) (network-small bs)
  where
    by : (x : Read) → Small x → AllFit (entry_of (network_wish n bs x) (entries r))
    by (Read.network a k) e = (e, h)
    by Read.none e = (tt, h)

each_fits : (s : Sort) (vs : Tree several) (r : List Wish) → AllFit (entries r) → AllFit (entries (each_wish s vs r))
each_fits s (end_list n) r h = h
each_fits s (element (text n bs) vs) r h = string-fits s n bs (each_wish s vs r) (each_fits s vs r h)
each_fits s (element (other n) vs) r h = each_fits s vs r h
each_fits s (element (list n xs) vs) r h = each_fits s vs r h
each_fits s (element (object n ms) vs) r h = each_fits s vs r h

list-fits : (s : Sort) (n : ℕ) (vs : Tree several) (r : List Wish) → AllFit (entries r) → AllFit (entries (list_wishes s n vs r))
list-fits s n (end_list m) r h = h
list-fits s n (element v vs) r h = each_fits s (element v vs) r h

value-fits : (s : Sort) (v : Tree one) (r : List Wish) → AllFit (entries r) → AllFit (entries (value_wishes s v r))
value-fits s (text n bs) r h = string-fits s n bs r h
value-fits s (other n) r h = h
value-fits s (list n vs) r h = list-fits s n vs r h
value-fits s (object n ms) r h = h

effect-fits : (n : ℕ) (bs : List ℕ) (es : List Entry) → AllFit es → AllFit (entry_of (effect_wish n bs) es)
effect-fits n bs es h = by (same_bytes bs allow_text) (same_bytes bs deny_text)
  where
    by : (x y : Bool) → AllFit (entry_of (pick x (Wish.made n (statement E.Allow)) (pick y (Wish.made n (statement E.Deny)) (Wish.strange n))) es)
    by true y = (tt, h)
    by false true = (tt, h)
    by false false = (tt, h)

element-fits : (read : Tree one → Tree one) (x : Found) (r : List Wish) → AllFit (entries r) → AllFit (entries (element_wishes read x r))
element-fits read Found.none r h = h
element-fits read (Found.found k v) r h = (tt, value-fits S.Text (read v) r h)

key_fits : (o : Operator) (ms : Tree named) (r : List Wish) → AllFit (entries r) → AllFit (entries (key_wishes o ms r))
key_fits o (end_object n) r h = h
key_fits o (member n x v ms) r h = (tt, value-fits (row_of o).sort v (key_wishes o ms r) (key_fits o ms r h))

operator-fits : (ms : Tree named) (r : List Wish) → AllFit (entries r) → AllFit (entries (operator_wishes ms r))
operator-fits (end_object n) r h = h
operator-fits (member n x v ms) r h = key_fits (operator_at (operator_kind x)) (members_of v) (operator_wishes ms r) (operator-fits ms r h)

statement-fits : (ms : Tree named) (r : List Wish) → AllFit (entries r) → AllFit (entries (statement_wishes ms r))
statement-fits ms r h =
    let c = operator_wishes (members_of (held (marked 6 ms))) r in
    let d = element_wishes same (marked 5 ms) c in
    let e = element_wishes same (marked 4 ms) d in
    effect-fits (place (held (marked 2 ms))) (bytes (held (marked 2 ms))) (entries (element_wishes holder (marked 3 ms) e))
    (element-fits holder (marked 3 ms) e
    (element-fits same (marked 4 ms) d (element-fits same (marked 5 ms) c (operator-fits (members_of (held (marked 6 ms))) r h))))

row_fits : (vs : Tree several) (r : List Wish) → AllFit (entries r) → AllFit (entries (row_wishes vs r))
row_fits (end_list n) r h = h
row_fits (element v vs) r h = statement-fits (members_of v) (row_wishes vs r) (row_fits vs r h)

rows-fits : (v : Tree one) (r : List Wish) → AllFit (entries r) → AllFit (entries (rows_wishes v r))
rows-fits (text n bs) r h = h
rows-fits (other n) r h = h
rows-fits (list n vs) r h = row_fits vs r h
rows-fits (object n ms) r h = statement-fits ms r h

pub all_fit : (v : Tree one) → AllFit (entries (wishes v))
all_fit v = (tt, rows-fits (held (stated (members_of v))) (Wish.made 0 end ∷ []) (tt, tt))
