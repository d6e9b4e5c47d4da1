-- The places of a text's tree: they lie in the text and come in its order.
use Rattle.std.proofs.Common.{ℕ, suc, ◌≤◌, ◌<◌, List, length, arith}
use Rattle.json_text.specs.Grammar.{Characters, Digits, SomeDigits, Whole, Fraction, Power, Unsigned, Part, Reads}
use Rattle.json_text.specs.Trees.{Shape, Tree, Made, tree_of}
use Rattle.json_text.specs.Trees.Tree.{text, other, list, object, end_list, element, end_object, member}

-- all places lie below one number and not below another, and each is lower than those before it
abbrev pub InOrder : {k : Shape} → Tree k → ℕ → ℕ → Type 0
InOrder (text n bs) high low = (low ≤ n) × (n < high)
InOrder (other n) high low = (low ≤ n) × (n < high)
InOrder (list n es) high low = (n < high) × InOrder es n low
InOrder (object n ms) high low = (n < high) × InOrder ms n low
InOrder (end_list n) high low = (low ≤ n) × (n < high)
InOrder (element v es) high low = (mid : ℕ) × InOrder v high mid × InOrder es mid low
InOrder (end_object n) high low = (low ≤ n) × (n < high)
InOrder (member n x v ms) high low = (n < high) × ((mid : ℕ) × InOrder v n mid × InOrder ms mid low)

pub spans : {k : Shape} (v : Tree k) (high low : ℕ) → InOrder v high low → low < high
spans (text n bs) high low p = omega arith
spans (other n) high low p = omega arith
spans (list n es) high low p = let e = spans es n low p.1 in omega arith
spans (object n ms) high low p = let e = spans ms n low p.1 in omega arith
spans (end_list n) high low p = omega arith
spans (element v es) high low p =
    let e = spans v high p.0 p.1 in
    let f = spans es p.0 low p.2 in
    omega arith
spans (end_object n) high low p = omega arith
spans (member n x v ms) high low p =
    let e = spans v n p.1.0 p.1.1 in
    let f = spans ms p.1.0 low p.1.2 in
    omega arith

-- strings and numbers have bytes

string-spans : {s r : List ℕ} → Characters s r → length r < length s
string-spans Characters.close = omega arith
string-spans (Characters.plain e c) = let h = string-spans c in omega arith
string-spans (Characters.escape e c) = let h = string-spans c in omega arith
string-spans (Characters.code e f c) = let h = string-spans c in omega arith
string-spans (Characters.two e f c) = let h = string-spans c in omega arith
string-spans (Characters.e0 e f c) = let h = string-spans c in omega arith
string-spans (Characters.low_three e f g c) = let h = string-spans c in omega arith
string-spans (Characters.ed e f c) = let h = string-spans c in omega arith
string-spans (Characters.high_three e f g c) = let h = string-spans c in omega arith
string-spans (Characters.f0 e f g c) = let h = string-spans c in omega arith
string-spans (Characters.four e f g x c) = let h = string-spans c in omega arith
string-spans (Characters.f4 e f g c) = let h = string-spans c in omega arith

digits-span : {s r : List ℕ} → Digits s r → length r ≤ length s
digits-span Digits.none = omega arith
digits-span (Digits.more e d) = let h = digits-span d in omega arith

some-span : {s r : List ℕ} → SomeDigits s r → length r ≤ length s
some-span (SomeDigits.digits e d) = let h = digits-span d in omega arith

whole-spans : {s r : List ℕ} → Whole s r → length r < length s
whole-spans Whole.zero = omega arith
whole-spans (Whole.positive e d) = let h = digits-span d in omega arith

fraction-spans : {s r : List ℕ} → Fraction s r → length r ≤ length s
fraction-spans Fraction.none = omega arith
fraction-spans (Fraction.point d) = let h = some-span d in omega arith

power-spans : {s r : List ℕ} → Power s r → length r ≤ length s
power-spans Power.none = omega arith
power-spans (Power.unsigned e d) = let h = some-span d in omega arith
power-spans (Power.signed e f d) = let h = some-span d in omega arith

number-spans : {s r : List ℕ} → Unsigned s r → length r < length s
number-spans (Unsigned.unsigned w f p) =
    let a = whole-spans w in
    let b = fraction-spans f in
    let c = power-spans p in
    omega arith

abbrev MadeInOrder : (p : Part) → Made p → ℕ → ℕ → Type 0
MadeInOrder Part.value x high low = InOrder x high low
MadeInOrder Part.elements x high low = InOrder x high low
MadeInOrder Part.more_elements x high low = InOrder x high low
MadeInOrder Part.members x high low = InOrder x high low
MadeInOrder Part.more_members x high low = InOrder x high low
MadeInOrder Part.member x high low = InOrder x high low
MadeInOrder Part.colon x high low = (mid : ℕ) × InOrder x.0 high mid × InOrder x.1 mid low

pub in_order : {p : Part} {n : ℕ} {s r : List ℕ} (d : Reads p n s r) (high : ℕ) → length s < high → MadeInOrder p (tree_of d) high (suc (length r))
in_order (Reads.blank e d) high h = in_order d high (omega arith)
in_order (Reads.string c) high h = let e = string-spans c in (omega arith, omega arith)
in_order Reads.true_word high h = (omega arith, h)
in_order Reads.false_word high h = (omega arith, h)
in_order Reads.null_word high h = (omega arith, h)
in_order (Reads.number u) high h = (number-spans u, h)
in_order (Reads.negative u) high h = let e = number-spans u in (omega arith, h)
in_order (Reads.list {s = s} m d) high h = (h, in_order d (suc (length s)) (omega arith))
in_order Reads.no_element high h = (omega arith, h)
in_order (Reads.first_element {t = t} d e) high h = (suc (length t), in_order d high h, in_order e (suc (length t)) (omega arith))
in_order Reads.end_elements high h = (omega arith, h)
in_order (Reads.next_element {t = t} d e) high h = (suc (length t), in_order d high (omega arith), in_order e (suc (length t)) (omega arith))
in_order (Reads.object {s = s} m d) high h = (h, in_order d (suc (length s)) (omega arith))
in_order Reads.no_member high h = (omega arith, h)
in_order (Reads.first_member d) high h = in_order d high h
in_order Reads.end_members high h = (omega arith, h)
in_order (Reads.next_member d) high h = in_order d high (omega arith)
in_order (Reads.named {s = s} c d) high h = let e = string-spans c in (h, in_order d (suc (length s)) (omega arith))
in_order (Reads.content {t = t} d e) high h = (suc (length t), in_order d high (omega arith), in_order e (suc (length t)) (omega arith))
