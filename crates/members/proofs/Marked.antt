-- The bits of a mask are the list of the members that were met.
use Rattle.std.proofs.Common.{ℕ, zero, suc, ◌+◌, ◌*◌, ◌/◌, ◌%◌, ◌^◌, ◌<◌, max, ◌≡◌, sym, ◌∙◌, ap, false, ◌||◌, List, [], ◌∷◌, div-one, arith, bit_or, eqb}
use native.Mathlib.Nat.{pow-succ', zero-div, div-div-eq-div-mul}
use lib.Bits.{or_step, or_shr, or_comm}
use lib.Dec.{eqb-zero-suc, eqb-suc-zero, eqb-suc-suc}
use Rattle.members.specs.Machinery.Verdicts.{is_seen, add}
use Rattle.members.specs.Faults.{among}

abbrev pub SameMarks : ℕ → List ℕ → Type 0
SameMarks mask seen = (slot : ℕ) → is_seen mask slot ≡ among seen slot

lowest-or : (r s n q : ℕ) → r < 2 → s < 2 → n ≡ q * 2 + max r s → eqb (n % 2) 1 ≡ (eqb r 1 || eqb s 1)
lowest-or zero zero n q low small is = ap (λ (m : ℕ). eqb m 1) {x = n % 2} {y = 0} (omega arith)
lowest-or zero (suc zero) n q low small is = ap (λ (m : ℕ). eqb m 1) {x = n % 2} {y = 1} (omega arith)
lowest-or (suc zero) zero n q low small is = ap (λ (m : ℕ). eqb m 1) {x = n % 2} {y = 1} (omega arith)
lowest-or (suc zero) (suc zero) n q low small is = ap (λ (m : ℕ). eqb m 1) {x = n % 2} {y = 1} (omega arith)
lowest-or (suc (suc r)) s n q low small is = absurd (omega arith)
lowest-or zero (suc (suc s)) n q low small is = absurd (omega arith)
lowest-or (suc zero) (suc (suc s)) n q low small is = absurd (omega arith)

seen-or : (a b k : ℕ) → is_seen (bit_or a b) k ≡ (is_seen a k || is_seen b k)
unfolding is_seen
seen-or a b k =
    ap (λ (n : ℕ). eqb (n % 2) 1) (or_shr a b k)
    ∙ lowest-or (a / 2 ^ k % 2) (b / 2 ^ k % 2) (bit_or (a / 2 ^ k) (b / 2 ^ k)) (bit_or (a / 2 ^ k / 2) (b / 2 ^ k / 2)) (omega arith) (omega arith)
    (or_step (a / 2 ^ k) (b / 2 ^ k))

seen-behind : (mask k : ℕ) → is_seen mask (suc k) ≡ is_seen (mask / 2) k
unfolding is_seen
seen-behind mask k =
    ap (λ (n : ℕ). eqb (n % 2) 1) (ap (λ (n : ℕ). mask / n) (pow-succ' 2 k) ∙ sym (div-div-eq-div-mul mask 2 (2 ^ k)))

seen-lowest : (mask : ℕ) → is_seen mask 0 ≡ eqb (mask % 2) 1
unfolding is_seen
seen-lowest mask = ap (λ (n : ℕ). eqb (n % 2) 1) (div-one mask)

seen_nothing : (k : ℕ) → is_seen 0 k ≡ false
unfolding is_seen
seen_nothing k = ap (λ (n : ℕ). eqb (n % 2) 1) (zero-div (2 ^ k))

seen-power : (k j : ℕ) → is_seen (2 ^ k) j ≡ eqb j k
seen-power zero zero = seen-lowest 1
seen-power zero (suc j) = seen-behind 1 j ∙ seen_nothing j ∙ sym (eqb-suc-zero j)
seen-power (suc k) zero =
    seen-lowest (2 ^ suc k) ∙ ap (λ (m : ℕ). eqb m 1) {x = 2 ^ suc k % 2} {y = 0} (omega (arith, pow-succ' 2 k)) ∙ sym (eqb-zero-suc k)
seen-power (suc k) (suc j) =
    seen-behind (2 ^ suc k) j ∙ ap (λ (m : ℕ). is_seen m j) {x = 2 ^ suc k / 2} {y = 2 ^ k} (omega (arith, pow-succ' 2 k)) ∙ seen-power k j
    ∙ sym (eqb-suc-suc j k)

pub none-met : SameMarks 0 []
none-met slot = seen_nothing slot

pub one_more : (mask : ℕ) (seen : List ℕ) (slot : ℕ) → SameMarks mask seen → SameMarks (add mask slot) (slot ∷ seen)
one_more mask seen slot marks other =
    ap (λ (m : ℕ). is_seen m other) (or_comm mask (2 ^ slot)) ∙ seen-or (2 ^ slot) mask other ∙ rw (seen-power slot other, marks other)
