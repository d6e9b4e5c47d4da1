-- The set of the bytes that follow others: it is built byte by byte, rows that are the same have the same set, and each byte of it leads
-- where a smaller one leads.
use Rattle.std.proofs.Common.{ℕ, ◌-◌, ◌<◌, ◌≡◌, refl, sym, ◌∙◌, subst, Bool, true, false, List, arith, replicate}
use Rattle.matching.specs.Machinery.Rows.{row_bit}
use Rattle.matching.proofs.Rows.{row_zero}
use Rattle.states.specs.Machinery.Rows.{IsByte, Tells}
use Rattle.states.specs.Machinery.Taken.{IsFollower, FollowersOf, FollowersBelow}

-- the same claim, said otherwise
tells_as : (t : Bool) (P Q : Type 0) → (P → Q) → (Q → P) → Tells t P → Tells t Q
tells_as true P Q to from told = to told
tells_as false P Q to from told = λ q. told (from q)

-- byte by byte

pub followers-begin : (row : ℕ → List ℕ) → FollowersBelow row 0x61 (replicate 2 0)
followers-begin row x few =
    subst (λ (t : Bool). Tells t ((x < 0x61) × IsFollower row x)) (sym (row_zero 2 x)) (λ h. let less = h.0 in let from = h.1.0 in omega arith)

-- rows that are the same have the same set
pub followers-as : (row other : ℕ → List ℕ) (set : List ℕ) → ((b : ℕ) → IsByte b → row b ≡ other b) → FollowersOf row set → FollowersOf other set
followers-as row other set same of x few =
    tells_as (row_bit set x) (IsFollower row x) (IsFollower other x)
    (λ h.
    let low = h.0 in
    let high = h.1 in
    (h.0, h.1, sym (same (x - 32) (omega arith, omega arith)) ∙ h.2 ∙ same x (omega arith, omega arith)))
    (λ h.
    let low = h.0 in
    let high = h.1 in
    (h.0, h.1, same (x - 32) (omega arith, omega arith) ∙ h.2 ∙ sym (same x (omega arith, omega arith))))
    (of x few)

-- a byte of the set has the row of a smaller one
pub follower-before : (row : ℕ → List ℕ) (set : List ℕ) → FollowersOf row set → (b : ℕ) → IsByte b → row_bit set b ≡ true
    → (a : ℕ) × IsByte a × (a < b) × (row a ≡ row b)
follower-before row set of b byte here =
    let most = byte.1 in
    let f = subst (λ (t : Bool). Tells t (IsFollower row b)) here (of b (omega arith)) in
    let low = f.0 in
    let high = f.1 in
    (b - 32, (omega arith, omega arith), omega arith, f.2)

-- only one set has them
pub followers-once : (row : ℕ → List ℕ) (one two : List ℕ) → FollowersOf row one → FollowersOf row two → (x : ℕ) → x < 128 → row_bit one x ≡ row_bit two x
followers-once row one two first second x few = by (row_bit one x) (row_bit two x) (first x few) (second x few)
  where
    by : (s t : Bool) → Tells s (IsFollower row x) → Tells t (IsFollower row x) → s ≡ t
    by true true told also = refl
    by true false told never = absurd (never told)
    by false true never told = absurd (never told)
    by false false never also = refl
