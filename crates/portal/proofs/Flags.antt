-- The flags of five keys fit five bits, and give the keys back.
use Prim.Native.Nat.{ℕ, ◌+◌, ◌*◌, ◌/◌, ◌%◌, ◌^◌, ◌≤◌}
use mathlib.Core.Path.{◌≡◌, ap}
use mathlib.Core.Bool.{Bool, true, false}
use native.Mathlib.Omega.{arith}
use lib.Dec.{eqb}
use Rattle.judging.specs.Requests.{Present}
use Rattle.portal.specs.Codes.{is_set, present_of, flag_of, flags_of}

-- a flag is at most itself
pub flag-low : (here : Bool) (flag : ℕ) → flag_of here flag ≤ flag
flag-low true flag = omega arith
flag-low false flag = omega arith

-- all five are at most 31
pub flags-low : (p : Present) → flags_of p ≤ 31
flags-low p =
    omega (arith, flag-low p.vpc 1, flag-low p.prefix 2, flag-low p.vpce 4, flag-low p.referer 8, flag-low p.address 16)

-- a flag is one bit, so many times
flag-times : (here : Bool) (flag : ℕ) → flag_of here flag ≡ flag * flag_of here 1
flag-times true flag = omega arith
flag-times false flag = omega arith

-- a bit that is a flag says whether it is there
bit-says : (here : Bool) (n i : ℕ) → n / 2 ^ i % 2 ≡ flag_of here 1 → is_set n i ≡ here
bit-says true n i e = ap (λ (bit : ℕ). eqb bit 1) e
bit-says false n i e = ap (λ (bit : ℕ). eqb bit 1) e

-- the five low bits of a number say which keys are there
pub keys-read : (p : Present) (high : ℕ) → present_of (high * 32 + flags_of p) ≡ p
keys-read p high = rw (at-0, at_1, at-2, at-3, at-4)
  where
    at-0 : is_set (high * 32 + flags_of p) 0 ≡ p.vpc
    at-0 =
        bit-says p.vpc (high * 32 + flags_of p) 0
        (omega (arith, flag-low p.vpc 1, flag-times p.prefix 2, flag-times p.vpce 4, flag-times p.referer 8, flag-times p.address 16))

    at_1 : is_set (high * 32 + flags_of p) 1 ≡ p.prefix
    at_1 =
        bit-says p.prefix (high * 32 + flags_of p) 1
        (omega (arith, flag-low p.vpc 1, flag-low p.prefix 1, flag-times p.prefix 2, flag-times p.vpce 4, flag-times p.referer 8, flag-times p.address 16))

    at-2 : is_set (high * 32 + flags_of p) 2 ≡ p.vpce
    at-2 =
        bit-says p.vpce (high * 32 + flags_of p) 2
        (omega (arith, flag-low p.vpc 1, flag-low p.prefix 2, flag-low p.vpce 1, flag-times p.vpce 4, flag-times p.referer 8, flag-times p.address 16))

    at-3 : is_set (high * 32 + flags_of p) 3 ≡ p.referer
    at-3 =
        bit-says p.referer (high * 32 + flags_of p) 3
        (omega (arith, flag-low p.vpc 1, flag-low p.prefix 2, flag-low p.vpce 4, flag-low p.referer 1, flag-times p.referer 8, flag-times p.address 16))

    at-4 : is_set (high * 32 + flags_of p) 4 ≡ p.address
    at-4 =
        bit-says p.address (high * 32 + flags_of p) 4
        (omega (arith, flag-low p.vpc 1, flag-low p.prefix 2, flag-low p.vpce 4, flag-low p.referer 8, flag-low p.address 1, flag-times p.address 16))
