-- A network is a range of addresses: an address lies between its lowest and its highest exactly when the first bits agree.
use Rattle.std.proofs.Common.{◌≡◌, ℕ, ◌+◌, ◌-◌, ◌*◌, ◌/◌, ◌^◌, ◌<◌, ◌≤◌, Bool, true, false, ◌&&◌, eqb, leb, sym, refl, ap, ◌∙◌, subst, add-mul, one-mul, div-mul-le_self, arith, pow_pos, pow-add, shr_lt, eqb-true, le-leb, leb-true}
use Rattle.std.proofs.Math.Nat.{lt-div-mul-add, div-eq_of_lt-le}
use Rattle.std.proofs.Math.Arith.{digits_lt}
use Rattle.std.proofs.lemmas.Bool.{eqb-false}
use Rattle.matching.specs.Network.{network_size, agree}
use Rattle.matching.specs.Machinery.Ranges.{network_low, network_high}

-- over any size of ranges
module _ (size : ℕ) (some : 0 < size) (n a : ℕ) where
  in-part : n / size * size ≤ a → a ≤ n / size * size + (size - 1) → a / size ≡ n / size
  in-part low high =
      div-eq_of_lt-le size low
      (subst (λ (m : ℕ). a < m) (sym (add-mul (n / size) 1 size)) (omega (arith, one-mul size)))

  part-decides : (leb (n / size * size) a && leb a (n / size * size + (size - 1))) ≡ eqb (n / size) (a / size)
  part-decides = by (eqb (n / size) (a / size)) refl
    where
      other : (n / size ≡ a / size → ⊥) → (t : Bool) → leb (n / size * size) a ≡ t → (u : Bool) → leb a (n / size * size + (size - 1)) ≡ u → (t && u) ≡ false
      other apart true e true f = absurd (apart (sym (in-part (leb-true _ _ e) (leb-true _ _ f))))
      other apart true e false f = refl
      other apart false e u f = refl

      by : (t : Bool) → eqb (n / size) (a / size) ≡ t → (leb (n / size * size) a && leb a (n / size * size + (size - 1))) ≡ eqb (n / size) (a / size)
      by true e =
          let same : n / size ≡ a / size = eqb-true (n / size) (a / size) e in
          let times : n / size * size ≡ a / size * size = ap (λ (m : ℕ). m * size) same in
          let low : n / size * size ≤ a = omega (arith, div-mul-le_self a size) in
          let high : a ≤ n / size * size + (size - 1) = omega (arith, lt-div-mul-add {a = a} some) in
          simp (le-leb _ _ low, le-leb _ _ high, e)
      by false e = other (eqb-false (n / size) (a / size) e) (leb (n / size * size) a) refl (leb a (n / size * size + (size - 1))) refl ∙ sym e

-- an address is in the range exactly when it agrees with the network in the first bits
pub in-range : (network address length : ℕ) → (leb (network_low network length) address && leb address (network_high network length)) ≡ agree network address length
in-range network address length = part-decides (network_size length) (pow_pos (32 - length)) network address

-- the ends of a network are addresses
pub high_fits : (network length : ℕ) → network < 2 ^ 32 → network_high network length < 2 ^ 32
high_fits network length h =
    let bits : (32 - (32 - length)) + (32 - length) ≡ 32 = omega arith in
    let below : network < 2 ^ ((32 - (32 - length)) + (32 - length)) = subst (λ (n : ℕ). network < 2 ^ n) (sym bits) h in
    let some : 0 < network_size length = pow_pos (32 - length) in
    subst (λ (n : ℕ). network_high network length < n)
    (sym (pow-add 2 (32 - (32 - length)) (32 - length)) ∙ ap (λ (n : ℕ). 2 ^ n) bits)
    (digits_lt (shr_lt (32 - (32 - length)) (32 - length) below) (omega arith))
