-- The question that a shown gap holds: the number and the value buffer give back the request that is gap k, so the judge returns 1 for it
-- by the first table and does not by the second.
use Prim.Native.Nat.{ℕ, ◌*◌, ◌^◌, ◌≤◌, ◌<◌}
use mathlib.Core.Path.{◌≡◌, refl, sym, ◌∙◌, ap, ap₂, subst}
use mathlib.Core.Bool.{Bool, true}
use mathlib.Core.List.{List, [], ◌∷◌}
use native.Mathlib.Omega.{arith}
use lib.ListN.{length, take, drop, get_or}
use Rattle.stored.specs.Choice.{pick}
use Rattle.stored.specs.Values.{in_range}
use Rattle.judging.specs.Requests.{Value, absent, number, is_present, columns, column_of, key_value, Present}
use Rattle.judging.specs.Judging.{rows_of, judgement}
use Rattle.comparing.specs.Order.{Earlier}
use Rattle.comparing.specs.Requests.{AdmitsOptional, AdmitsAddress, IsRequest}
use Rattle.comparing.specs.Gaps.{AlikeFrom, IsGap}
use Rattle.comparing.specs.Compared.{value_room, bytes_in, address_in, padded, shape_of, request_shown, Shown}
use Rattle.comparing.specs.Means.{ShownMeans}
use Rattle.comparing.specs.Answers.{Shape, Showing, Showing as S}
use Rattle.comparing.proofs.Promises.{shown-means, one-answer-shown}
use Rattle.comparing.proofs.Eight.{of-eight}
use Rattle.comparing.proofs.show.ShownRequest.{needed-bytes, key-bytes, address-number}
use Rattle.comparing.proofs.Requests.{in-range-bytes}
use Rattle.comparing.proofs.Unique.{gaps-unique}
use Rattle.comparing.proofs.GapList.{gaps-once}
use Rattle.portal.specs.Codes.{present_of, judgement_code}
use Rattle.portal.specs.Answers.{Shows}
use Rattle.portal.specs.Asked.{Asked, ByteString, CanBeAsked, request_asked, judge_returns, shown_string, asked_by}
use Rattle.portal.proofs.Fitting.{gives_back}
use Rattle.portal.proofs.JudgeBack.{judge-allowed}
use Rattle.portal.proofs.GapsBack.{ShapeBack, shape-back, gap-fits}
use Rattle.portal.proofs.ShownStrings.{column-ranged, bytes-shown, string-shown}

-- a key that is there as a value is, with its bytes, is the value; and so is an address
key-asked : (v : Value) → AdmitsOptional v → (here : Bool) (s : List ℕ) → here ≡ is_present v → s ≡ bytes_in v → key_value here s ≡ v
key-asked v ok here s there e = ap (λ (t : Bool). key_value t s) there ∙ key-bytes v ok s e

address-asked : (v : Value) → AdmitsAddress v → (here : Bool) (n : ℕ) → here ≡ is_present v → n ≡ address_in v → pick here (number n) absent ≡ v
address-asked v ok here n there e = ap₂ (λ (t : Bool) (m : ℕ). pick t (number m) absent) there e ∙ address-number v ok

-- a question holds a request: its strings, which keys are there, and its address
record Holds (q : Asked) (r : List Value) : Type 0 where
  principal : q.principal ≡ bytes_in (column_of r 0)
  action : q.action ≡ bytes_in (column_of r 1)
  resource : q.resource ≡ bytes_in (column_of r 2)
  present : present_of q.present ≡ (shape_of r).present
  vpc : q.vpc ≡ bytes_in (column_of r 3)
  prefix : q.prefix ≡ bytes_in (column_of r 4)
  vpce : q.vpce ≡ bytes_in (column_of r 5)
  referer : q.referer ≡ bytes_in (column_of r 6)
  address : q.address ≡ address_in (column_of r 7)

-- then it asks about that request
holds-asks : (q : Asked) (r : List Value) → length r ≡ columns → IsRequest r → Holds q r → request_asked q ≡ r
holds-asks q = of-eight (λ r. IsRequest r → Holds q r → request_asked q ≡ r) eight
  where
    eight : (a b c d e f g h : Value) → IsRequest (a ∷ b ∷ c ∷ d ∷ e ∷ f ∷ g ∷ h ∷ []) → Holds q (a ∷ b ∷ c ∷ d ∷ e ∷ f ∷ g ∷ h ∷ [])
        → request_asked q ≡ (a ∷ b ∷ c ∷ d ∷ e ∷ f ∷ g ∷ h ∷ [])
    eight a b c d e f g h ok held =
        ap₂ ◌∷◌ (needed-bytes a ok.0 _ held.principal)
        (ap₂ ◌∷◌ (needed-bytes b ok.1.0 _ held.action)
        (ap₂ ◌∷◌ (needed-bytes c ok.1.1.0 _ held.resource)
        (ap₂ ◌∷◌ (key-asked d ok.1.1.1.0 _ _ (ap (λ (p : Present). p.vpc) held.present) held.vpc)
        (ap₂ ◌∷◌ (key-asked e ok.1.1.1.1.0 _ _ (ap (λ (p : Present). p.prefix) held.present) held.prefix)
        (ap₂ ◌∷◌ (key-asked f ok.1.1.1.1.1.0 _ _ (ap (λ (p : Present). p.vpce) held.present) held.vpce)
        (ap₂ ◌∷◌ (key-asked g ok.1.1.1.1.1.1.0 _ _ (ap (λ (p : Present). p.referer) held.present) held.referer)
        (ap₂ ◌∷◌ (address-asked h ok.1.1.1.1.1.1.1.0 _ _ (ap (λ (p : Present). p.address) held.present) held.address) refl)))))))

-- a gap that is shown, with its shape and its code
module _ (first second : List ℕ) (k : ℕ) (before : List ℕ) (r : ℕ) (after : List ℕ) (shape : Shape)
    (s : Shown 8192 first second k before (S.Shown shape, after)) (back : ShapeBack shape r) where
  means : ShownMeans first second k before shape after
  means = shown-means 8192 first second k before shape after s

  strings : (column : ℕ) → column < 7 → shown_string after column ≡ bytes_in (column_of (request_shown shape after) column)
  strings = string-shown (request_shown shape after) means.request refl means.short after means.laid_down

  asks-shown : request_asked (asked_by r after) ≡ request_shown shape after
  asks-shown =
      holds-asks (asked_by r after) (request_shown shape after) refl means.request
      (record {
        principal = strings 0 (omega arith);
        action = strings 1 (omega arith);
        resource = strings 2 (omega arith);
        present = sym back.present ∙ ap (λ (x : Shape). x.present) means.lengths;
        vpc = strings 3 (omega arith);
        prefix = strings 4 (omega arith);
        vpce = strings 5 (omega arith);
        referer = strings 6 (omega arith);
        address = sym back.address ∙ ap (λ (x : Shape). x.address) means.lengths;
      })

  ranged : (column : ℕ) → column < 7 → in_range (shown_string after column) ≡ true
  ranged column low = ap in_range (strings column low) ∙ column-ranged 0 (request_shown shape after) means.request column

  byte-string : (column : ℕ) → column < 7 → ByteString (shown_string after column)
  byte-string column low =
      record {
        bytes = in-range-bytes (shown_string after column) (ranged column low);
        size = omega (arith, ap length (strings column low), means.short column);
      }

  shown-can : CanBeAsked (asked_by r after)
  shown-can =
      record {
        principal = byte-string 0 (omega arith);
        action = byte-string 1 (omega arith);
        resource = byte-string 2 (omega arith);
        present = omega (arith, back.low);
        vpc = byte-string 3 (omega arith);
        prefix = byte-string 4 (omega arith);
        vpce = byte-string 5 (omega arith);
        referer = byte-string 6 (omega arith);
        address = omega arith;
      }

  shown-padded : (column : ℕ) → column < 7 → take value_room (drop (column * value_room) after) ≡ padded (shown_string after column)
  shown-padded column low =
      bytes-shown (request_shown shape after) means.request refl means.short after means.laid_down column low
      ∙ ap padded (sym (strings column low))

-- a number from 2 ^ 63 on shows a gap
shown_case : (first second : List ℕ) (k : ℕ) (before : List ℕ) (r : ℕ) (after : List ℕ) → Shows first second k before r after → 2 ^ 63 ≤ r
    → (shape : Shape) × Shown 8192 first second k before (S.Shown shape, after) × ShapeBack shape r
shown_case first second k before r after (S.Shown shape, s, code) high = (shape, s, shape-back first second k before r after shape s code)
shown_case first second k before r after (S.Refused n table place, s, code) high =
    absurd (omega (arith, (gives_back n table place r (gap-fits first second k before (S.Refused n table place, after) s).0 code).low))

module _ (first second : List ℕ) (k : ℕ) (before : List ℕ) (r : ℕ) (after : List ℕ) (answered : Shows first second k before r after)
    (high : 2 ^ 63 ≤ r) where
  -- what is read off the number and the buffer can be asked, is gap k, and only the first table allows it
  pub gap-asked : CanBeAsked (asked_by r after)
      × (judge_returns first (asked_by r after) ≡ 1)
      × (judge_returns second (asked_by r after) ≡ 1 → ⊥)
      × IsGap (rows_of first) (rows_of second) k (request_asked (asked_by r after))
  gap-asked =
      let (shape, s, back) = shown_case first second k before r after answered high in
      let same = asks-shown first second k before r after shape s back in
      let means = shown-means 8192 first second k before shape after s in (
        shown-can first second k before r after shape s back,
        ap (λ (x : List Value). judgement_code (judgement first x)) same ∙ ap judgement_code means.allowed,
        λ one. means.missed (ap (judgement second) (sym same) ∙ (judge-allowed second (request_asked (asked_by r after)) 1 (sym one)).0 refl),
        subst (IsGap (rows_of first) (rows_of second) k) (sym same) means.gap,
      )

  -- no byte of a shown string is zero, and all bytes behind it are
  pub strings-padded : (column : ℕ) → column < 7
      → (in_range (shown_string after column) ≡ true) × (take value_room (drop (column * value_room) after) ≡ padded (shown_string after column))
  strings-padded column low =
      let (shape, s, back) = shown_case first second k before r after answered high in
      (ranged first second k before r after shape s back column low, shown-padded first second k before r after shape s back column low)

  -- the shape of the answer is that of the request asked about
  pub shape-asked : (shape : Shape) → Shown 8192 first second k before (S.Shown shape, after) → shape ≡ shape_of (request_asked (asked_by r after))
  shape-asked shape s =
      let (other, t, back) = shown_case first second k before r after answered high in
      let one = one-answer-shown k before 8192 first second (S.Shown shape, after) (S.Shown other, after) s t in
      let shown : S.Shown shape ≡ S.Shown other = ap (λ (x : Showing × List ℕ). x.0) one in
      let same : shape ≡ other = cc in
      same
      ∙ (shown-means 8192 first second k before other after t).lengths
      ∙ ap shape_of (sym (asks-shown first second k before r after other t back))

-- gaps with different numbers are different: the one with the lower number is the earlier, and they are not alike
pub gaps-ascend : (first second : List ℕ) (i j : ℕ) → i < j → (r s : List Value)
    → IsGap (rows_of first) (rows_of second) i r → IsGap (rows_of first) (rows_of second) j s
    → Earlier r s × (AlikeFrom (rows_of first) (rows_of second) 0 r s → ⊥)
gaps-ascend first second i j up r s g h =
    let one = gaps-unique (rows_of first) (rows_of second) h.list g.list h.gaps g.gaps in
    let there : s ≡ get_or g.list j [] = h.here ∙ ap (λ (l : List (List Value)). get_or l j []) one in
    let low : j < length g.list = subst (λ (l : List (List Value)). j < length l) one h.low in
    let apart = gaps-once (rows_of first) (rows_of second) g.list g.gaps i j up low in
    rw (g.here, there) apart

-- so are the questions that they hold
pub asked-ascend : (first second : List ℕ) (j k : ℕ) → j < k
    → (before : List ℕ) (r : ℕ) (after : List ℕ) → Shows first second j before r after → 2 ^ 63 ≤ r
    → (before' : List ℕ) (r' : ℕ) (after' : List ℕ) → Shows first second k before' r' after' → 2 ^ 63 ≤ r'
    → Earlier (request_asked (asked_by r after)) (request_asked (asked_by r' after'))
    × (AlikeFrom (rows_of first) (rows_of second) 0 (request_asked (asked_by r after)) (request_asked (asked_by r' after')) → ⊥)
asked-ascend first second j k up before r after shown high before' r' after' shown' high' =
    gaps-ascend first second j k up (request_asked (asked_by r after)) (request_asked (asked_by r' after'))
    (gap-asked first second j before r after shown high).3 (gap-asked first second k before' r' after' shown' high').3
