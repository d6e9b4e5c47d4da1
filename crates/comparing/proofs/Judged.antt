-- A request has no faulty column, so the judge says of it what the statements of a table that reads say; and so the judge answers the
-- same for two requests that are alike.
use Rattle.std.proofs.Common.{ℕ, suc, ◌≡◌, refl, sym, ◌∙◌, ap, ap₂, Bool, true, false, not, ◌&&◌, ◌||◌, List, [], ◌∷◌, ◌↔◌, arith, eqb, ltb, length, ne_eqb}
use Rattle.stored.specs.Choice.{pick}
use Rattle.stored.specs.Values.{in_range}
use Rattle.stored.specs.Reading.{reading, ReadAnswer, ReadAnswer as A}
use Rattle.judging.specs.Requests.{Value, absent, text, number, columns, is_faulty, first_fault}
use Rattle.judging.specs.Meaning.{is_allowed}
use Rattle.judging.specs.Judging.{rows_of, verdict, judged_as, judgement, Judgement as J}
use Rattle.judging.proofs.Promises.{allowed-exactly}
use Rattle.judging.proofs.Refusing.{request-sound}
use Rattle.comparing.specs.Requests.{AdmitsNeeded, AdmitsOptional, AdmitsAddress, Admitted, Each, IsRequest}
use Rattle.comparing.specs.Gaps.{AlikeFrom}
use Rattle.comparing.proofs.Alike.{each-length, verdict-first, verdict-second}

-- an admitted value is no fault
no-fault : (column : ℕ) (v : Value) → Admitted column v → is_faulty column v ≡ false
no-fault column absent a = by (ltb column 3) (ltb column 7) a
  where
    by : (t u : Bool) → pick t (AdmitsNeeded absent) (pick u (AdmitsOptional absent) (AdmitsAddress absent)) → t ≡ false
    by true u a = absurd a
    by false u a = refl
no-fault column (text s) a = by (ltb column 3) (ltb column 7) a
  where
    by : (t u : Bool) → pick t (AdmitsNeeded (text s)) (pick u (AdmitsOptional (text s)) (AdmitsAddress (text s)))
        → ((t && eqb (length s) 0) || not (in_range s)) ≡ false
    by true u a = ap₂ (λ (x y : Bool). x || not y) (ne_eqb (length s) 0 (λ e. omega (arith, a.0))) a.1
    by false true a = ap not a
    by false false a = absurd a
no-fault column (number n) a = by (ltb column 3) (ltb column 7) a
  where
    by : (t u : Bool) → pick t (AdmitsNeeded (number n)) (pick u (AdmitsOptional (number n)) (AdmitsAddress (number n))) → t ≡ false
    by true u a = absurd a
    by false u a = refl

-- a request has no faulty column
pub no-faults : (column : ℕ) (r : List Value) → Each Admitted column r → first_fault column r ≡ columns
no-faults column [] e = e
no-faults column (v ∷ r) e =
    ap (λ (t : Bool). pick t column (first_fault (suc column) r)) (no-fault column v e.0) ∙ no-faults (suc column) r e.1

-- the judge says Allowed of a request exactly where the statements of the table allow it
pub judged-exactly : (table : List ℕ) (n : ℕ) → reading table ≡ A.Accepted n → (r : List Value) → IsRequest r
    → (judgement table r ≡ J.Allowed) ↔ (is_allowed r (rows_of table) ≡ true)
judged-exactly table n reads r ok = allowed-exactly table r n reads (no-faults 0 r ok)

-- by any byte string, two requests with one verdict are given one answer
same-judgement : (table : List ℕ) (r s : List Value) → IsRequest r → IsRequest s → verdict r (rows_of table) ≡ verdict s (rows_of table)
    → judgement table r ≡ judgement table s
unfolding judgement
same-judgement table r s ok also same = by (reading table)
  where
    by : (x : ReadAnswer) → judged_as x r (rows_of table) ≡ judged_as x s (rows_of table)
    by (A.Accepted n) =
        sym (request-sound r (rows_of table) (first_fault 0 r) refl (omega (arith, no-faults 0 r ok)))
        ∙ same
        ∙ request-sound s (rows_of table) (first_fault 0 s) refl (omega (arith, no-faults 0 s also))
    by (A.Refused n place) = refl

-- requests that are alike are judged alike by both tables
pub alike-judged-alike : (a b : List ℕ) (r s : List Value) → IsRequest r → IsRequest s → AlikeFrom (rows_of a) (rows_of b) 0 r s
    → (judgement a r ≡ judgement a s) × (judgement b r ≡ judgement b s)
alike-judged-alike a b r s ok also alike = (
  same-judgement a r s ok also (verdict-first (rows_of a) (rows_of b) r s (eight r ok) (eight s also) alike),
  same-judgement b r s ok also (verdict-second (rows_of a) (rows_of b) r s (eight r ok) (eight s also) alike),
)
  where
    eight : (q : List Value) → IsRequest q → length q ≡ columns
    eight q is = omega (arith, each-length Admitted 0 q is)
