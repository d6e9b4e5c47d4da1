-- The first values of a column, found in a long list: of the admitted values up to a length, in order, the first of each footprint, where
-- each admitted value is like one of them.
use Rattle.std.proofs.Common.{ℕ, ◌<◌, ◌≡◌, ◌∙◌, Bool, true, false, List, inl, inr, arith, ltb, length}
use Rattle.stored.specs.Choice.{pick}
use Rattle.stored.specs.Tables.{Statement}
use Rattle.judging.specs.Requests.{Value, absent, text, number}
use Rattle.comparing.specs.Order.{Before, In, Ascending}
use Rattle.comparing.specs.Requests.{Admitted, AdmitsNeeded, AdmitsOptional, AdmitsAddress}
use Rattle.comparing.specs.Gaps.{footprint, Alike}
use Rattle.comparing.specs.Machinery.Product.{Firsts}
use Rattle.comparing.proofs.Order.{before-asym}
use Rattle.comparing.proofs.SomeAnswer.OneOfEach.{Like, one_of_each, each_in, each_like, each-ascending, each_first}

-- a value has fewer than n bytes
abbrev pub Shorter : ℕ → Value → Type 0
Shorter n absent = Unit {0}
Shorter n (text s) = length s < n
Shorter n (number k) = Unit {0}

-- no column admits both strings and numbers
not-both : (column : ℕ) (s : List ℕ) (k : ℕ) → Admitted column (text s) → Admitted column (number k) → ⊥
not-both column s k = by (ltb column 3) (ltb column 7)
  where
    by : (t u : Bool) → pick t (AdmitsNeeded (text s)) (pick u (AdmitsOptional (text s)) (AdmitsAddress (text s)))
        → pick t (AdmitsNeeded (number k)) (pick u (AdmitsOptional (number k)) (AdmitsAddress (number k))) → ⊥
    by true u p q = q
    by false true p q = q
    by false false p q = p

-- what a column admits before a short value is short
short-before : (column n : ℕ) (v w : Value) → Admitted column v → Admitted column w → Before w v → Shorter n v → Shorter n w
short-before column n v absent ok also less short = tt
short-before column n v (number k) ok also less short = tt
short-before column n absent (text s) ok also less short = absurd less
short-before column n (text u) (text s) ok also (inl p) short = omega arith
short-before column n (text u) (text s) ok also (inr p) short = omega (arith, p.0)
short-before column n (number k) (text s) ok also less short = absurd (not-both column s k also ok)

-- the short values that a column admits, in order
pub record AllShorter (column n : ℕ) (values : List Value) : Type 0 where
  pub all : (v : Value) → In v values → Admitted column v × Shorter n v
  pub order : Ascending Before values
  pub every : (v : Value) → Admitted column v → Shorter n v → In v values

-- the first of each footprint among them are the first values, where each admitted value is like a short one
pub firsts-short : (first second : List Statement) (column n : ℕ) (values : List Value) → AllShorter column n values
    → ((v : Value) → Admitted column v → (w : Value) × Admitted column w × Shorter n w × Alike first second column v w)
    → (list : List Value) × Firsts first second column list
firsts-short first second column n values a like = (
  one_of_each print values,
  record {
    all = λ v i. record { ok = (a.all v (each_in print values v i)).0; least = least v i };
    order = each-ascending print Before values a.order;
    complete = complete;
  },
)
  where
    print : Value → List Bool
    print = footprint first second column

    least : (v : Value) → In v (one_of_each print values) → (w : Value) → Admitted column w → print w ≡ print v → Before w v → ⊥
    least v i w ok same less =
        let (is, short) = a.all v (each_in print values v i) in
        each_first print Before before-asym values a.order v w i (a.every w ok (short-before column n v w is ok less short)) same less

    complete : (v : Value) → Admitted column v → Like print (one_of_each print values) v
    complete v ok =
        let (u, is, short, same) = like v ok in
        let (w, j, also) = each_like print values u (a.every u is short) in
        (w, j, same ∙ also)
