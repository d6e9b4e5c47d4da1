-- Which values a column admits, by the column's sort.
use Rattle.std.proofs.Common.{ℕ, ◌≤◌, ◌<◌, sym, subst, Bool, ltb, lt-ltb, le-ltb}
use Rattle.stored.specs.Choice.{pick}
use Rattle.judging.specs.Requests.{Value}
use Rattle.comparing.specs.Requests.{Admitted, AdmitsNeeded, AdmitsOptional, AdmitsAddress}

-- columns 0 to 2
pub needed : (column : ℕ) → column < 3 → (v : Value) → Admitted column v → AdmitsNeeded v
needed column h v ok =
    subst (λ (t : Bool). pick t (AdmitsNeeded v) (pick (ltb column 7) (AdmitsOptional v) (AdmitsAddress v))) (lt-ltb column 3 h) ok

pub is-needed : (column : ℕ) → column < 3 → (v : Value) → AdmitsNeeded v → Admitted column v
is-needed column h v ok =
    subst (λ (t : Bool). pick t (AdmitsNeeded v) (pick (ltb column 7) (AdmitsOptional v) (AdmitsAddress v))) (sym (lt-ltb column 3 h)) ok

-- columns 3 to 6
pub optional : (column : ℕ) → 3 ≤ column → column < 7 → (v : Value) → Admitted column v → AdmitsOptional v
optional column l h v ok =
    subst (λ (t : Bool). pick t (AdmitsOptional v) (AdmitsAddress v)) (lt-ltb column 7 h)
    (subst (λ (t : Bool). pick t (AdmitsNeeded v) (pick (ltb column 7) (AdmitsOptional v) (AdmitsAddress v))) (le-ltb column 3 l) ok)

pub is-optional : (column : ℕ) → 3 ≤ column → column < 7 → (v : Value) → AdmitsOptional v → Admitted column v
is-optional column l h v ok =
    subst (λ (t : Bool). pick t (AdmitsNeeded v) (pick (ltb column 7) (AdmitsOptional v) (AdmitsAddress v))) (sym (le-ltb column 3 l))
    (subst (λ (t : Bool). pick t (AdmitsOptional v) (AdmitsAddress v)) (sym (lt-ltb column 7 h)) ok)
