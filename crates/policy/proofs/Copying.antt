-- A string's bytes copied into an array, one after the other.
use Rattle.std.proofs.Common.{ℕ, ◌+◌, ◌≤◌, ◌<◌, ◌≡◌, sym, ◌∙◌, ap, List, [], ◌∷◌, ◌++◌, append-nil, append_assoc, add-one, length, take, set, take_all, take-suc-set, length-take-le}

pub goes_on_lem : (bytes left rest c : List ℕ) (i x : ℕ) → i < length bytes → left ≡ x ∷ rest → take i bytes ++ left ≡ c
    → take (i + 1) (set bytes i x) ++ rest ≡ c
goes_on_lem bytes left rest c i x h p e =
    rw (add-one, take-suc-set bytes i x h)
    (append_assoc (take i bytes) (x ∷ []) rest ∙ ap (λ (r : List ℕ). take i bytes ++ r) (sym p) ∙ e)

pub whole : (bytes left c : List ℕ) (i : ℕ) → i ≤ length bytes → left ≡ [] → take i bytes ++ left ≡ c → take i bytes ≡ take (length bytes) c
whole bytes left c i h p e =
    let all : take i bytes ≡ c = sym (append-nil (take i bytes)) ∙ ap (λ (r : List ℕ). take i bytes ++ r) (sym p) ∙ e in
    let short : length (take i bytes) ≤ length bytes = rw (length-take-le i bytes h) h in
    sym (take_all (length bytes) (take i bytes) short) ∙ ap (take (length bytes)) all
