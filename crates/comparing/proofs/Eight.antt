-- What has eight columns is eight values, one behind the other.
use Rattle.std.proofs.Common.{◌≡◌, List, [], ◌∷◌, arith, length}
use Rattle.judging.specs.Requests.{Value, columns}

-- what holds of every eight values holds of every list of eight
pub of-eight : (P : List Value → Type 0)
    → ((a b c d e f g h : Value) → P (a ∷ b ∷ c ∷ d ∷ e ∷ f ∷ g ∷ h ∷ []))
    → (r : List Value) → length r ≡ columns → P r
of-eight P all [] n = absurd (omega arith)
of-eight P all (a ∷ []) n = absurd (omega arith)
of-eight P all (a ∷ b ∷ []) n = absurd (omega arith)
of-eight P all (a ∷ b ∷ c ∷ []) n = absurd (omega arith)
of-eight P all (a ∷ b ∷ c ∷ d ∷ []) n = absurd (omega arith)
of-eight P all (a ∷ b ∷ c ∷ d ∷ e ∷ []) n = absurd (omega arith)
of-eight P all (a ∷ b ∷ c ∷ d ∷ e ∷ f ∷ []) n = absurd (omega arith)
of-eight P all (a ∷ b ∷ c ∷ d ∷ e ∷ f ∷ g ∷ []) n = absurd (omega arith)
of-eight P all (a ∷ b ∷ c ∷ d ∷ e ∷ f ∷ g ∷ h ∷ []) n = all a b c d e f g h
of-eight P all (a ∷ b ∷ c ∷ d ∷ e ∷ f ∷ g ∷ h ∷ i ∷ r) n = absurd (omega arith)
