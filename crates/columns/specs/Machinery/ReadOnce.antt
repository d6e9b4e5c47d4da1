-- That two tables were read is shown in one way at most, as a ghost field asks: what a record leads to is one state.
use mathlib.Core.HLevel.{is_prop→PathP}
use Rattle.std.specs.Prelude.{◌≡◌, ℕ, Bool, true, false, List, [], ◌∷◌, ◌⊎◌, length, refl}
use Rattle.std.specs.Coded.{Coded, Coded-set, coded_ℕ, coded_bool, coded×, coded⊎, code_by, le_prop}
use Rattle.std.proofs.Common.{inl, inr, sym, ap, ◌∙◌}
use Rattle.stored.specs.Machine.{Turn as T, Turn, is_ended}
use Rattle.stored.specs.declared.items.Sort.{Sort}
use Rattle.stored.specs.declared.items.Sort.TheVariants as S
use Rattle.stored.specs.declared.machine.Phase.{Phase}
use Rattle.stored.specs.declared.machine.Phase.TheVariants as P
use Rattle.stored.specs.declared.machine.State.{State}
use Rattle.stored.specs.Entries.{Entry, entries_of}
use Rattle.stored.specs.Machinery.Following.{admit, Follows}
use Rattle.judging.specs.Judging.{rows_of}
use Rattle.columns.specs.Machinery.Both.{BothRead}

-- a phase as three bits, and back
abbrev phase_bits : Phase → Bool × (Bool × Bool)
phase_bits P.Fresh = (false, (false, false))
phase_bits P.Counted = (false, (false, true))
phase_bits P.Opened = (false, (true, false))
phase_bits P.Principals = (false, (true, true))
phase_bits P.Actions = (true, (false, false))
phase_bits P.Resources = (true, (false, true))
phase_bits P.Conditions = (true, (true, false))
phase_bits P.Ended = (true, (true, true))

abbrev phase_by : Bool × (Bool × Bool) → Phase
phase_by (false, (false, false)) = P.Fresh
phase_by (false, (false, true)) = P.Counted
phase_by (false, (true, false)) = P.Opened
phase_by (false, (true, true)) = P.Principals
phase_by (true, (false, false)) = P.Actions
phase_by (true, (false, true)) = P.Resources
phase_by (true, (true, false)) = P.Conditions
phase_by (true, (true, true)) = P.Ended

phase_back : (p : Phase) → phase_by (phase_bits p) ≡ p
phase_back P.Fresh = refl
phase_back P.Counted = refl
phase_back P.Opened = refl
phase_back P.Principals = refl
phase_back P.Actions = refl
phase_back P.Resources = refl
phase_back P.Conditions = refl
phase_back P.Ended = refl

abbrev sort_bit : Sort → Bool
sort_bit S.Text = false
sort_bit S.Address = true

abbrev sort_by : Bool → Sort
sort_by false = S.Text
sort_by true = S.Address

sort_back : (s : Sort) → sort_by (sort_bit s) ≡ s
sort_back S.Text = refl
sort_back S.Address = refl

abbrev coded_phase : Coded Phase
coded_phase = code_by (Bool × (Bool × Bool)) (coded× coded_bool (coded× coded_bool coded_bool)) phase_bits phase_by phase_back

abbrev coded_sort : Coded Sort
coded_sort = code_by Bool coded_bool sort_bit sort_by sort_back

-- a state is its fields
abbrev coded_state : Coded State
coded_state =
    code_by
    (Phase × (ℕ × (ℕ × (ℕ × (ℕ × (Bool × Sort))))))
    (coded× coded_phase (coded× coded_ℕ (coded× coded_ℕ (coded× coded_ℕ (coded× coded_ℕ (coded× coded_bool coded_sort))))))
    (λ s. (s.phase, (s.rows, (s.left, (s.values, (s.conditions, (s.waiting, s.sort)))))))
    (λ (phase, (rows, (left, (values, (conditions, (waiting, sort)))))).
    record { phase = phase; rows = rows; left = left; values = values; conditions = conditions; waiting = waiting; sort = sort })
    (λ _. refl)

abbrev turn_sides : Turn → State ⊎ ℕ
turn_sides (T.Next s) = inl s
turn_sides (T.Refused n) = inr n

abbrev turn_by : State ⊎ ℕ → Turn
turn_by (inl s) = T.Next s
turn_by (inr n) = T.Refused n

turn_back : (t : Turn) → turn_by (turn_sides t) ≡ t
turn_back (T.Next s) = refl
turn_back (T.Refused n) = refl

abbrev coded_turn : Coded Turn
coded_turn = code_by (State ⊎ ℕ) (coded⊎ coded_state coded_ℕ) turn_sides turn_by turn_back

-- the state that a turn leads to
abbrev state_behind : State → Turn → State
state_behind s (T.Next next) = next
state_behind s (T.Refused n) = s

next-prop : (t : Turn) (F : State → Type 0) → ((s : State) → IsProp (F s)) → IsProp ((next : State) × (t ≡ T.Next next) × F next)
next-prop t F one x y =
    let same : x.0 ≡ y.0 = ap (state_behind x.0) (sym x.1 ∙ y.1) in
    λ i. (
      same i,
      is_prop→PathP (λ j. t ≡ T.Next (same j)) (λ j. Coded-set coded_turn t (T.Next (same j))) x.1 y.1 i,
      is_prop→PathP (λ j. F (same j)) (λ j. one (same j)) x.2 y.2 i,
    )

Follows-prop : (s : State) (es : List Entry) → IsProp (Follows s es)
Follows-prop s [] = Coded-set coded_bool (is_ended s.phase) true
Follows-prop s (e ∷ es) = next-prop (admit s e) (λ next. Follows next es) (λ next. Follows-prop next es)

pub BothRead-prop : (first second : List ℕ) (size : ℕ) → IsProp (BothRead first second size)
BothRead-prop first second size x y =
    λ i. record {
      one = Follows-prop _ (entries_of first) x.one y.one i;
      two = Follows-prop _ (entries_of second) x.two y.two i;
      few = le_prop x.few y.few i;
      more = le_prop x.more y.more i;
      rows = Coded-set coded_ℕ size (length (rows_of first)) x.rows y.rows i;
    }
