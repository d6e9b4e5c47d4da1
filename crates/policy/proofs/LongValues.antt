-- A value of over 128 bytes is refused whatever its bytes are, so that its first 129 stand for it.
use Rattle.std.proofs.Common.{ℕ, ◌<◌, Bool, true, false, ◌&&◌, ◌||◌, not, ◌≡◌, refl, sym, ◌∙◌, List, arith, eqb, leb, ltb, length, take, take_all, length-take-le, lt-ltb, leb-true, leb-false}
use Rattle.stored.specs.Choice.{pick}
use Rattle.stored.specs.Machine.{due_of, takes_kind, value_fault, value_turn, admit_item, is_text, sound_in}
use Rattle.stored.specs.Values.{in_range, has_variable}
use Rattle.stored.specs.declared.items.Item.TheVariants as I
use Rattle.stored.specs.declared.items.Sort.{Sort}
use Rattle.stored.specs.declared.records.Kind.TheVariants as K
use Rattle.stored.specs.declared.machine.Phase.{Phase}
use Rattle.stored.specs.declared.machine.Phase.TheVariants as P
use Rattle.stored.specs.declared.machine.State.{State}
use Rattle.stored.specs.Machine.{Turn as T, Turn}
use Rattle.stored.proofs.Choosing.{never}

same_kind : (p : Phase) (left n : ℕ) → takes_kind p left (K.Value n) ≡ takes_kind p left (K.Value 0)
same_kind P.Fresh left n = refl
same_kind P.Counted left n = refl
same_kind P.Opened left n = refl
same_kind P.Principals left n = refl
same_kind P.Actions left n = refl
same_kind P.Resources left n = refl
same_kind P.Conditions left n = refl
same_kind P.Ended left n = refl

-- the number of the refusal
abbrev pub long_number : State → ℕ
long_number s = pick (eqb (due_of s (K.Value 0)) 0) 6 (due_of s (K.Value 0))

fault-six : (p : Phase) (s : Sort) (bs : List ℕ) → 128 < length bs → value_fault p s bs ≡ 6
fault-six p s bs h = by (eqb (length bs) 0) (ltb 128 (length bs)) (lt-ltb 128 (length bs) h)
  where
    by : (x y : Bool) → y ≡ true → ◌≡◌ {A = ℕ} (pick (x || y) 6 (pick (in_range bs) (pick (is_text s && (not (has_variable bs) && sound_in p bs)) 0 8) 7)) 6
    by true y e = refl
    by false y e = rw e

turn-six : (s : State) (bs : List ℕ) → 128 < length bs → value_turn s bs ≡ T.Refused 6
turn-six s bs h = rw (fault-six s.phase s.sort bs h) (by (leb 64 s.values))
  where
    by : (x : Bool) → ◌≡◌ {A = Turn} (pick x (T.Refused 6) (T.Refused 6)) (T.Refused 6)
    by true = refl
    by false = refl

pub long : (s : State) (bs : List ℕ) → 128 < length bs → admit_item s I.Value bs ≡ T.Refused (long_number s)
unfolding admit_item
long s bs h = rw (turn-six s bs h, same_kind s.phase s.left (length bs)) (by (eqb (due_of s (K.Value 0)) 0))
  where
    by : (x : Bool) → ◌≡◌ {A = Turn} (pick x (T.Refused 6) (T.Refused (due_of s (K.Value 0)))) (T.Refused (pick x 6 (due_of s (K.Value 0))))
    by true = refl
    by false = refl

-- the first 129 bytes stand for all
pub first-turn : (s : State) (bs : List ℕ) → admit_item s I.Value (take 129 bs) ≡ admit_item s I.Value bs
first-turn s bs = by (leb (length bs) 128) refl
  where
    by : (x : Bool) → leb (length bs) 128 ≡ x → admit_item s I.Value (take 129 bs) ≡ admit_item s I.Value bs
    by true e = rw (take_all 129 bs (omega (arith, leb-true (length bs) 128 e)))
    by false e =
        let h = leb-false (length bs) 128 e in
        long s (take 129 bs) (rw (length-take-le 129 bs (omega arith)) (omega arith)) ∙ sym (long s bs h)

-- a value that is taken is all of its first 129 bytes
pub taken-whole : (s next : State) (bs : List ℕ) → admit_item s I.Value bs ≡ T.Next next → take 129 bs ≡ bs
taken-whole s next bs h = by (leb (length bs) 128) refl
  where
    by : (x : Bool) → leb (length bs) 128 ≡ x → take 129 bs ≡ bs
    by true e = take_all 129 bs (omega (arith, leb-true (length bs) 128 e))
    by false e =
        let no : T.Refused (long_number s) ≡ T.Next next = sym (long s bs (leb-false (length bs) 128 e)) ∙ h in
        never (cc)
