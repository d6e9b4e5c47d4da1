-- Walking kinds: each record passed leads to a later place inside the input, so that more fuel than the bytes left changes nothing.
use Rattle.std.proofs.Common.{ℕ, zero, suc, ◌+◌, ◌-◌, ◌≤◌, ◌<◌, ◌≡◌, ◌≢◌, refl, sym, ◌∙◌, ap, Bool, true, false, List, ◌∷◌, arith, ltb, length, get_or, drop, length-drop, drop-drop, add-zero, lt-ltb, le-ltb, ltb-true, ltb-false}
use Rattle.std.proofs.lemmas.List.{get_or-drop}
use Rattle.stored.specs.Choice.{pick}
use Rattle.stored.specs.Records.{kind_of, size_of}
use Rattle.stored.specs.declared.records.Kind.{Kind}
use Rattle.stored.specs.declared.records.Kind.TheVariants as K
use Rattle.gaps.specs.Split.{behind_body, passed_kind, passed_at, after_passed, end_from}
use Rattle.std.specs.declared.ops.ControlFlow.{ControlFlow}
use Rattle.std.specs.declared.ops.ControlFlow.TheVariants.{Continue, Break}

-- what a record leads to lies behind its kind, and inside the input
abbrev Inside : List ℕ → ℕ → ControlFlow ℕ ℕ → Type 0
Inside t start (Continue next) = (start ≤ next) × (next ≤ length t)
Inside t start (Break end) = end ≤ length t

body-inside : (t : List ℕ) (start size : ℕ) → start ≤ length t → Inside t start (behind_body t start size)
body-inside t start size h = by-test (ltb (length t - start) size) refl
  where
    by-test : (b : Bool) → ltb (length t - start) size ≡ b
        → Inside t start (pick b (Break (length t)) (Continue (start + size)))
    by-test true e = omega arith
    by-test false e = let room = ltb-false (length t - start) size e in (omega arith, omega arith)

kind-inside : (t : List ℕ) (start size : ℕ) (k : Kind) → start ≤ length t → Inside t start (passed_kind t start size k)
kind-inside t start size K.Start h = body-inside t start size h
kind-inside t start size K.Statement h = body-inside t start size h
kind-inside t start size K.Column h = body-inside t start size h
kind-inside t start size K.Condition h = body-inside t start size h
kind-inside t start size K.End h = h
kind-inside t start size K.Network h = body-inside t start size h
kind-inside t start size (K.Value n) h = body-inside t start size h
kind-inside t start size K.Unknown h = omega arith

record-inside : (t : List ℕ) (at : ℕ) → at < length t → Inside t (at + 1) (passed_at t at)
unfolding passed_at
record-inside t at h = kind-inside t (at + 1) (size_of (kind_of (get_or t at 0))) (kind_of (get_or t at 0)) (omega arith)

-- the next record is a later one
goes-inside : (t : List ℕ) (at next : ℕ) → at < length t → passed_at t at ≡ Continue next → (at < next) × (next ≤ length t)
goes-inside t at next h e =
    let i : Inside t (at + 1) (Continue next) = rw e at (record-inside t at h) in
    (omega arith, i.1)

-- at the end of the input the walk has met no 05, whatever the fuel
at-end : (f : ℕ) (t : List ℕ) (at : ℕ) → length t ≤ at → end_from f t at ≡ length t
at-end zero t at h = refl
at-end (suc f) t at h = rw (le-ltb at (length t) h)

-- the fuel does not matter once it is the bytes left
enough : (f g : ℕ) (t : List ℕ) (at : ℕ) → length t - at ≤ f → length t - at ≤ g → end_from f t at ≡ end_from g t at
enough zero g t at hf hg = sym (at-end g t at (omega arith))
enough (suc f) zero t at hf hg = at-end (suc f) t at (omega arith)
enough (suc f) (suc g) t at hf hg = by_place (ltb at (length t)) refl (λ p h. enough f g t p (omega arith) (omega arith))
  where
    by-record : (r : ControlFlow ℕ ℕ) → at < length t → passed_at t at ≡ r
        → ((p : ℕ) → (at < p) × (p ≤ length t) → end_from f t p ≡ end_from g t p)
        → after_passed (end_from f t) r ≡ after_passed (end_from g t) r
    by-record (Continue p) h e go = go p (goes-inside t at p h e)
    by-record (Break p) h e go = refl

    by_place : (b : Bool) → ltb at (length t) ≡ b
        → ((p : ℕ) → (at < p) × (p ≤ length t) → end_from f t p ≡ end_from g t p)
        → pick b (after_passed (end_from f t) (passed_at t at)) (length t)
        ≡ pick b (after_passed (end_from g t) (passed_at t at)) (length t)
    by_place true e go = by-record (passed_at t at) (ltb-true at (length t) e) refl go
    by_place false e go = refl

-- no kind but two is passed in a way of its own
other-kind : (t : List ℕ) (start size : ℕ) (k : Kind) → k ≢ K.End → k ≢ K.Unknown → passed_kind t start size k ≡ behind_body t start size
other-kind t start size K.Start e u = refl
other-kind t start size K.Statement e u = refl
other-kind t start size K.Column e u = refl
other-kind t start size K.Condition e u = refl
other-kind t start size K.End e u = absurd (e refl)
other-kind t start size K.Network e u = refl
other-kind t start size (K.Value n) e u = refl
other-kind t start size K.Unknown e u = absurd (u refl)

-- what is left of an input, from a record on: the walk goes on from there as the record's kind says
module _ (t : List ℕ) (at byte : ℕ) (behind : List ℕ) (left : drop at t ≡ byte ∷ behind) where
  abbrev pub body : ℕ
  body = size_of (kind_of byte)

  room : length t - at ≡ suc (length behind)
  room = sym (length-drop at t) ∙ ap length left

  here : at < length t
  here = omega (arith, room)

  record-passed : passed_at t at ≡ passed_kind t (at + 1) body (kind_of byte)
  unfolding passed_at
  record-passed =
      ap (λ (b : ℕ). passed_kind t (at + 1) (size_of (kind_of b)) (kind_of b))
      (ap (λ (k : ℕ). get_or t k 0) (sym (add-zero at)) ∙ sym (get_or-drop at t 0 0) ∙ ap (λ (l : List ℕ). get_or l 0 0) left)

  goes : end_from (suc (length behind)) t at ≡ after_passed (end_from (length behind) t) (passed_kind t (at + 1) body (kind_of byte))
  goes = rw (lt-ltb at (length t) here) (ap (after_passed (end_from (length behind) t)) record-passed)

  -- behind a record 05 the first table ends
  pub ends-behind : kind_of byte ≡ K.End → end_from (suc (length behind)) t at ≡ at + 1
  ends-behind e = goes ∙ ap (λ (k : Kind). after_passed (end_from (length behind) t) (passed_kind t (at + 1) body k)) e

  -- an unknown kind ends the walk
  pub ends-unknown : kind_of byte ≡ K.Unknown → end_from (suc (length behind)) t at ≡ length t
  ends-unknown e = goes ∙ ap (λ (k : Kind). after_passed (end_from (length behind) t) (passed_kind t (at + 1) body k)) e

  module _ (end : kind_of byte ≢ K.End) (unknown : kind_of byte ≢ K.Unknown) where
    body-passed : end_from (suc (length behind)) t at ≡ after_passed (end_from (length behind) t) (behind_body t (at + 1) body)
    body-passed = goes ∙ ap (after_passed (end_from (length behind) t)) (other-kind t (at + 1) body (kind_of byte) end unknown)

    -- so does a body that the bytes end in
    pub ends-inside : length behind < body → end_from (suc (length behind)) t at ≡ length t
    ends-inside cut =
        body-passed
        ∙ ap (λ (b : Bool). after_passed (end_from (length behind) t) (pick b (Break (length t)) (Continue (at + 1 + body))))
        (lt-ltb (length t - (at + 1)) body (omega (arith, room)))

    -- behind every other body the walk goes on
    pub goes-behind : (others : List ℕ) → others ≡ drop body behind → body ≤ length behind
        → end_from (suc (length behind)) t at ≡ end_from (length others) t (at + 1 + body)
    goes-behind others e whole =
        body-passed
        ∙ ap (λ (b : Bool). after_passed (end_from (length behind) t) (pick b (Break (length t)) (Continue (at + 1 + body))))
        (le-ltb (length t - (at + 1)) body (omega (arith, room)))
        ∙ enough (length behind) (length others) t (at + 1 + body) (omega (arith, room)) (omega (arith, room, ap length e, length-drop body behind))

    -- what is left then
    pub left-behind : (others : List ℕ) → others ≡ drop body behind → drop (at + 1 + body) t ≡ others
    left-behind others e =
        let place : at + 1 + body ≡ at + suc body = omega arith in
        ap (λ (k : ℕ). drop k t) place ∙ sym (drop-drop (suc body) at t) ∙ ap (drop (suc body)) left ∙ sym e
