-- Runs of bytes that leave the machine where it is: where they end, and that they change neither the tokens nor the fault.
use Rattle.std.proofs.Common.{Option, ℕ, suc, ◌+◌, ◌-◌, ◌≡◌, refl, ◌∙◌, ap, Bool, true, false, List, [], ◌∷◌, length, take, drop, length-drop, arith}
use Rattle.std.proofs.lemmas.List.{drop-drop, take_all}
use Rattle.std.specs.List.{prefix_len}
use Rattle.json_text.specs.Bytes.{is_blank, is_plain}
use Rattle.json_text.specs.Grammar.{Part}
use Rattle.json_text.specs.Machinery.Machine.{step_of}
use Rattle.json_text.specs.Machinery.Reading.{fault_from}
use Rattle.json_text.specs.Machinery.Tokens.{Token, tokens_from}
use Rattle.json_text.specs.Machinery.Runs.{run_of}
use Rattle.json_text.specs.declared.machine.State.{State}
use Rattle.json_text.specs.declared.machine.Phase.{Phase}
use Rattle.json_text.specs.declared.machine.Phase.TheVariants as P
use Rattle.json_text.specs.declared.strings.Inside.TheVariants as I
use Rattle.json_text.proofs.Complete.{phase_of}
use Rattle.json_text.proofs.Tokenizing.{blank-stays}

-- what one byte of a class leaves as it was, a run of them does
run-over {ℓ} : {X : Type ℓ} (f : ℕ → Bool) (g : ℕ → List ℕ → X) → ((n b : ℕ) (s : List ℕ) → f b ≡ true → g n (b ∷ s) ≡ g (n + 1) s)
    → (n : ℕ) (s : List ℕ) → g n s ≡ g (n + prefix_len f s) (drop (prefix_len f s) s)
run-over f g h n [] = ap (λ (m : ℕ). g m []) (omega arith)
run-over {X = X} f g h n (b ∷ s) = go (f b) refl (run-over f g h (n + 1) s)
  where
    go : (x : Bool) → f b ≡ x → g (n + 1) s ≡ g (n + 1 + prefix_len f s) (drop (prefix_len f s) s)
        → g n (b ∷ s) ≡ g (n + prefix_len f (b ∷ s)) (drop (prefix_len f (b ∷ s)) (b ∷ s))
    go true e r =
        let same : n + 1 + prefix_len f s ≡ n + suc (prefix_len f s) = omega arith in
        let one : 1 + prefix_len f s ≡ suc (prefix_len f s) = omega arith in
        rw (e, one) (h n b s e ∙ r ∙ ap (λ (m : ℕ). g m (drop (prefix_len f s) s)) same)
    go false e r = rw e (ap (λ (m : ℕ). g m (b ∷ s)) (omega arith))

none_over {ℓ} : {X : Type ℓ} (g : ℕ → List ℕ → X) (n : ℕ) (s : List ℕ) → g n s ≡ g (n + 0) (drop 0 s)
none_over g n s = ap (λ (m : ℕ). g m s) (omega arith)

-- the tokens behind a run are those before it
module _ (w : ℕ) where
  abbrev tokens_by : Phase → ℕ → List ℕ → List Token
  tokens_by p n s = tokens_from s p w

  blanks-over : (p : Part) (s : List ℕ) → tokens_from s (phase_of p) w ≡ tokens_from (drop (prefix_len is_blank s) s) (phase_of p) w
  blanks-over p s = run-over is_blank (tokens_by (phase_of p)) (λ n b r e. blank-stays p b r w e) 0 s

  pub tokens-over : (p : Phase) (s : List ℕ) → tokens_from s p w ≡ tokens_from (drop (run_of p s) s) p w
  tokens-over P.Value s = blanks-over Part.value s
  tokens-over P.FirstElement s = blanks-over Part.elements s
  tokens-over P.FirstMember s = blanks-over Part.members s
  tokens-over P.Member s = blanks-over Part.member s
  tokens-over P.Colon s = blanks-over Part.colon s
  tokens-over P.After s = blanks-over Part.more_elements s
  tokens-over (P.Text role I.Plain) s = run-over is_plain (tokens_by (P.Text role I.Plain)) (λ n b r e. rw e) 0 s
  tokens-over (P.Text role I.Escape) s = refl
  tokens-over (P.Text role I.Code) s = refl
  tokens-over (P.Text role I.Zero) s = refl
  tokens-over (P.Text role I.High) s = refl
  tokens-over (P.Text role I.Low) s = refl
  tokens-over (P.Text role I.One) s = refl
  tokens-over (P.Text role I.Two) s = refl
  tokens-over (P.Text role I.Three) s = refl
  tokens-over (P.Text role I.AfterE0) s = refl
  tokens-over (P.Text role I.AfterED) s = refl
  tokens-over (P.Text role I.AfterF0) s = refl
  tokens-over (P.Text role I.AfterF4) s = refl
  tokens-over (P.Number n) s = refl
  tokens-over (P.Word d) s = refl

-- the fault behind a run is that before it
module _ (w : ℕ) where
  abbrev fault_by : Phase → ℕ → List ℕ → Option ℕ
  fault_by p n s = fault_from s n (record { phase = p; stack = w })

  pub fault-over : (p : Phase) (n : ℕ) (s : List ℕ)
      → fault_from s n (record { phase = p; stack = w }) ≡ fault_from (drop (run_of p s) s) (n + run_of p s) (record { phase = p; stack = w })
  unfolding step_of
  fault-over P.Value n s = run-over is_blank (fault_by P.Value) (λ m b r e. rw e) n s
  fault-over P.FirstElement n s = run-over is_blank (fault_by P.FirstElement) (λ m b r e. rw e) n s
  fault-over P.FirstMember n s = run-over is_blank (fault_by P.FirstMember) (λ m b r e. rw e) n s
  fault-over P.Member n s = run-over is_blank (fault_by P.Member) (λ m b r e. rw e) n s
  fault-over P.Colon n s = run-over is_blank (fault_by P.Colon) (λ m b r e. rw e) n s
  fault-over P.After n s = run-over is_blank (fault_by P.After) (λ m b r e. rw e) n s
  fault-over (P.Text role I.Plain) n s = run-over is_plain (fault_by (P.Text role I.Plain)) (λ m b r e. rw e) n s
  fault-over (P.Text role I.Escape) n s = none_over (fault_by (P.Text role I.Escape)) n s
  fault-over (P.Text role I.Code) n s = none_over (fault_by (P.Text role I.Code)) n s
  fault-over (P.Text role I.Zero) n s = none_over (fault_by (P.Text role I.Zero)) n s
  fault-over (P.Text role I.High) n s = none_over (fault_by (P.Text role I.High)) n s
  fault-over (P.Text role I.Low) n s = none_over (fault_by (P.Text role I.Low)) n s
  fault-over (P.Text role I.One) n s = none_over (fault_by (P.Text role I.One)) n s
  fault-over (P.Text role I.Two) n s = none_over (fault_by (P.Text role I.Two)) n s
  fault-over (P.Text role I.Three) n s = none_over (fault_by (P.Text role I.Three)) n s
  fault-over (P.Text role I.AfterE0) n s = none_over (fault_by (P.Text role I.AfterE0)) n s
  fault-over (P.Text role I.AfterED) n s = none_over (fault_by (P.Text role I.AfterED)) n s
  fault-over (P.Text role I.AfterF0) n s = none_over (fault_by (P.Text role I.AfterF0)) n s
  fault-over (P.Text role I.AfterF4) n s = none_over (fault_by (P.Text role I.AfterF4)) n s
  fault-over (P.Number x) n s = none_over (fault_by (P.Number x)) n s
  fault-over (P.Word d) n s = none_over (fault_by (P.Word d)) n s

-- a run from a place of a text on, which has so many bytes
module _ (t : List ℕ) (at n : ℕ) (s : State) (e : n ≡ run_of s.phase (take (length t - at) (drop at t))) where
  run-here : n ≡ run_of s.phase (drop at t)
  run-here = rw (take_all (length t - at) (drop at t) (simp length-drop (omega arith))) at e

  pub tokens-behind : tokens_from (drop at t) s.phase s.stack ≡ tokens_from (drop (at + n) t) s.phase s.stack
  tokens-behind = rw (← run-here, drop-drop n at t) at (tokens-over s.stack s.phase (drop at t))

  pub fault-behind : fault_from (drop at t) at s ≡ fault_from (drop (at + n) t) (at + n) s
  fault-behind = rw (← run-here, drop-drop n at t) at (fault-over s.stack s.phase at (drop at t))
