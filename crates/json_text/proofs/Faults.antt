-- Where the machine stops, in words of what it takes.
use Rattle.std.proofs.Common.{Option, Some, None, ℕ, zero, suc, ◌+◌, ◌≤◌, ◌<◌, ◌≡◌, refl, sym, subst, Bool, true, false, List, [], ◌∷◌, ◌++◌, length, take, arith}
use Rattle.json_text.specs.Choice.{pick}
use Rattle.json_text.specs.Machinery.Machine.{step_in, step_of, is_ended}
use Rattle.json_text.specs.declared.machine.Phase.{Phase}
use Rattle.json_text.specs.declared.machine.State.{State}
use Rattle.json_text.proofs.Choosing.{never}
use Rattle.json_text.proofs.Stacks.{Bracket, code}
use Rattle.json_text.proofs.Accepting.{accepts}
use Rattle.json_text.specs.Machinery.Reading.{onward, fault_from}
use Rattle.json_text.proofs.Remaining.{Fits}
use Rattle.json_text.proofs.Stepping.{at, steps}
use Rattle.json_text.proofs.Completing.{completion, completes}

-- the machine stops behind i bytes of t
pub record Stops (t : List ℕ) (p : Phase) (w i : ℕ) : Type 0 where
  pub inside : i ≤ length t
  pub refused : accepts t p w ≡ false
  pub begins : (u : List ℕ) × (accepts (take i t ++ u) p w ≡ true)
  pub longest : (m : ℕ) → i < m → m ≤ length t → (u : List ℕ) → accepts (take m t ++ u) p w ≡ true → ⊥

abbrev pub Outcome : List ℕ → ℕ → Phase → ℕ → Option ℕ → Type 0
Outcome t n p w None = accepts t p w ≡ true
Outcome t n p w (Some q) = (i : ℕ) × (q ≡ n + i) × Stops t p w i

-- the byte at hand is not taken
stuck : (t : List ℕ) (p : Phase) (ks : List Bracket) (b : ℕ) → Fits p ks → step_in p (code ks) b ≡ None → Stops (b ∷ t) p (code ks) 0
stuck t p ks b f e =
    record {
      inside = omega arith;
      refused = rw e;
      begins = (completion p ks, completes p ks f);
      longest = go;
    }
  where
    go : (m : ℕ) → 0 < m → m ≤ suc (length t) → (u : List ℕ) → accepts (take m (b ∷ t) ++ u) p (code ks) ≡ true → ⊥
    go zero l k u h = omega arith
    go (suc m) l k u h = let x : false ≡ true = rw e at h in never (cc)

-- the byte at hand is taken
on : (t : List ℕ) (p : Phase) (w b : ℕ) (s : State) (i : ℕ) → step_in p w b ≡ Some s → Stops t s.phase s.stack i → Stops (b ∷ t) p w (suc i)
on t p w b s i e x =
    record {
      inside = omega (arith, x.inside);
      refused = rw e x.refused;
      begins = (x.begins.0, rw e x.begins.1);
      longest = go;
    }
  where
    go : (m : ℕ) → suc i < m → m ≤ suc (length t) → (u : List ℕ) → accepts (take m (b ∷ t) ++ u) p w ≡ true → ⊥
    go zero l k u h = omega arith
    go (suc m) l k u h = x.longest m (omega arith) (omega arith) u (rw e at h)

pub outcome : (t : List ℕ) (n : ℕ) (p : Phase) (ks : List Bracket) → Fits p ks → Outcome t n p (code ks) (fault_from t n (at p ks))
unfolding step_of is_ended
outcome [] n p ks f = go (accepts [] p (code ks)) refl
  where
    go : (x : Bool) → accepts [] p (code ks) ≡ x → Outcome [] n p (code ks) (pick x None (Some n))
    go true e = e
    go false e = (
      0,
      omega arith,
      record {
        inside = omega arith;
        refused = e;
        begins = (completion p ks, completes p ks f);
        longest = λ m l k u h. absurd (omega arith);
      },
    )
outcome (b ∷ t) n p ks f = go (step_in p (code ks) b) refl (outcome t)
  where
    past : (s : State) → step_in p (code ks) b ≡ Some s → (x : Option ℕ) → Outcome t (n + 1) s.phase s.stack x → Outcome (b ∷ t) n p (code ks) x
    past s e None y = rw e y
    past s e (Some q) y = (suc y.0, omega (arith, y.1), on t p (code ks) b s y.0 e y.2)

    go : (v : Option State) → step_in p (code ks) b ≡ v
        → ((n : ℕ) (q : Phase) (ls : List Bracket) → Fits q ls → Outcome t n q (code ls) (fault_from t n (at q ls)))
        → Outcome (b ∷ t) n p (code ks) (onward (fault_from t (n + 1)) n v)
    go (Some s) e ih =
        let x = steps b s p ks f e in
        past s e (fault_from t (n + 1) s)
        (subst (λ (r : State). Outcome t (n + 1) r.phase r.stack (fault_from t (n + 1) r)) (sym x.same) (ih (n + 1) x.phase x.stack x.fits))
    go None e ih = (0, omega arith, stuck t p ks b f e)
