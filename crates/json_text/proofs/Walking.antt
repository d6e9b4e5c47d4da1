-- A walk over the bytes of a text that takes every token as it is met: one byte, in terms of the tokens from there on.
use Rattle.std.proofs.Common.{Some, None, ℕ, suc, ◌+◌, ◌-◌, ◌≤◌, ◌<◌, ◌≡◌, ◌∙◌, ap, List, [], length, get_or, drop, length-drop, drop_of_length-le, arith}
use Rattle.json_text.specs.Machinery.Machine.{step_in, step_of}
use Rattle.json_text.specs.Machinery.Events.{event_of}
use Rattle.json_text.specs.Machinery.Tokens.{marked, further, tokens_from}
use Rattle.json_text.specs.declared.machine.Phase.{Phase}
use Rattle.json_text.specs.declared.machine.State.{State}
use Rattle.std.proofs.lemmas.List.{drop_more}

-- one byte, whatever it leads to
met : (t : List ℕ) (at : ℕ) (p : Phase) (w : ℕ) → at < length t
    → tokens_from (drop at t) p w
    ≡ marked (event_of p (get_or t at 0)) (length t - at) (drop (at + 1) t) (further (tokens_from (drop (at + 1) t)) (step_in p w (get_or t at 0)))
met t at p w h =
    let place : suc (length (drop (at + 1) t)) ≡ length t - at = simp length-drop (omega arith) in
    rw (drop_more t at 0 h)
    (ap (λ (n : ℕ). marked (event_of p (get_or t at 0)) n (drop (at + 1) t) (further (tokens_from (drop (at + 1) t)) (step_in p w (get_or t at 0)))) place)

module _ (t : List ℕ) (at : ℕ) (j : State) (h : at < length t) where
  -- a byte that the machine takes
  pub taken : (k : State) → step_of j (get_or t at 0) ≡ Some k
      → tokens_from (drop at t) j.phase j.stack
      ≡ marked (event_of j.phase (get_or t at 0)) (length t - at) (drop (at + 1) t) (tokens_from (drop (at + 1) t) k.phase k.stack)
  unfolding step_of
  taken k e = met t at j.phase j.stack h ∙ rw e

  -- a byte that is no token
  pub passed : (k : State) → step_of j (get_or t at 0) ≡ Some k → event_of j.phase (get_or t at 0) ≡ None
      → tokens_from (drop at t) j.phase j.stack ≡ tokens_from (drop (at + 1) t) k.phase k.stack
  passed k e f = taken k e ∙ rw f

  -- a byte that fails is the last
  pub broken : (p : Phase) (w : ℕ) → step_of j (get_or t at 0) ≡ None
      → tokens_from (drop at t) j.phase j.stack
      ≡ marked (event_of j.phase (get_or t at 0)) (length t - at) (drop (at + 1) t) (tokens_from (drop (length t) t) p w)
  unfolding step_of
  broken p w e = met t at j.phase j.stack h ∙ rw (e, drop_of_length-le t {i = length t} (omega arith))

  -- and where it is no token, there is none from it on
  pub failed : step_of j (get_or t at 0) ≡ None → event_of j.phase (get_or t at 0) ≡ None
      → tokens_from (drop at t) j.phase j.stack ≡ []
  unfolding step_of
  failed e f = met t at j.phase j.stack h ∙ rw (f, e)

-- no token stands at the end
pub none_left : (t : List ℕ) (at : ℕ) (j : State) → length t ≤ at → tokens_from (drop at t) j.phase j.stack ≡ []
none_left t at j h = rw (drop_of_length-le t h)
