-- The pass over the tokens: one token, and what it leads to.
use Rattle.std.proofs.Common.{Some, ℕ, ◌+◌, ◌-◌, ◌<◌, ◌≡◌, refl, sym, ◌∙◌, ap, List, [], length, drop, arith}
use Rattle.json_text.specs.Machinery.Pieces.{content_of}
use Rattle.json_text.specs.Machinery.Tokens.{Token, mark}
use Rattle.json_text.specs.Machinery.Marks.{tokens_at, met_tokens}
use Rattle.json_text.specs.declared.events.Event.{Event}
use Rattle.json_text.specs.declared.events.Event.TheVariants as E
use Rattle.json_text.specs.declared.tokens.Mark.{Mark}
use Rattle.json_text.specs.declared.tokens.Token.{Token as Met}
use Rattle.members.specs.Members.Verdict.{fine}
use Rattle.members.specs.Machinery.Levels.{turn_in, after_turn, judge, placed}
use Rattle.members.specs.Answers.{Checked as C}
use Rattle.members.specs.Machinery.States.{Level}
use Rattle.members.specs.Machinery.States.{Level as L}
use Rattle.members.specs.Machinery.States.{State}
use Rattle.members.specs.Machinery.States.{Turn}
use Rattle.members.specs.Machinery.States.{Turn as T}

-- only names and strings have bytes
deaf : (l : Level) (s : State) (x : List ℕ)
    → (turn_in l s E.Other x ≡ turn_in l s E.Other []) × (turn_in l s E.OpenList x ≡ turn_in l s E.OpenList [])
    × (turn_in l s E.CloseList x ≡ turn_in l s E.CloseList []) × (turn_in l s E.OpenObject x ≡ turn_in l s E.OpenObject [])
    × (turn_in l s E.CloseObject x ≡ turn_in l s E.CloseObject [])
deaf L.Outside s x = (refl, refl, refl, refl, refl)
deaf L.Top s x = (refl, refl, refl, refl, refl)
deaf L.Rows s x = (refl, refl, refl, refl, refl)
deaf L.Row s x = (refl, refl, refl, refl, refl)
deaf L.RowStrings s x = (refl, refl, refl, refl, refl)
deaf L.Principals s x = (refl, refl, refl, refl, refl)
deaf L.PrincipalStrings s x = (refl, refl, refl, refl, refl)
deaf L.Operators s x = (refl, refl, refl, refl, refl)
deaf L.Keys s x = (refl, refl, refl, refl, refl)
deaf L.KeyStrings s x = (refl, refl, refl, refl, refl)

meets : (e : Event) (n : ℕ) (s : List ℕ) (ts : List Token) (st : State)
    → judge (mark e n s ts) st ≡ after_turn (judge ts) n (turn_in st.level st e (content_of s))
meets E.Name n s ts st = refl
meets E.Text n s ts st = refl
meets E.Other n s ts st = sym (ap (after_turn (judge ts) n) (deaf st.level st (content_of s)).0)
meets E.OpenList n s ts st = sym (ap (after_turn (judge ts) n) (deaf st.level st (content_of s)).1)
meets E.CloseList n s ts st = sym (ap (after_turn (judge ts) n) (deaf st.level st (content_of s)).2)
meets E.OpenObject n s ts st = sym (ap (after_turn (judge ts) n) (deaf st.level st (content_of s)).3)
meets E.CloseObject n s ts st = sym (ap (after_turn (judge ts) n) (deaf st.level st (content_of s)).4)

-- a token met at a place, and the mark behind it
module _ (t : List ℕ) (here : Mark) (st : State) (x : Met) (token : tokens_at t here ≡ met_tokens t (Some x)) where
  token-turn : judge (tokens_at t here) st
      ≡ after_turn (judge (tokens_at t x.behind)) (length t - x.at) (turn_in st.level st x.event (content_of (drop (x.at + 1) t)))
  token-turn = ap (λ (ts : List Token). judge ts st) token ∙ meets x.event (length t - x.at) (drop (x.at + 1) t) (tokens_at t x.behind) st

  pub goes_on_lem : (turn : Turn) (next : State) → turn ≡ turn_in st.level st x.event (content_of (drop (x.at + 1) t)) → turn ≡ T.Next next
      → judge (tokens_at t here) st ≡ judge (tokens_at t x.behind) next
  goes_on_lem turn next f g = token-turn ∙ rw (sym f, g)

  pub stops : (turn : Turn) (k : ℕ) → turn ≡ turn_in st.level st x.event (content_of (drop (x.at + 1) t)) → turn ≡ T.Refused k → x.at < length t
      → placed (length t) (judge (tokens_at t here) st) ≡ C.Refused k x.at
  stops turn k f g h =
      let place : length t - (length t - x.at) ≡ x.at = omega arith in
      rw (token-turn, sym f, g, place)

-- no token is left
pub ends : (t : List ℕ) (here : Mark) (st : State) → tokens_at t here ≡ [] → judge (tokens_at t here) st ≡ fine
ends t here st e = rw e
