-- An iterator over the tokens of a text: what it gives, and where it goes on.
use Rattle.std.specs.Prelude.{ℕ, ◌≡◌, Option, Some, None, List, [], length}
use Rattle.json_text.specs.Machinery.Marks.{tokens_at, met_tokens, Ahead}
use Rattle.json_text.specs.declared.tokens.Mark.{Mark}
use Rattle.json_text.specs.declared.tokens.Token.{Token as Met}
use Rattle.json_text.specs.declared.tokens.Tokens.{Tokens}

-- the text that it walks over, and the place that it has reached
abbrev pub walked : Tokens → List ℕ
walked s = s.text.now

abbrev pub reached : Tokens → Mark
reached s = s.here

-- a token from s, and what goes on behind it
pub record Gives (s : Tokens) (x : Met) (t : Tokens) : Type 0 where
  pub text : walked t ≡ walked s
  pub behind : reached t ≡ x.behind
  pub tokens : tokens_at (walked s) (reached s) ≡ met_tokens (walked s) (Some x)
  pub ahead : Ahead (reached s).at (length (walked s)) (Some x)

-- none is left
abbrev pub GivesToken : Tokens → Option Met → Tokens → Type 0
GivesToken s (Some x) t = Gives s x t
GivesToken s None t = tokens_at (walked s) (reached s) ≡ []
