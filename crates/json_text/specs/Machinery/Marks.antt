-- The tokens of a text from a place on.
use Rattle.std.specs.Prelude.{ℕ, ◌+◌, ◌-◌, ◌≤◌, ◌<◌, Option, Some, None, List, [], length, drop}
use Rattle.json_text.specs.Machinery.Machine.{start_state}
use Rattle.json_text.specs.Machinery.Tokens.{Token, mark, tokens_from}
use Rattle.json_text.specs.declared.tokens.Mark.{Mark}
use Rattle.json_text.specs.declared.tokens.Token.{Token as Met}

abbrev pub start_mark : Mark
start_mark = record { at = 0; state = start_state }

abbrev pub tokens_at : List ℕ → Mark → List Token
tokens_at t m = tokens_from (drop m.at t) m.state.phase m.state.stack

-- the tokens from one on
abbrev pub met_tokens : List ℕ → Option Met → List Token
met_tokens t None = []
met_tokens t (Some x) = mark x.event (length t - x.at) (drop (x.at + 1) t) (tokens_at t x.behind)

-- a token stands no earlier than asked for, and the walk goes on behind it
abbrev pub Ahead : ℕ → ℕ → Option Met → Type 0
Ahead from size None = Unit {0}
Ahead from size (Some x) = (from ≤ x.at) × (x.at < x.behind.at) × (x.behind.at ≤ size)
