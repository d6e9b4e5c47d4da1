-- The invariant: the tokens from the place at hand are those from the place asked for; no token was passed over.
use Rattle.std.proofs.Common.{◌≡◌, ◌-◌, ◌≤◌, length, drop}
use Rattle.json_text.specs.Machinery.Tokens.{tokens_from}
use Rattle.json_text.specs.Machinery.Marks.{tokens_at}
use Rattle.json_text.proofs.tokens.next_token.Given as goal

abbrev pub invariant-loop-at : goal.invariant-loop-at
invariant-loop-at l =
    (l.fn.from.at ≤ l.at) × (tokens_at l.text l.fn.from ≡ tokens_from (drop l.at l.text) l.state.phase l.state.stack)

abbrev pub decreases-loop-at : goal.decreases-loop-at
decreases-loop-at l = length l.text - l.at
