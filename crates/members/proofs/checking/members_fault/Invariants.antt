-- The invariant: what is left of the tokens, from the state at hand, gives the answer for the whole text.
use Rattle.std.proofs.Common.{◌≡◌}
use Rattle.json_text.specs.Machinery.Tokens.{tokens_of}
use Rattle.json_text.specs.Machinery.Marks.{tokens_at}
use Rattle.json_text.specs.Machinery.TokensLeft.{walked, reached}
use Rattle.members.specs.Machinery.States.{state_of}
use Rattle.members.specs.Machinery.Levels.{judge, start_members}
use Rattle.members.proofs.checking.members_fault.Given as goal

abbrev pub invariant-loop-token : goal.invariant-loop-token
invariant-loop-token l =
    (walked l.token-iterator ≡ l.text) × (judge (tokens_at l.text (reached l.token-iterator)) (state_of l.state) ≡ judge (tokens_of l.text) start_members)
