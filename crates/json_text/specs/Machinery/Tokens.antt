-- A text as the list of its tokens, as the machine meets them, and a tree's tokens.
use Rattle.std.specs.Prelude.{Option, Some, None}
use Rattle.std.specs.Prelude.{ℕ, suc, List, [], ◌∷◌, length}
use Rattle.json_text.specs.Grammar.{Part}
use Rattle.json_text.specs.Trees.{Shape, Tree, Made}
use Rattle.json_text.specs.Machinery.Machine.{step_in}
use Rattle.json_text.specs.Machinery.Pieces.{content_of}
use Rattle.json_text.specs.Machinery.Events.{event_of}
use Rattle.json_text.specs.declared.machine.State.{State}
use Rattle.json_text.specs.declared.machine.Phase.{Phase}
use Rattle.json_text.specs.declared.machine.Phase.TheVariants as P
use Rattle.json_text.specs.declared.events.Event.{Event}
use Rattle.json_text.specs.declared.events.Event.TheVariants as E

-- a token: its place, by the number of bytes left there, and of strings their bytes
pub data Token : Type 0 where
  name text : ℕ → List ℕ → Token
  other open-list close-list open-object close-object : ℕ → Token

-- one token more, by what it begins or ends: the bytes left at it, the text behind it, the tokens behind it
abbrev pub mark : Event → ℕ → List ℕ → List Token → List Token
mark E.Name n s ts = Token.name n (content_of s) ∷ ts
mark E.Text n s ts = Token.text n (content_of s) ∷ ts
mark E.Other n s ts = Token.other n ∷ ts
mark E.OpenList n s ts = Token.open-list n ∷ ts
mark E.CloseList n s ts = Token.close-list n ∷ ts
mark E.OpenObject n s ts = Token.open-object n ∷ ts
mark E.CloseObject n s ts = Token.close-object n ∷ ts

-- the tokens from a byte on, by what it begins or ends
abbrev pub marked : Option Event → ℕ → List ℕ → List Token → List Token
marked None n s ts = ts
marked (Some e) n s ts = mark e n s ts

abbrev pub further : (Phase → ℕ → List Token) → Option State → List Token
further go (Some s) = go s.phase s.stack
further go None = []

abbrev pub tokens_from : List ℕ → Phase → ℕ → List Token
tokens_from [] p w = []
tokens_from (b ∷ s) p w = marked (event_of p b) (suc (length s)) s (further (tokens_from s) (step_in p w b))

unfoldable pub tokens_of : List ℕ → List Token
tokens_of t = tokens_from t P.Value 1

-- a tree's tokens, in front of others
abbrev pub flat : {k : Shape} → Tree k → List Token → List Token
flat (Tree.text n bs) ts = Token.text n bs ∷ ts
flat (Tree.other n) ts = Token.other n ∷ ts
flat (Tree.list n es) ts = Token.open-list n ∷ flat es ts
flat (Tree.object n ms) ts = Token.open-object n ∷ flat ms ts
flat (Tree.end_list n) ts = Token.close-list n ∷ ts
flat (Tree.element v es) ts = flat v (flat es ts)
flat (Tree.end_object n) ts = Token.close-object n ∷ ts
flat (Tree.member n bs v ms) ts = Token.name n bs ∷ flat v (flat ms ts)

abbrev pub flat_made : (p : Part) → Made p → List Token → List Token
flat_made Part.value x ts = flat x ts
flat_made Part.elements x ts = flat x ts
flat_made Part.more_elements x ts = flat x ts
flat_made Part.members x ts = flat x ts
flat_made Part.more_members x ts = flat x ts
flat_made Part.member x ts = flat x ts
flat_made Part.colon x ts = flat x.0 (flat x.1 ts)
