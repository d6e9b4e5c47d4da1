-- What the reader's answer says of a text.
use Rattle.std.specs.Prelude.{Option, Some, None}
use Rattle.std.specs.Prelude.{ℕ, List}
use Rattle.json_text.specs.Grammar.{Text, FirstFault}

-- no fault: it is a text; a fault: its place is that of the first byte that fails
abbrev pub Says : List ℕ → Option ℕ → Type 0
Says t None = Text t
Says t (Some p) = FirstFault t p
