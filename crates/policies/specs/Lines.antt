-- The line that is printed for a policy that is refused (RULES 11.5).
use Rattle.std.specs.Prelude.{ℕ, List, ◌++◌}
use Rattle.json_text.specs.Texts.{ascii}
use Rattle.printing.specs.Decimals.{decimal_of}

-- its number and its place
unfoldable pub refusal_line : ℕ → ℕ → List ℕ
refusal_line number place = (ascii "refused " ++ decimal_of number) ++ (ascii " " ++ decimal_of place) ++ ascii "\n"
