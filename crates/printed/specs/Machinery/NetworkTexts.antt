-- A network as a text: its address in dotted decimal, a slash, its length in decimal.
use Rattle.std.specs.Prelude.{ℕ, ◌+◌, ◌/◌, ◌%◌, List, [], ◌∷◌, leb}
use Rattle.json_text.specs.Choice.{pick}

-- a number below 1,000 in decimal, without a zero in front, in front of a text
unfoldable pub decimal : ℕ → List ℕ → List ℕ
decimal n r =
    pick (leb 100 n) ((0x30 + n / 100) ∷ (0x30 + n / 10 % 10) ∷ (0x30 + n % 10) ∷ r)
    (pick (leb 10 n) ((0x30 + n / 10) ∷ (0x30 + n % 10) ∷ r) ((0x30 + n) ∷ r))

unfoldable pub network_text : ℕ → ℕ → List ℕ
network_text a n =
    decimal (a / 0x1000000) (0x2E ∷ decimal (a / 0x10000 % 0x100) (0x2E ∷ decimal (a / 0x100 % 0x100) (0x2E ∷ decimal (a % 0x100) (0x2F ∷ decimal n []))))
