-- The lines that the gap program prints, each with its line feed (RULES 8).
use Rattle.std.specs.Prelude.{ℕ, ◌/◌, ◌%◌, List, [], ◌++◌}
use Rattle.json_text.specs.Texts.{ascii}
use Rattle.printing.specs.Decimals.{decimal_of}
use Rattle.judging.specs.Requests.{Value, absent, text, number, column_of}

-- an address in dotted decimal
unfoldable pub dotted : ℕ → List ℕ
dotted address =
    decimal_of (address / 0x1000000 % 0x100)
    ++ (ascii "." ++ decimal_of (address / 0x10000 % 0x100))
    ++ (ascii "." ++ decimal_of (address / 0x100 % 0x100))
    ++ (ascii "." ++ decimal_of (address % 0x100))

-- what is printed for a number of gaps
unfoldable pub count_line : ℕ → List ℕ
count_line n = (ascii "gaps " ++ decimal_of n) ++ ascii "\n"

-- what is printed for a refusal: its number, the table (1, 2, or 0 for the comparison), and the place
unfoldable pub refusal_line : ℕ → ℕ → ℕ → List ℕ
refusal_line refusal table place =
    (ascii "refused " ++ decimal_of refusal) ++ (ascii " " ++ decimal_of table) ++ (ascii " " ++ decimal_of place) ++ ascii "\n"

-- what a column adds to a gap's line: its name and what it holds, and nothing where it is absent
abbrev pub shown : List ℕ → Value → List ℕ
shown name absent = []
shown name (text s) = name ++ s
shown name (number n) = name ++ dotted n

-- columns 0 to 2 of a gap's line
abbrev pub needed_shown : List Value → List ℕ
needed_shown request =
    shown (ascii " p=") (column_of request 0)
    ++ shown (ascii " a=") (column_of request 1)
    ++ shown (ascii " r=") (column_of request 2)

-- columns 3 to 6
abbrev pub keys_shown : List Value → List ℕ
keys_shown request =
    shown (ascii " k0=") (column_of request 3)
    ++ shown (ascii " k1=") (column_of request 4)
    ++ shown (ascii " k2=") (column_of request 5)
    ++ shown (ascii " k3=") (column_of request 6)

-- what is printed for gap k, a request: its number, then columns 0 to 7
unfoldable pub gap_line : ℕ → List Value → List ℕ
gap_line k request =
    decimal_of k ++ needed_shown request ++ keys_shown request ++ shown (ascii " ip=") (column_of request 7) ++ ascii "\n"
