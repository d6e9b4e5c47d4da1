-- What the gap program promises beyond its functions' contracts, in statements that can be read without their proofs.
use Rattle.std.proofs.Common.{ℕ, ◌≡◌, refl, List, [], ◌∷◌}
use Rattle.judging.specs.Requests.{absent, text, number}
use Rattle.judging.specs.Judging.{rows_of}
use Rattle.comparing.specs.Gaps.{IsGap}
use Rattle.comparing.specs.Compared.{request_shown, Shown}
use Rattle.comparing.specs.Answers.{Shape, Showing as S}
use Rattle.gaps.specs.Split.{passed_at, first_end}
use Rattle.json_text.specs.Texts.{ascii}
use Rattle.printing.specs.Decimals.{decimal_of}
use Rattle.gaps.specs.Lines.{dotted, count_line, refusal_line, gap_line}
use Rattle.comparing.proofs.Promises.{shown-means}

-- RULES 8.2. The request that is read off an answer for gap k and the value buffer, whose line is printed, is gap k.
pub gap-printed : (words : ℕ) (a b : List ℕ) (k : ℕ) (buffer : List ℕ) (shape : Shape) (values : List ℕ)
    → Shown words a b k buffer (S.Shown shape, values)
    → IsGap (rows_of a) (rows_of b) k (request_shown shape values)
gap-printed words a b k buffer shape values h = (shown-means words a b k buffer shape values h).gap

-- The sample's gap, and the line of a request that has every key, one of them with no bytes.
pub sample-line : gap_line 0 (text (ascii "!") ∷ text (ascii "A") ∷ text (ascii "r") ∷ absent ∷ absent ∷ absent ∷ absent ∷ absent ∷ [])
    ≡ ascii "0 p=! a=A r=r\n"
unfolding gap_line decimal_of
sample-line = refl

pub full-line :
    gap_line 15
    (text (ascii "p")
    ∷ text (ascii "a")
    ∷ text (ascii "r")
    ∷ text (ascii "vpc")
    ∷ text []
    ∷ text (ascii "vpce")
    ∷ text (ascii "referer")
    ∷ number 0x0B1600FF
    ∷ [])
    ≡ ascii "15 p=p a=a r=r k0=vpc k1= k2=vpce k3=referer ip=11.22.0.255\n"
unfolding gap_line decimal_of dotted
full-line = refl

-- RULES 8.3. What is printed for input of over 32,768 bytes.
pub refused-line : refusal_line 1 0 32768 ≡ ascii "refused 1 0 32768\n"
unfolding refusal_line decimal_of
refused-line = refl

pub counted-line : count_line 16777216 ≡ ascii "gaps 16777216\n"
unfolding count_line decimal_of
counted-line = refl

-- RULES 8.1. A 05 inside a value ends nothing; where the walk meets none, or an unknown kind, or a cut record, all input is the first
-- table.
pub behind-a-value : first_end (0x41 ∷ 0x05 ∷ 0x05 ∷ 0x05 ∷ 0x01 ∷ []) ≡ 4
unfolding first_end passed_at
behind-a-value = refl

pub none-met : first_end (0x01 ∷ 0x00 ∷ 0x02 ∷ 0x01 ∷ []) ≡ 4
unfolding first_end passed_at
none-met = refl

pub unknown-met : first_end (0x01 ∷ 0x00 ∷ 0x07 ∷ 0x05 ∷ 0x05 ∷ []) ≡ 5
unfolding first_end passed_at
unknown-met = refl

pub cut-met : first_end (0x06 ∷ 0x05 ∷ 0x05 ∷ []) ≡ 3
unfolding first_end passed_at
cut-met = refl
