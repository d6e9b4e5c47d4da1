-- Texts, and the first byte that fails in each.
use Rattle.std.proofs.Common.{Some, ◌≡◌, refl, [], ◌∷◌}
use Rattle.json_text.specs.Machinery.Machine.{step_of, is_ended}
use Rattle.json_text.specs.Machinery.Reading.{fault_of}
use Rattle.json_text.specs.Machinery.Pieces.{content_of}
use Rattle.json_text.specs.Machinery.Tokens.{Token, tokens_of}

-- no bytes
empty : fault_of [] ≡ Some 0
unfolding fault_of step_of is_ended
empty = refl

-- 01: no digit follows a first 0
zero_one : fault_of (0x30 ∷ 0x31 ∷ []) ≡ Some 1
unfolding fault_of step_of is_ended
zero_one = refl

-- "\u00e9": the code is 80 hex or above, at its third digit
code-e9 : fault_of (0x22 ∷ 0x5C ∷ 0x75 ∷ 0x30 ∷ 0x30 ∷ 0x65 ∷ 0x39 ∷ 0x22 ∷ []) ≡ Some 5
unfolding fault_of step_of is_ended
code-e9 = refl

-- [1,]: a value is due
trailing-comma : fault_of (0x5B ∷ 0x31 ∷ 0x2C ∷ 0x5D ∷ []) ≡ Some 3
unfolding fault_of step_of is_ended
trailing-comma = refl

-- a byte order mark
order-mark : fault_of (0xEF ∷ 0xBB ∷ 0xBF ∷ 0x31 ∷ []) ≡ Some 0
unfolding fault_of step_of is_ended
order-mark = refl

-- a surrogate, ED A0 80
surrogate : fault_of (0x22 ∷ 0xED ∷ 0xA0 ∷ 0x80 ∷ 0x22 ∷ []) ≡ Some 2
unfolding fault_of step_of is_ended
surrogate = refl

-- nine brackets
ninth-bracket : fault_of (0x5B ∷ 0x5B ∷ 0x5B ∷ 0x5B ∷ 0x5B ∷ 0x5B ∷ 0x5B ∷ 0x5B ∷ 0x5B ∷ []) ≡ Some 8
unfolding fault_of step_of is_ended
ninth-bracket = refl

-- {"a":[1,"\u004a"]}: seven tokens, each with the number of bytes left at it
tokens-met : tokens_of (0x7B ∷ 0x22 ∷ 0x61 ∷ 0x22 ∷ 0x3A ∷ 0x5B ∷ 0x31 ∷ 0x2C ∷ 0x22 ∷ 0x5C ∷ 0x75 ∷ 0x30 ∷ 0x30 ∷ 0x34 ∷ 0x61 ∷ 0x22 ∷ 0x5D ∷ 0x7D ∷ [])
    ≡ Token.open-object 18
    ∷ Token.name 17 (0x61 ∷ [])
    ∷ Token.open-list 13
    ∷ Token.other 12
    ∷ Token.text 10 (0x4A ∷ [])
    ∷ Token.close-list 2
    ∷ Token.close-object 1
    ∷ []
unfolding tokens_of content_of
tokens-met = refl
