-- What the program that reads policies promises beyond its functions' contracts: lines, to the byte.
use Rattle.std.proofs.Common.{◌≡◌, refl}
use Rattle.json_text.specs.Texts.{ascii}
use Rattle.printing.specs.Decimals.{decimal_of}
use Rattle.policies.specs.Lines.{refusal_line}

-- RULES 11.5. What is printed for a refusal, and for input of over 131,072 bytes.
pub refused-line : refusal_line 21 137 ≡ ascii "refused 21 137\n"
unfolding refusal_line decimal_of
refused-line = refl

pub too-long-line : refusal_line 1 131072 ≡ ascii "refused 1 131072\n"
unfolding refusal_line decimal_of
too-long-line = refl
