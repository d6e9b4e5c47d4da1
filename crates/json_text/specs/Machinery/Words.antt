-- The machine inside true, false and null: the letter that is due, and what is due behind it.
use Rattle.std.specs.Prelude.{Option, Some, None}
use Rattle.std.specs.Prelude.{ℕ}
use Rattle.json_text.specs.declared.words.Due.{Due}
use Rattle.json_text.specs.declared.words.Due.TheVariants as D

abbrev pub due_byte : Due → ℕ
due_byte D.Rue = 0x72
due_byte D.Ue = 0x75
due_byte D.E = 0x65
due_byte D.Alse = 0x61
due_byte D.Lse = 0x6C
due_byte D.Se = 0x73
due_byte D.Ull = 0x75
due_byte D.Ll = 0x6C
due_byte D.L = 0x6C

abbrev pub due_next : Due → Option Due
due_next D.Rue = Some D.Ue
due_next D.Ue = Some D.E
due_next D.E = None
due_next D.Alse = Some D.Lse
due_next D.Lse = Some D.Se
due_next D.Se = Some D.E
due_next D.Ull = Some D.Ll
due_next D.Ll = Some D.L
due_next D.L = None
