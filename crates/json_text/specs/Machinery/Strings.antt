-- The machine inside a string: where one byte leads.
use Rattle.std.specs.Prelude.{ℕ, Bool, eqb}
use Rattle.json_text.specs.Choice.{pick}
use Rattle.json_text.specs.Bytes.{within, is_hex, is_simple, is_plain, is_tail}
use Rattle.json_text.specs.declared.strings.Inside.{Inside}
use Rattle.json_text.specs.declared.strings.Inside.TheVariants as I
use Rattle.json_text.specs.declared.strings.Within.{Within}
use Rattle.json_text.specs.declared.strings.Within.TheVariants as W

abbrev pub taken_if : Bool → Inside → Within
taken_if good next = pick good (W.Goes next) W.Fails

abbrev pub wide_step : ℕ → Within
wide_step b =
    pick (within 0xC2 0xDF b) (W.Goes I.One)
    (pick (eqb b 0xE0) (W.Goes I.AfterE0)
    (pick (eqb b 0xED) (W.Goes I.AfterED)
    (pick (within 0xE1 0xEF b) (W.Goes I.Two)
    (pick (eqb b 0xF0) (W.Goes I.AfterF0)
    (pick (eqb b 0xF4) (W.Goes I.AfterF4) (taken_if (within 0xF1 0xF3 b) I.Three))))))

abbrev pub plain_step : ℕ → Within
plain_step b =
    pick (is_plain b) (W.Goes I.Plain)
    (pick (eqb b 0x22) W.Closes
    (pick (eqb b 0x5C) (W.Goes I.Escape) (wide_step b)))

abbrev pub escape_step : ℕ → Within
escape_step b = pick (is_simple b) (W.Goes I.Plain) (taken_if (eqb b 0x75) I.Code)

abbrev pub inside_step : Inside → ℕ → Within
inside_step I.Plain b = plain_step b
inside_step I.Escape b = escape_step b
inside_step I.Code b = taken_if (eqb b 0x30) I.Zero
inside_step I.Zero b = taken_if (eqb b 0x30) I.High
inside_step I.High b = taken_if (within 0x30 0x37 b) I.Low
inside_step I.Low b = taken_if (is_hex b) I.Plain
inside_step I.One b = taken_if (is_tail b) I.Plain
inside_step I.Two b = taken_if (is_tail b) I.One
inside_step I.Three b = taken_if (is_tail b) I.Two
inside_step I.AfterE0 b = taken_if (within 0xA0 0xBF b) I.One
inside_step I.AfterED b = taken_if (within 0x80 0x9F b) I.One
inside_step I.AfterF0 b = taken_if (within 0x90 0xBF b) I.Two
inside_step I.AfterF4 b = taken_if (within 0x80 0x8F b) I.Two
