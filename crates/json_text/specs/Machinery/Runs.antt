-- Runs of bytes that leave the machine where it is.
use Rattle.std.specs.Prelude.{ℕ, Bool, true, false, List}
use Rattle.std.specs.List.{prefix_len}
use Rattle.json_text.specs.Choice.{pick}
use Rattle.json_text.specs.Bytes.{is_blank, is_plain}
use Rattle.json_text.specs.declared.strings.Inside.{Inside}
use Rattle.json_text.specs.declared.strings.Inside.TheVariants as I
use Rattle.json_text.specs.declared.machine.Phase.{Phase}
use Rattle.json_text.specs.declared.machine.Phase.TheVariants as P

abbrev pub is_plain_inside : Inside → Bool
is_plain_inside I.Plain = true
is_plain_inside I.Escape = false
is_plain_inside I.Code = false
is_plain_inside I.Zero = false
is_plain_inside I.High = false
is_plain_inside I.Low = false
is_plain_inside I.One = false
is_plain_inside I.Two = false
is_plain_inside I.Three = false
is_plain_inside I.AfterE0 = false
is_plain_inside I.AfterED = false
is_plain_inside I.AfterF0 = false
is_plain_inside I.AfterF4 = false

abbrev pub is_in_string : Phase → Bool
is_in_string P.Value = false
is_in_string P.FirstElement = false
is_in_string P.FirstMember = false
is_in_string P.Member = false
is_in_string P.Colon = false
is_in_string P.After = false
is_in_string (P.Text role i) = is_plain_inside i
is_in_string (P.Number n) = false
is_in_string (P.Word d) = false

abbrev pub is_between_tokens : Phase → Bool
is_between_tokens P.Value = true
is_between_tokens P.FirstElement = true
is_between_tokens P.FirstMember = true
is_between_tokens P.Member = true
is_between_tokens P.Colon = true
is_between_tokens P.After = true
is_between_tokens (P.Text role i) = false
is_between_tokens (P.Number n) = false
is_between_tokens (P.Word d) = false

-- how many bytes leave the machine in a phase
abbrev pub run_of : Phase → List ℕ → ℕ
run_of p s = pick (is_in_string p) (prefix_len is_plain s) (pick (is_between_tokens p) (prefix_len is_blank s) 0)
