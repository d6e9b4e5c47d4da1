-- The machine that takes a text byte by byte: where one byte leads. The open brackets are the binary digits of a number behind a first 1,
-- the innermost last: 1 for an object, 0 for a list.
use Rattle.std.specs.Prelude.{Option, Some, None}
use Rattle.std.specs.Prelude.{ℕ, ◌+◌, ◌*◌, ◌/◌, ◌%◌, Bool, true, false, eqb, ltb}
use Rattle.json_text.specs.Choice.{pick}
use Rattle.json_text.specs.Bytes.{is_blank}
use Rattle.json_text.specs.Machinery.Strings.{inside_step}
use Rattle.json_text.specs.Machinery.Numbers.{numeral_step, can_end}
use Rattle.json_text.specs.Machinery.Words.{due_byte, due_next}
use Rattle.json_text.specs.declared.strings.Inside.{Inside}
use Rattle.json_text.specs.declared.strings.Inside.TheVariants as I
use Rattle.json_text.specs.declared.strings.Within.{Within}
use Rattle.json_text.specs.declared.strings.Within.TheVariants as W
use Rattle.json_text.specs.declared.numbers.Numeral.{Numeral}
use Rattle.json_text.specs.declared.numbers.Numeral.TheVariants as N
use Rattle.json_text.specs.declared.numbers.Counted.{Counted}
use Rattle.json_text.specs.declared.numbers.Counted.TheVariants as C
use Rattle.json_text.specs.declared.words.Due.{Due}
use Rattle.json_text.specs.declared.words.Due.TheVariants as D
use Rattle.json_text.specs.declared.machine.Role.{Role}
use Rattle.json_text.specs.declared.machine.Role.TheVariants as R
use Rattle.json_text.specs.declared.machine.Phase.{Phase}
use Rattle.json_text.specs.declared.machine.Phase.TheVariants as P
use Rattle.json_text.specs.declared.machine.State.{State}

abbrev pub start_state : State
start_state = record { phase = P.Value; stack = 1 }

abbrev pub goes : Phase → ℕ → Option State
goes p stack = Some (record { phase = p; stack = stack })

-- a list or an object opens, unless eight are open
abbrev pub opened : ℕ → ℕ → Phase → Option State
opened stack bit p = pick (ltb stack 256) (goes p (stack * 2 + bit)) None

abbrev pub after_step : ℕ → ℕ → Option State
after_step stack b =
    pick (is_blank b) (goes P.After stack)
    (pick (eqb stack 1) None
    (pick (eqb (stack % 2) 1)
    (pick (eqb b 0x2C) (goes P.Member stack) (pick (eqb b 0x7D) (goes P.After (stack / 2)) None))
    (pick (eqb b 0x2C) (goes P.Value stack) (pick (eqb b 0x5D) (goes P.After (stack / 2)) None))))

abbrev pub counted : ℕ → ℕ → Counted → Option State
counted stack b (C.Goes n) = goes (P.Number n) stack
counted stack b C.Ends = after_step stack b
counted stack b C.Fails = None

abbrev pub number_step : ℕ → Numeral → ℕ → Option State
number_step stack n b = counted stack b (numeral_step n b)

abbrev pub scalar_step : ℕ → ℕ → Option State
scalar_step stack b =
    pick (eqb b 0x74) (goes (P.Word D.Rue) stack)
    (pick (eqb b 0x66) (goes (P.Word D.Alse) stack)
    (pick (eqb b 0x6E) (goes (P.Word D.Ull) stack)
    (pick (eqb b 0x2D) (goes (P.Number N.Minus) stack) (number_step stack N.Minus b))))

abbrev pub value_step : ℕ → ℕ → Option State
value_step stack b =
    pick (is_blank b) (goes P.Value stack)
    (pick (eqb b 0x22) (goes (P.Text R.Content I.Plain) stack)
    (pick (eqb b 0x5B) (opened stack 0 P.FirstElement)
    (pick (eqb b 0x7B) (opened stack 1 P.FirstMember) (scalar_step stack b))))

abbrev pub element_step : ℕ → ℕ → Option State
element_step stack b =
    pick (is_blank b) (goes P.FirstElement stack) (pick (eqb b 0x5D) (goes P.After (stack / 2)) (value_step stack b))

abbrev pub name_step : ℕ → ℕ → Option State
name_step stack b =
    pick (is_blank b) (goes P.Member stack) (pick (eqb b 0x22) (goes (P.Text R.Name I.Plain) stack) None)

abbrev pub member_step : ℕ → ℕ → Option State
member_step stack b =
    pick (is_blank b) (goes P.FirstMember stack) (pick (eqb b 0x7D) (goes P.After (stack / 2)) (name_step stack b))

abbrev pub colon_step : ℕ → ℕ → Option State
colon_step stack b = pick (is_blank b) (goes P.Colon stack) (pick (eqb b 0x3A) (goes P.Value stack) None)

abbrev pub behind_role : Role → Phase
behind_role R.Name = P.Colon
behind_role R.Content = P.After

abbrev pub in_text : ℕ → Role → Within → Option State
in_text stack role (W.Goes i) = goes (P.Text role i) stack
in_text stack role W.Closes = goes (behind_role role) stack
in_text stack role W.Fails = None

abbrev pub text_step : ℕ → Role → Inside → ℕ → Option State
text_step stack role i b = in_text stack role (inside_step i b)

abbrev pub spelled : ℕ → Option Due → Option State
spelled stack (Some d) = goes (P.Word d) stack
spelled stack None = goes P.After stack

abbrev pub word_step : ℕ → Due → ℕ → Option State
word_step stack d b = pick (eqb b (due_byte d)) (spelled stack (due_next d)) None

abbrev pub step_in : Phase → ℕ → ℕ → Option State
step_in P.Value stack b = value_step stack b
step_in P.FirstElement stack b = element_step stack b
step_in P.FirstMember stack b = member_step stack b
step_in P.Member stack b = name_step stack b
step_in P.Colon stack b = colon_step stack b
step_in P.After stack b = after_step stack b
step_in (P.Text role i) stack b = text_step stack role i b
step_in (P.Number n) stack b = number_step stack n b
step_in (P.Word d) stack b = word_step stack d b

unfoldable pub step_of : State → ℕ → Option State
step_of s b = step_in s.phase s.stack b

abbrev pub at_rest : Phase → Bool
at_rest P.Value = false
at_rest P.FirstElement = false
at_rest P.FirstMember = false
at_rest P.Member = false
at_rest P.Colon = false
at_rest P.After = true
at_rest (P.Text role i) = false
at_rest (P.Number n) = can_end n
at_rest (P.Word d) = false

unfoldable pub is_ended : State → Bool
is_ended s = pick (at_rest s.phase) (eqb s.stack 1) false
