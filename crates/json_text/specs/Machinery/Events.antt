-- What a byte begins or ends, by the phase in which it comes.
use Rattle.std.specs.Prelude.{Option, Some, None}
use Rattle.std.specs.Prelude.{ℕ, eqb}
use Rattle.json_text.specs.Choice.{pick}
use Rattle.json_text.specs.Bytes.{is_blank}
use Rattle.json_text.specs.declared.machine.Phase.{Phase}
use Rattle.json_text.specs.declared.machine.Phase.TheVariants as P
use Rattle.json_text.specs.declared.events.Event.{Event}
use Rattle.json_text.specs.declared.events.Event.TheVariants as E

abbrev pub value_event : ℕ → Option Event
value_event b =
    pick (is_blank b) None
    (pick (eqb b 0x22) (Some E.Text) (pick (eqb b 0x5B) (Some E.OpenList) (pick (eqb b 0x7B) (Some E.OpenObject) (Some E.Other))))

abbrev pub element_event : ℕ → Option Event
element_event b = pick (eqb b 0x5D) (Some E.CloseList) (value_event b)

abbrev pub member_event : ℕ → Option Event
member_event b = pick (eqb b 0x22) (Some E.Name) (pick (eqb b 0x7D) (Some E.CloseObject) None)

abbrev pub close_event : ℕ → Option Event
close_event b = pick (eqb b 0x5D) (Some E.CloseList) (pick (eqb b 0x7D) (Some E.CloseObject) None)

abbrev pub event_of : Phase → ℕ → Option Event
event_of P.Value b = value_event b
event_of P.FirstElement b = element_event b
event_of P.FirstMember b = member_event b
event_of P.Member b = member_event b
event_of P.Colon b = None
event_of P.After b = close_event b
event_of (P.Text role i) b = None
event_of (P.Number n) b = close_event b
event_of (P.Word d) b = None
