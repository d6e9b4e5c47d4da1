-- The state machine's answer decides: a refusal is the answer, at the writer's place, and an item that it takes is placed.
use Rattle.std.proofs.Common.{sym}
use Rattle.stored.specs.Writing.{writing}
use Rattle.stored.proofs.Writing.{has-kind}
use Rattle.stored.proofs.writer.write.Goals as goal

pub invariant_of-place : goal.invariant_of-place
invariant_of-place c = record { has_kind = has-kind _ _ _ _ (sym c.in-Ok.ensures) }

pub returns-in-Ok-clause-answer : goal.returns-in-Ok-clause-answer
unfolding writing
returns-in-Ok-clause-answer c = rw (← c.in-Ok.ensures) c.place.ensures.answer

pub returns-in-Err-clause-answer : goal.returns-in-Err-clause-answer
unfolding writing
returns-in-Err-clause-answer c = rw (← c.in-Err.ensures)
