-- `members::names::operator_name` meets its contract: the names are asked for in the order of `operator_names`. The check finds this alone for
-- the first six.
use Rattle.std.proofs.Common.{sym, ◌∙◌}
use Rattle.members.specs.Members.{operator_kind, operator_names}
use Rattle.members.proofs.names.operator_name.Goals as goal

pub returns-then-string_is-7 : goal.returns-then-string_is-7
unfolding operator_kind operator_names
returns-then-string_is-7 c = rw (sym c.string_is.ensures ∙ c.if-string_is.false, sym c.string_is-else-string_is.ensures ∙ c.if-string_is-2.false, sym c.string_is-else-string_is-2.ensures ∙ c.if-string_is-3.false, sym c.string_is-else-string_is-3.ensures ∙ c.if-string_is-4.false, sym c.string_is-else-string_is-4.ensures ∙ c.if-string_is-5.false, sym c.string_is-else-string_is-5.ensures ∙ c.if-string_is-6.false, sym c.string_is-else-string_is-6.ensures ∙ c.if-string_is-7.true)

pub returns-then-string_is-8 : goal.returns-then-string_is-8
unfolding operator_kind operator_names
returns-then-string_is-8 c = rw (sym c.string_is.ensures ∙ c.if-string_is.false, sym c.string_is-else-string_is.ensures ∙ c.if-string_is-2.false, sym c.string_is-else-string_is-2.ensures ∙ c.if-string_is-3.false, sym c.string_is-else-string_is-3.ensures ∙ c.if-string_is-4.false, sym c.string_is-else-string_is-4.ensures ∙ c.if-string_is-5.false, sym c.string_is-else-string_is-5.ensures ∙ c.if-string_is-6.false, sym c.string_is-else-string_is-6.ensures ∙ c.if-string_is-7.false, sym c.string_is-else-string_is-7.ensures ∙ c.if-string_is-8.true)

pub returns-then-string_is-9 : goal.returns-then-string_is-9
unfolding operator_kind operator_names
returns-then-string_is-9 c = rw (sym c.string_is.ensures ∙ c.if-string_is.false, sym c.string_is-else-string_is.ensures ∙ c.if-string_is-2.false, sym c.string_is-else-string_is-2.ensures ∙ c.if-string_is-3.false, sym c.string_is-else-string_is-3.ensures ∙ c.if-string_is-4.false, sym c.string_is-else-string_is-4.ensures ∙ c.if-string_is-5.false, sym c.string_is-else-string_is-5.ensures ∙ c.if-string_is-6.false, sym c.string_is-else-string_is-6.ensures ∙ c.if-string_is-7.false, sym c.string_is-else-string_is-7.ensures ∙ c.if-string_is-8.false, sym c.string_is-else-string_is-8.ensures ∙ c.if-string_is-9.true)

pub returns-then-string_is-10 : goal.returns-then-string_is-10
unfolding operator_kind operator_names
returns-then-string_is-10 c = rw (sym c.string_is.ensures ∙ c.if-string_is.false, sym c.string_is-else-string_is.ensures ∙ c.if-string_is-2.false, sym c.string_is-else-string_is-2.ensures ∙ c.if-string_is-3.false, sym c.string_is-else-string_is-3.ensures ∙ c.if-string_is-4.false, sym c.string_is-else-string_is-4.ensures ∙ c.if-string_is-5.false, sym c.string_is-else-string_is-5.ensures ∙ c.if-string_is-6.false, sym c.string_is-else-string_is-6.ensures ∙ c.if-string_is-7.false, sym c.string_is-else-string_is-7.ensures ∙ c.if-string_is-8.false, sym c.string_is-else-string_is-8.ensures ∙ c.if-string_is-9.false, sym c.string_is-else-string_is-9.ensures ∙ c.if-string_is-10.true)

pub returns-then-string_is-11 : goal.returns-then-string_is-11
unfolding operator_kind operator_names
returns-then-string_is-11 c = rw (sym c.string_is.ensures ∙ c.if-string_is.false, sym c.string_is-else-string_is.ensures ∙ c.if-string_is-2.false, sym c.string_is-else-string_is-2.ensures ∙ c.if-string_is-3.false, sym c.string_is-else-string_is-3.ensures ∙ c.if-string_is-4.false, sym c.string_is-else-string_is-4.ensures ∙ c.if-string_is-5.false, sym c.string_is-else-string_is-5.ensures ∙ c.if-string_is-6.false, sym c.string_is-else-string_is-6.ensures ∙ c.if-string_is-7.false, sym c.string_is-else-string_is-7.ensures ∙ c.if-string_is-8.false, sym c.string_is-else-string_is-8.ensures ∙ c.if-string_is-9.false, sym c.string_is-else-string_is-9.ensures ∙ c.if-string_is-10.false, sym c.string_is-else-string_is-10.ensures ∙ c.if-string_is-11.true)

pub returns-then-string_is-12 : goal.returns-then-string_is-12
unfolding operator_kind operator_names
returns-then-string_is-12 c = rw (sym c.string_is.ensures ∙ c.if-string_is.false, sym c.string_is-else-string_is.ensures ∙ c.if-string_is-2.false, sym c.string_is-else-string_is-2.ensures ∙ c.if-string_is-3.false, sym c.string_is-else-string_is-3.ensures ∙ c.if-string_is-4.false, sym c.string_is-else-string_is-4.ensures ∙ c.if-string_is-5.false, sym c.string_is-else-string_is-5.ensures ∙ c.if-string_is-6.false, sym c.string_is-else-string_is-6.ensures ∙ c.if-string_is-7.false, sym c.string_is-else-string_is-7.ensures ∙ c.if-string_is-8.false, sym c.string_is-else-string_is-8.ensures ∙ c.if-string_is-9.false, sym c.string_is-else-string_is-9.ensures ∙ c.if-string_is-10.false, sym c.string_is-else-string_is-10.ensures ∙ c.if-string_is-11.false, sym c.string_is-else-string_is-11.ensures ∙ c.if-string_is-12.true)

pub returns-else-string_is-12 : goal.returns-else-string_is-12
unfolding operator_kind operator_names
returns-else-string_is-12 c = rw (sym c.string_is.ensures ∙ c.if-string_is.false, sym c.string_is-else-string_is.ensures ∙ c.if-string_is-2.false, sym c.string_is-else-string_is-2.ensures ∙ c.if-string_is-3.false, sym c.string_is-else-string_is-3.ensures ∙ c.if-string_is-4.false, sym c.string_is-else-string_is-4.ensures ∙ c.if-string_is-5.false, sym c.string_is-else-string_is-5.ensures ∙ c.if-string_is-6.false, sym c.string_is-else-string_is-6.ensures ∙ c.if-string_is-7.false, sym c.string_is-else-string_is-7.ensures ∙ c.if-string_is-8.false, sym c.string_is-else-string_is-8.ensures ∙ c.if-string_is-9.false, sym c.string_is-else-string_is-9.ensures ∙ c.if-string_is-10.false, sym c.string_is-else-string_is-10.ensures ∙ c.if-string_is-11.false, sym c.string_is-else-string_is-11.ensures ∙ c.if-string_is-12.false)
