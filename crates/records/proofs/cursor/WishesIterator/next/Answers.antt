-- The next wish is the first of those that are left.
use Rattle.std.proofs.Common.{refl, ap, length, rules}
use Rattle.records.proofs.cursor.WishesIterator.next.Goals as goal

pub returns-clause-steps : goal.returns-clause-steps
returns-clause-steps c = record { text = refl; left = c.in_ok-wished.ensures.wishes; inside = c.in_ok-wished.ensures.inside }

pub returns-clause-goes : goal.returns-clause-goes
returns-clause-goes c = let shorter = ap length c.in_ok-wished.ensures.wishes in search rules
