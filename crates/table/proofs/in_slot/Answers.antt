-- `in_slot` meets its contract: a start of a record in use is refused, one of the empty record is a start, and any other event is the
-- record's own. Assumes nothing.
use Rattle.std.proofs.Common.{refl, arith}
use Rattle.std.proofs.lemmas.Bool.Decides.{nat_tests}
use Rattle.promise.specs.Outcome.{unless}
use Rattle.rules.specs.Numbered.{number}
use Rattle.rules.specs.Table.{taken_refusals, in_slot}
use Rattle.rules.specs.declared.Refusal.TheVariants.{InUse}
use Rattle.connection.proofs.Sides.{refused_by}
use Rattle.table.proofs.Taken.{begun}
use Rattle.table.proofs.in_slot.Goals as goal

pub returns-then-in_use : goal.returns-then-in_use
unfolding in_slot taken_refusals unless number
returns-then-in_use c = refused_by _ _ _ InUse c.requires (rw c.in-Start.is (grind (arith, nat_tests))) refl

pub returns-else-in_use : goal.returns-else-in_use
returns-else-in_use c = rw c.in-Start.is (begun _ _ c.requires (grind (arith, nat_tests)) _ _ c.start.ensures)

pub returns-in-Use : goal.returns-in-Use
unfolding in_slot
returns-in-Use c = rw c.in-Use.is c.step.ensures
