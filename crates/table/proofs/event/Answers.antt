-- `event` meets its contract: its two refusals and its one store are those of the slots' laws. Assumes nothing.
use Rattle.std.proofs.Common.{rules, arith}
use Rattle.std.proofs.lemmas.Bool.Decides.{nat_tests}
use Rattle.table.proofs.Slots.{past_sixteen, past_end, stored_there}
use Rattle.table.proofs.event.Goals as goal

pub returns-in_err-unless : goal.returns-in_err-unless
returns-in_err-unless c = past_sixteen _ _ _ c.requires (grind (arith, nat_tests)) _ (search rules)

pub returns-in_err-unless-2 : goal.returns-in_err-unless-2
returns-in_err-unless-2 c = past_end _ _ _ c.requires (grind (arith, nat_tests)) _ (search rules)

pub returns : goal.returns
returns c = stored_there _ _ _ c.requires (grind (arith, nat_tests)) (grind (arith, nat_tests)) _ _ _ c.in_slot-answer.ensures
