-- `Head::send` meets its contract: the rule's tests one after the other, and then one entry more; what is held stays far below 2^32.
-- Assumes nothing.
use Rattle.std.proofs.Common.{arith, rules}
use Rattle.std.proofs.lemmas.Grind.{common_steps}
use Rattle.lists.proofs.Index.{length_table}
use Rattle.promise.specs.Outcome.{unless}
use Rattle.rules.specs.Numbered.{number}
use Rattle.rules.specs.Sending.{send_refusals, send, step}
use Rattle.rules.specs.declared.Refusal.TheVariants as refusal
use Rattle.sending.specs.Lent.{meaning}
use Rattle.sending.proofs.Entries.{few, held_bound, in_use}
use Rattle.sending.proofs.Refused.{refused_by}
use Rattle.sending.proofs.Sent.{sends}
use Rattle.sending.proofs.Head.send.Goals as goal

pub returns-in_err-unless : goal.returns-in_err-unless
unfolding step send send_refusals unless meaning number
returns-in_err-unless c = refused_by _ c.requires _ _ refusal.NotInUse (search rules) (search rules)

pub returns-in_err-unless-2 : goal.returns-in_err-unless-2
unfolding step send send_refusals unless meaning number
returns-in_err-unless-2 c = refused_by _ c.requires _ _ refusal.BadSize (search rules) (search rules)

pub returns-in_err-unless-3 : goal.returns-in_err-unless-3
unfolding step send send_refusals unless meaning number
returns-in_err-unless-3 c = refused_by _ c.requires _ _ refusal.RoomFull (grind (arith, common_steps, length_table)) (search rules)

pub overflow_add-self-2 : goal.overflow_add-self-2
overflow_add-self-2 c = let h = in_use _ c.requires (search rules) in omega (arith, held_bound _ h, few _ h)

pub returns : goal.returns
unfolding step send send_refusals unless meaning
returns c =
    sends _ (in_use _ c.requires (search rules)) _ (search rules) (search rules) _ c.after.ensures (grind (arith, common_steps, length_table))
