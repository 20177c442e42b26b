-- `Head::sack` meets its contract: the rule's tests one after the other, and then `Head::acknowledge`. Assumes nothing.
use Rattle.std.proofs.Common.{arith, rules}
use Rattle.std.proofs.lemmas.Grind.{common_steps}
use Rattle.promise.specs.Outcome.{unless}
use Rattle.rules.specs.Numbered.{number}
use Rattle.rules.specs.Sending.{sack_refusals, sack, step}
use Rattle.rules.specs.declared.Refusal.TheVariants as refusal
use Rattle.sending.specs.Lent.{meaning}
use Rattle.sending.proofs.Entries.{in_use, at_meaning}
use Rattle.sending.proofs.Refused.{refused_by}
use Rattle.sending.proofs.Acknowledged.{sacks_by}
use Rattle.sending.proofs.Head.sack.Goals as goal

pub returns-in_err-unless : goal.returns-in_err-unless
unfolding step sack sack_refusals unless meaning number
returns-in_err-unless c = refused_by _ c.requires _ _ refusal.NotInUse (search rules) (search rules)

pub returns-in_err-unless-2 : goal.returns-in_err-unless-2
unfolding step sack sack_refusals unless meaning number
returns-in_err-unless-2 c = refused_by _ c.requires _ _ refusal.BadPsn (search rules) (search rules)

pub returns-in_err-unless-3 : goal.returns-in_err-unless-3
unfolding step sack sack_refusals unless meaning number
returns-in_err-unless-3 c = refused_by _ c.requires _ _ refusal.BadPsn (search rules) (search rules)

pub returns-in_err-unless-4 : goal.returns-in_err-unless-4
unfolding step sack sack_refusals unless meaning number
returns-in_err-unless-4 c = refused_by _ c.requires _ _ refusal.Contradiction (search rules) (search rules)

pub returns-in_err-unless-5 : goal.returns-in_err-unless-5
unfolding step sack sack_refusals unless meaning number
returns-in_err-unless-5 c =
    refused_by _ c.requires _ _ refusal.NeverSent (grind (arith, common_steps, at_meaning _ c.requires _ _ c.names_unsent-unsent.ensures)) (search rules)

pub acknowledge-requires : goal.acknowledge-requires
unfolding meaning
acknowledge-requires c = (
  in_use _ c.requires (search rules),
  grind (arith, common_steps, at_meaning _ c.requires _ _ c.names_unsent-unsent.ensures),
)

pub returns : goal.returns
unfolding step sack sack_refusals unless meaning
returns c =
    sacks_by _ _ _ _ _ _ _ (grind (arith, common_steps, at_meaning _ c.requires _ _ c.names_unsent-unsent.ensures)) c.acknowledge.ensures
