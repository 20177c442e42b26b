-- `Head::resend` meets its contract: the rule's tests, the second by the search, which leaves the marks as they are where it finds none, and
-- then what it found is handed out. Assumes nothing.
use Rattle.std.proofs.Common.{rules}
use Rattle.rules.specs.Sending.{resend_refusals, resend, step}
use Rattle.rules.specs.Numbered.{number}
use Rattle.promise.specs.Outcome.{unless}
use Rattle.rules.specs.declared.Refusal.TheVariants as refusal
use Rattle.sending.specs.Lent.{meaning}
use Rattle.sending.proofs.Entries.{in_use}
use Rattle.sending.proofs.Refused.{refused_by}
use Rattle.sending.proofs.Resent.{resends, resends_none}
use Rattle.sending.proofs.Head.resend.Goals as goal

pub returns-in_err-unless : goal.returns-in_err-unless
unfolding step resend resend_refusals unless meaning number
returns-in_err-unless c = refused_by _ c.requires _ _ refusal.NotInUse (search rules) (search rules)

pub returns-in_default : goal.returns-in_default
returns-in_default c =
    resends_none _ (in_use _ c.requires (search rules)) _ (rw c.in_default.is at c.take.ensures) (search rules) (search rules)

pub returns : goal.returns
returns c = resends _ (in_use _ c.requires (search rules)) _ _ c.in-Some.ensures
