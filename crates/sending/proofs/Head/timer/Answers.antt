-- `Head::timer` meets its contract: the rule's tests one after the other, and then a mark. Assumes nothing.
use mathlib.Core.Path.{refl}
use Rattle.std.proofs.Common.{arith, rules}
use Rattle.std.proofs.lemmas.Grind.{common_steps}
use Rattle.promise.specs.Outcome.{unless}
use Rattle.rules.specs.Numbered.{number}
use Rattle.rules.specs.Sending.{timer_refusals, timer, step}
use Rattle.rules.specs.declared.Answer.TheVariants as answer
use Rattle.rules.specs.declared.Refusal.TheVariants as refusal
use Rattle.sending.specs.Lent.{meaning, sizes_after}
use Rattle.sending.proofs.Entries.{in_use, at_meaning}
use Rattle.sending.proofs.Refused.{refused_by}
use Rattle.sending.proofs.Marked.{marks_by}
use Rattle.sending.proofs.Head.timer.Goals as goal

pub returns-in_err-unless : goal.returns-in_err-unless
unfolding step timer timer_refusals unless meaning number
returns-in_err-unless c = refused_by _ c.requires _ _ refusal.NotInUse (search rules) (search rules)

pub returns-in_err-unless-2 : goal.returns-in_err-unless-2
unfolding step timer timer_refusals unless meaning number
returns-in_err-unless-2 c = refused_by _ c.requires _ _ refusal.BadPsn (search rules) (search rules)

pub returns-in_err-unless-3 : goal.returns-in_err-unless-3
unfolding step timer timer_refusals unless meaning number
returns-in_err-unless-3 c =
    refused_by _ c.requires _ _ refusal.NeverSent (grind (arith, common_steps, at_meaning _ c.requires _ _ c.unsent.ensures)) (search rules)

pub returns : goal.returns
unfolding step timer timer_refusals unless meaning sizes_after
returns c =
    marks_by _ (in_use _ c.requires (search rules)) _ answer.Expired _ _ _
    (grind (arith, common_steps, at_meaning _ c.requires _ _ c.unsent.ensures)) refl c.mark_psn-newly.ensures
