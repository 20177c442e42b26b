-- `Head::nack` meets its contract: the rule's tests one after the other, and then a mark, or none for a reason above 4. Assumes nothing.
use mathlib.Core.Path.{refl}
use Rattle.std.proofs.Common.{arith, rules}
use Rattle.std.proofs.lemmas.Grind.{common_steps}
use Rattle.promise.specs.Outcome.{unless}
use Rattle.promise.proofs.Meeting.{does}
use Rattle.rules.specs.Marks.{nacked}
use Rattle.rules.specs.Numbered.{number}
use Rattle.rules.specs.Sending.{nack_refusals, nack, step}
use Rattle.rules.specs.declared.Answer.TheVariants as answer
use Rattle.rules.specs.declared.Refusal.TheVariants as refusal
use Rattle.sending.specs.Lent.{meaning, sizes_after, sent_size}
use Rattle.sending.proofs.Entries.{in_use, at_meaning}
use Rattle.sending.proofs.Refused.{refused_by}
use Rattle.sending.proofs.Marked.{marks_by}
use Rattle.sending.proofs.Head.nack.Goals as goal

pub returns-in_err-unless : goal.returns-in_err-unless
unfolding step nack nack_refusals unless meaning number
returns-in_err-unless c = refused_by _ c.requires _ _ refusal.NotInUse (search rules) (search rules)

pub returns-in_err-unless-2 : goal.returns-in_err-unless-2
unfolding step nack nack_refusals unless meaning number
returns-in_err-unless-2 c = refused_by _ c.requires _ _ refusal.BadPsn (search rules) (search rules)

pub returns-in_err-unless-3 : goal.returns-in_err-unless-3
unfolding step nack nack_refusals unless meaning number
returns-in_err-unless-3 c = refused_by _ c.requires _ _ refusal.BadReason (search rules) (search rules)

pub returns-in_err-unless-4 : goal.returns-in_err-unless-4
unfolding step nack nack_refusals unless meaning number
returns-in_err-unless-4 c =
    refused_by _ c.requires _ _ refusal.NeverSent (grind (arith, common_steps, at_meaning _ c.requires _ _ c.unsent.ensures)) (search rules)

pub returns-then-reason-gt4 : goal.returns-then-reason-gt4
unfolding step nack nack_refusals unless meaning nacked sizes_after sent_size
returns-then-reason-gt4 c = record {
  meets = does _ (answer.Marked 0) (grind (arith, common_steps, at_meaning _ c.requires _ _ c.unsent.ensures)) refl refl c.requires;
  sizes_are = refl;
  retired_long = refl;
  marked_long = refl;
}

pub returns : goal.returns
unfolding step nack nack_refusals unless meaning nacked sizes_after sent_size
returns c =
    marks_by _ (in_use _ c.requires (search rules)) _ answer.Marked _ _ _
    (grind (arith, common_steps, at_meaning _ c.requires _ _ c.unsent.ensures)) refl c.mark_psn-newly.ensures
