-- `Connection::close` meets its contract: a record that is not in use is refused, and any other is emptied. Assumes nothing.
use Rattle.std.proofs.Common.{refl, ap, ◌∙◌, inl, arith}
use Rattle.std.proofs.lemmas.Bool.Decides.{nat_tests}
use Rattle.promise.specs.Outcome.{unless}
use Rattle.promise.proofs.Meeting.{does}
use Rattle.rules.specs.Connection.{close, close_refusals}
use Rattle.rules.specs.Connection as rule
use Rattle.rules.specs.Numbered.{number}
use Rattle.rules.specs.declared.Answer.TheVariants as answer
use Rattle.rules.specs.declared.Refusal.TheVariants.{NotInUse}
use Rattle.connection.specs.Record.{meaning}
use Rattle.connection.proofs.Sides.{empty_means, refused_by}
use Rattle.connection.proofs.Connection.close.Goals as goal

pub returns-then-not-in_use : goal.returns-then-not-in_use
unfolding close close_refusals unless number
returns-then-not-in_use c = refused_by _ _ _ NotInUse c.requires (grind (arith, nat_tests)) refl

pub returns : goal.returns
unfolding close close_refusals unless
returns c =
    let emptied = c.empty.ensures in
    does rule.empty answer.Closed (grind (arith, nat_tests)) refl (ap meaning emptied ∙ empty_means) (inl emptied)
