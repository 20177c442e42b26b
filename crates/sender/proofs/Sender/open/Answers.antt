-- `Sender::open` meets its contract: the rule's tests one after the other, and then the record that it begins. Assumes nothing.
use Rattle.std.proofs.Common.{◌≡◌, refl, inl, inr, true, rules, arith}
use Rattle.std.proofs.lemmas.Bool.Decides.{nat_tests}
use Rattle.promise.specs.Outcome.{unless}
use Rattle.promise.proofs.Meeting.{does}
use Rattle.rules.specs.Numbers.{room_ok}
use Rattle.rules.specs.Numbered.{number}
use Rattle.rules.specs.Sender.{fresh, start_refusals, start}
use Rattle.rules.specs.declared.Answer.TheVariants as answer
use Rattle.rules.specs.declared.Refusal.TheVariants as refusal
use Rattle.sender.proofs.Starting.{refused_by, begun_means, begun_started}
use Rattle.sender.proofs.Sender.open.Goals as goal

pub returns-in_err-unless : goal.returns-in_err-unless
unfolding start start_refusals unless number
returns-in_err-unless c = refused_by _ _ refusal.BadRoom _ (inl c.requires) (search rules) (search rules)

pub returns-in_err-unless-2 : goal.returns-in_err-unless-2
unfolding start start_refusals unless number
returns-in_err-unless-2 c = refused_by _ _ refusal.BadPsn _ (inl c.requires) (search rules) (search rules)

pub returns : goal.returns
unfolding start start_refusals unless
returns c =
    let o = c.args.opening in
    let good : room_ok o.room ≡ true = grind arith in
    let place = c.after-self.ensures in
    let bits = c.low.ensures in
    rw c.requires
    (does (fresh o.room o.first.0) answer.Started (grind (arith, nat_tests)) refl
    (begun_means o.room o.first.0 c.after-self.result c.low.result good place bits)
    (inr (begun_started o.room o.first.0 c.after-self.result c.low.result good place bits)))
