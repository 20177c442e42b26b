-- `Receiver::open` meets its contract: a return by a `?` is one of the rule's refusals, and the last is a fresh record. Assumes nothing.
use Rattle.std.proofs.Common.{◌≡◌, refl, inl, inr, true, rules, arith}
use Rattle.std.proofs.lemmas.Bool.Decides.{nat_tests}
use borrow.Author.Tests.{ltb-true}
use Rattle.promise.specs.Outcome.{unless}
use Rattle.promise.proofs.Meeting.{does}
use Rattle.rules.specs.Numbers.{turn, psn_ok, room_ok}
use Rattle.rules.specs.Numbered.{number}
use Rattle.rules.specs.Receiver.{fresh, start, start_refusals}
use Rattle.rules.specs.declared.Answer.TheVariants as answer
use Rattle.rules.specs.declared.Refusal.TheVariants as refusal
use Rattle.receiver.proofs.Starting.{refused_by, first_started, first_means}
use Rattle.receiver.proofs.Receiver.open.Goals as goal

pub returns-in_err-unless : goal.returns-in_err-unless
unfolding start start_refusals unless number
returns-in_err-unless c = refused_by _ _ refusal.BadRoom _ (inl c.requires) (search rules) (search rules)

pub returns-in_err-unless-2 : goal.returns-in_err-unless-2
unfolding start start_refusals unless number
returns-in_err-unless-2 c = refused_by _ _ refusal.BadPsn _ (inl c.requires) (search rules) (search rules)

pub returns : goal.returns
unfolding start start_refusals unless
returns c =
    let o = c.args.opening in
    let good : room_ok o.room ≡ true = grind arith in
    let valid : psn_ok o.first ≡ true = grind arith in
    let low = ltb-true o.first.0 turn valid in
    let bits = c.low.ensures in
    rw c.requires
    (does (fresh o.room o.first.0) answer.Started (grind (arith, nat_tests)) refl
    (first_means o.room o.first c.low.result good low bits)
    (inr (first_started o.room o.first c.low.result good low bits)))
