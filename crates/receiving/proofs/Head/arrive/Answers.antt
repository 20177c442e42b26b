-- `Head::arrive` meets its contract: a return by a `?` is one of the rule's refusals, and any other does what the rule does.
-- Assumes nothing.
use Rattle.std.proofs.Common.{◌≡◌, ℕ, List, refl, ap, ◌∙◌, inr, rules, arith}
use Rattle.std.specs.Prelude.{Err, IsErrAnd}
use Rattle.std.proofs.lemmas.Result.{err_from_is_err_and}
use Rattle.std.proofs.lemmas.Bool.Decides.{nat_tests}
use Rattle.promise.specs.Outcome.{Refused, unless}
use Rattle.promise.specs.Promise.{told}
use Rattle.promise.proofs.Meeting.{refuses, does}
use Rattle.rules.specs.Paper.{paper, Reply}
use Rattle.rules.specs.Numbered.{number}
use Rattle.rules.specs.Receiver.{accept, counted, sack_of, nack_of, acked, judged}
use Rattle.rules.specs.Receiving.{arrive, arrive_refusals}
use Rattle.rules.specs.declared.Refusal.{Refusal}
use Rattle.rules.specs.declared.Arrival.{Arrival}
use Rattle.rules.specs.declared.Verdict.TheVariants.{Fresh, Known}
use Rattle.rules.specs.declared.Answer.TheVariants as answer
use Rattle.receiving.specs.declared.Head.{Head}
use Rattle.receiving.specs.Lent.{lent, meaning, Sound, Arrives}
use Rattle.receiving.proofs.Entries.{room_is}
use Rattle.receiving.proofs.Ways.{judged_nack}
use Rattle.receiving.proofs.Head.arrive.Goals as goal

-- a refusal leaves head and words
refused_by : {h : Head} {ws : List ℕ} {a : Arrival} {r : Reply} (e : Refusal) → Sound (lent h ws) → arrive (meaning (lent h ws)) a ≡ Refused (number e)
    → IsErrAnd r (λ g. g ≡ e) → Arrives (lent h ws) a r h ws
unfolding told
refused_by {r} e s o err =
    let p = err_from_is_err_and r err in
    record { meets = refuses (number e) o (ap (told paper number) (p.1 ∙ ap Err p.2)) refl s; long = refl }

pub returns-in_err-unless : goal.returns-in_err-unless
unfolding arrive arrive_refusals unless number
returns-in_err-unless c = refused_by _ c.requires (grind (arith, nat_tests, room_is)) c.from_residual.ensures.1

pub returns-in_err-unless-2 : goal.returns-in_err-unless-2
unfolding arrive arrive_refusals unless number
returns-in_err-unless-2 c = refused_by _ c.requires (grind (arith, nat_tests, room_is)) c.from_residual-in_err-unless-2.ensures.1

pub returns-in_err-unless-3 : goal.returns-in_err-unless-3
unfolding arrive arrive_refusals unless number
returns-in_err-unless-3 c = refused_by _ c.requires (grind (arith, nat_tests, room_is)) c.from_residual-in_err-unless-3.ensures.1

pub returns-in_err-unless-4 : goal.returns-in_err-unless-4
unfolding arrive arrive_refusals unless number
returns-in_err-unless-4 c = refused_by _ c.requires (grind (arith, nat_tests, room_is)) c.from_residual-in_err-unless-4.ensures.1

pub returns-in-Fresh : goal.returns-in-Fresh
unfolding arrive arrive_refusals unless judged acked
returns-in-Fresh c =
    let r = counted (accept (meaning (lent c.args.self.now c.args.words.now)) c.args.a) c.args.a in
    record {
      meets = does r (answer.Acked Fresh (sack_of r c.args.a)) (grind (arith, nat_tests, room_is)) (cc) (cc) (inr c.acked-out.ensures.started);
      long = search rules;
    }

pub returns-in-Known : goal.returns-in-Known
unfolding arrive arrive_refusals unless judged acked
returns-in-Known c =
    let r = counted (meaning (lent c.args.self.now c.args.words.now)) c.args.a in
    record {
      meets = does r (answer.Acked Known (sack_of r c.args.a)) (grind (arith, nat_tests, room_is)) (cc) (cc) (inr c.acked-out-in-Known.ensures.started);
      long = refl;
    }

pub returns-in_default : goal.returns-in_default
unfolding arrive arrive_refusals unless
returns-in_default c =
    let v = c.judge-v.result in
    let r = meaning (lent c.args.self.now c.args.words.now) in
    let nacked = judged_nack r c.args.a v c.in_default.not-Fresh c.in_default.not-Known in
    record {
      meets = does r (answer.Nacked v (nack_of v c.args.a)) (grind (arith, nat_tests, room_is)) (cc) refl c.requires;
      long = refl;
    }
