-- The ways to a verdict, one law for each: the tests on the way to it; and what follows from a verdict. Assumes nothing.
use Rattle.std.proofs.Common.{◌≡◌, Bool, true, false, cond, refl}
use Rattle.promise.specs.Outcome.{Done}
use Rattle.rules.specs.Numbers.{trimmed, trimmed_last_hop, no_buffer}
use Rattle.rules.specs.Receiver.{Receiver, judge, known, beyond, verdict, nack_of, judged}
use Rattle.rules.specs.declared.Arrival.{Arrival}
use Rattle.rules.specs.declared.Verdict.{Verdict}
use Rattle.rules.specs.declared.Verdict.TheVariants.{Fresh, Known, Beyond, NoBuffer, Trim, TrimLastHop}
use Rattle.rules.specs.declared.Answer.TheVariants as answer

judge_is : (t l k b n : Bool) → judge t l k b n ≡ cond t Trim (cond l TrimLastHop (cond k Known (cond b Beyond (cond n NoBuffer Fresh))))
unfolding judge
judge_is true l k b n = refl
judge_is false true k b n = refl
judge_is false false true b n = refl
judge_is false false false true n = refl
judge_is false false false false true = refl
judge_is false false false false false = refl

module _ (r : Receiver) (a : Arrival) where
  -- the tests, one after the other
  pub verdict_is : verdict r a ≡ cond (trimmed a.flags) Trim (cond (trimmed_last_hop a.flags) TrimLastHop
      (cond (known r a.psn.0) Known (cond (beyond r a.psn.0) Beyond (cond (no_buffer a.flags) NoBuffer Fresh))))
  unfolding verdict
  verdict_is = judge_is (trimmed a.flags) (trimmed_last_hop a.flags) (known r a.psn.0) (beyond r a.psn.0) (no_buffer a.flags)

  -- what is neither fresh nor known brings a NACK
  pub judged_nack : (v : Verdict) → (v ≡ Fresh → ⊥) → (v ≡ Known → ⊥) → judged r a v ≡ Done r (answer.Nacked v (nack_of v a))
  unfolding judged
  judged_nack Fresh f k = absurd (f refl)
  judged_nack Known f k = absurd (k refl)
  judged_nack Beyond f k = refl
  judged_nack NoBuffer f k = refl
  judged_nack Trim f k = refl
  judged_nack TrimLastHop f k = refl
