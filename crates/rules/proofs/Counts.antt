-- 02, No. 4, of every record: what an arrival leaves of the count and brings as its reply goes by its arrival answer, and nothing but a
-- fresh packet changes more than the count. Assumes nothing.
use mathlib.Core.Path.{◌≡◌, refl}
use mathlib.Core.Bool.{cond}
use Prim.Native.Nat.{◌+◌, ◌%◌, ◌^◌}
use lib.Dec.{ltb}
use Rattle.std.specs.Prelude.{Ok}
use Rattle.promise.specs.Outcome.{left}
use Rattle.rules.specs.Receiver.{Receiver, accept, counted, sack_of, nack_of, acked, judged}
use Rattle.rules.specs.Paper.{code, answered}
use Rattle.rules.specs.declared.Arrival.{Arrival}
use Rattle.rules.specs.declared.Verdict.{Verdict}
use Rattle.rules.specs.declared.Verdict.TheVariants.{Fresh, Known, Beyond, NoBuffer, Trim, TrimLastHop}
use Rattle.rules.specs.declared.Answer.TheVariants as answer

module _ (r : Receiver) (a : Arrival) where
  -- "every arrival answered 0 or 1 adds its size; beyond, no-buffer and trimmed ones still don't"
  pub count_by_answer : (v : Verdict) → (left r (judged r a v)).count ≡ cond (ltb (code v) 2) ((r.count + a.size) % 2 ^ 32) r.count
  unfolding judged acked accept counted left code
  count_by_answer Fresh = refl
  count_by_answer Known = refl
  count_by_answer Beyond = refl
  count_by_answer NoBuffer = refl
  count_by_answer Trim = refl
  count_by_answer TrimLastHop = refl

  -- "Answers 0 and 1 bring a SACK, the others a NACK"; the SACK is that of the record after the event
  pub reply_by_answer : (v : Verdict)
      → answered (judged r a v) ≡ Ok (cond (ltb (code v) 2) (answer.Acked v (sack_of (left r (judged r a v)) a)) (answer.Nacked v (nack_of v a)))
  unfolding judged acked answered left code
  reply_by_answer Fresh = refl
  reply_by_answer Known = refl
  reply_by_answer Beyond = refl
  reply_by_answer NoBuffer = refl
  reply_by_answer Trim = refl
  reply_by_answer TrimLastHop = refl

  pub tracks_by_fresh : (v : Verdict) → (v ≡ Fresh → ⊥)
      → ((left r (judged r a v)).expected ≡ r.expected) × ((left r (judged r a v)).window ≡ r.window)
  unfolding judged acked counted left
  tracks_by_fresh Fresh f = absurd (f refl)
  tracks_by_fresh Known f = (refl, refl)
  tracks_by_fresh Beyond f = (refl, refl)
  tracks_by_fresh NoBuffer f = (refl, refl)
  tracks_by_fresh Trim f = (refl, refl)
  tracks_by_fresh TrimLastHop f = (refl, refl)
