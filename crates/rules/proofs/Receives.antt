-- What the receiving side always has, it keeps: an arrival that is accepted slides the window to its first open entry, one that is counted
-- changes the count alone, and any other changes nothing. Assumes nothing.
use mathlib.Core.Path.{◌≡◌, ap, ◌∙◌}
use mathlib.Core.Bool.{true, false}
use Prim.Native.Nat.{ℕ, ◌<◌}
use native.Mathlib.Omega.{arith}
use lib.ListN.{get_or, set, length-set, length-replicate}
use Rattle.psn.proofs.Circle.{after_lt}
use Rattle.rules.specs.Numbers.{turn, distance, room_ok}
use Rattle.lists.specs.Lists.{lead}
use Rattle.rules.specs.Receiver.{Receiver, fresh, verdict, accept, counted, acked, judged}
use Rattle.rules.specs.Receiving.{Receiving, arrive, arrive_refusals, step}
use Rattle.rules.specs.Kept.{Receives}
use Rattle.rules.specs.declared.Arrival.{Arrival}
use Rattle.rules.specs.declared.Verdict.{Verdict}
use Rattle.rules.specs.declared.Verdict.TheVariants.{Fresh, Known, Beyond, NoBuffer, Trim, TrimLastHop}
use Rattle.lists.proofs.Lists.{lead_false, lead_le, get_or_alike, get_or_slide, length_slide}
use Rattle.promise.proofs.Outcomes.{After, after_unless, after_done}

pub receives_fresh : (n p : ℕ) → room_ok n ≡ true → p < turn → Receives (fresh n p)
unfolding fresh
receives_fresh n p h l = record {
  room_good = ap room_ok (length-replicate n false) ∙ h;
  expected_low = l;
  expected_open = get_or_alike false n 0;
  count_low = omega arith;
}

pub receives_accept : (r : Receiver) (a : Arrival) → Receives r → Receives (accept r a)
unfolding accept
receives_accept r a k =
    let w = set r.window (distance r.expected a.psn.0) true in
    record {
      room_good = ap room_ok (length_slide (lead w) w (lead_le w) ∙ length-set r.window _ true) ∙ k.room_good;
      expected_low = after_lt r.expected (lead w);
      expected_open = get_or_slide (lead w) w 0 ∙ ap (λ (i : ℕ). get_or w i false) (omega arith) ∙ lead_false w;
      count_low = k.count_low;
    }

receives_counted : (r : Receiver) (a : Arrival) → Receives r → Receives (counted r a)
unfolding counted
receives_counted r a k = record {
  room_good = k.room_good;
  expected_low = k.expected_low;
  expected_open = k.expected_open;
  count_low = omega arith;
}

receives_judged : (r : Receiver) (a : Arrival) (v : Verdict) → Receives r → After Receives r (judged r a v)
unfolding judged acked
receives_judged r a Fresh k = after_done Receives r _ _ (receives_counted _ a (receives_accept r a k))
receives_judged r a Known k = after_done Receives r _ _ (receives_counted r a k)
receives_judged r a Beyond k = after_done Receives r _ _ k
receives_judged r a NoBuffer k = after_done Receives r _ _ k
receives_judged r a Trim k = after_done Receives r _ _ k
receives_judged r a TrimLastHop k = after_done Receives r _ _ k

pub receives_step : (r : Receiver) (e : Receiving) → Receives r → After Receives r (step r e)
unfolding step arrive
receives_step r a k = after_unless Receives r (arrive_refusals r a) _ k λ _. receives_judged r a (verdict r a) k
