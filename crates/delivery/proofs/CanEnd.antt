-- Every run can be brought to its end: packet number low is still on the wire, it comes again whole, and the SACK that answers it moves
-- the place. So on, until nothing is left. Assumes nothing.
use mathlib.Core.Path.{◌≡◌, refl, sym, ap, ◌∙◌, subst}
use mathlib.Core.Bool.{Bool, true, false}
use mathlib.Core.List.{List, ◌∷◌, Memᴰ}
use Prim.Native.Nat.{ℕ, zero, suc, ◌+◌, ◌-◌, ◌≤◌, ◌<◌}
use native.Mathlib.Omega.{arith}
use native.Mathlib.Decide.{dec_lt}
use lib.ListN.{length}
use borrow.Author.Tests.{lt-ltb, le-leb}
use Rattle.psn.proofs.Circle.{after_lt, back}
use Rattle.word.specs.Word.{bit_at}
use Rattle.rules.specs.Numbers.{turn, half, after, distance, size_ok, flags_ok}
use Rattle.promise.specs.Outcome.{Outcome, unless, left}
use Rattle.rules.specs.Paper.{answered}
use Rattle.rules.specs.Receiver.{Receiver, judge, known, verdict, accept, counted, sack_of, judged}
use Rattle.rules.specs.Receiver as receiver
use Rattle.rules.specs.Receiving.{arrive_refusals, arrive}
use Rattle.rules.specs.Sending.{step}
use Rattle.rules.specs.declared.Arrival.{Arrival}
use Rattle.rules.specs.declared.Answer.{Answer}
use Rattle.rules.specs.declared.Sack.{Sack}
use Rattle.rules.specs.declared.Verdict.TheVariants.{Fresh, Known}
use Rattle.delivery.specs.Wire.{Packet, Fate, arrival, Reply, Acks, hearing, accepts, message, Note, base_number, Near, Readable}
use Rattle.delivery.specs.Network.{Start, Sides, Worlds, with_sender, with_receiver, acceptance, reply, on_arrive}
use Rattle.delivery.specs.Network.{still, then}
use Rattle.delivery.specs.Network as network
use Rattle.delivery.specs.Rules.{rules, World, Run}
use Rattle.delivery.specs.Promise.{among, plain}
use Rattle.delivery.specs.Sense.{Ended, CanEnd}
use Rattle.delivery.proofs.Effects.{rule_hear, rule_arrive, noted, run_hear, run_arrive}
use Rattle.delivery.proofs.Rooms.{room_some, room_few}
use Rattle.delivery.proofs.Sets.{plus, plus_same, at_most, at_least}
use Rattle.delivery.proofs.Holds.{Holds, receiver_used, Tells}
use Rattle.delivery.proofs.Keeps.{place_moves}
use Rattle.delivery.proofs.Taken.{sack_taken, sack_moves, near_ahead, bits_near_ahead}
use Rattle.delivery.proofs.Invariant.{Told, Inv, size_good, not_yet, not_ahead, inv_run, invariant}
use Rattle.delivery.proofs.Order.{plain_arrives}

-- a run from where another ends
joined : {n : Sides} {u v w : Worlds n} → network.Run n u v → network.Run n v w → network.Run n u w
joined r still = r
joined r (then q e) = then (joined r q) e

-- the same packets, and the place further on
record Onward (w v : World) : Type 0 where
  further : Run w v
  same_packets : v.sent ≡ w.sent
  moved : w.low < v.low

-- ---- a SACK past the place is heard
module _ {s : Start} {w : World} (I : Inv s w) (n : Note) (there : Memᴰ n w.notes)
    (b : Bool) (k : Sack) (reply_is : n.reply ≡ Acks b k) (ahead : w.low < n.here) where
  tells : Tells s (among w.accepted) n.here k
  unfolding Told
  tells = let T : Told s (among w.accepted) (length w.sent) n (Acks b k) = rw reply_is at (I.told n there) in T.tells

  here_near : Near n.here w.low
  here_near = near_ahead I.keeps I.bound n.here k tells (omega arith)

  bits_near : (j : ℕ) → j < 64 → bit_at k.block.bitmap j ≡ true → Near (base_number n.here k + j + 1) w.low
  bits_near = bits_near_ahead I.keeps I.bound n.here k tells (omega arith)

  readable : Readable w.low n n.reply
  unfolding Readable
  readable = subst (λ (q : Reply). Readable w.low n q) (sym reply_is) (here_near, bits_near)

  low_moves : w.low < w.low + distance w.sending.place (left w.sending (step w.sending (hearing n.reply))).place
  unfolding step hearing left
  low_moves =
      let far = place_moves I.keeps n.here k tells here_near bits_near in
      rw (reply_is, sack_taken I.keeps I.bound n.here k tells here_near bits_near, far)
      (omega (arith, sack_moves I.keeps I.bound n.here k tells here_near bits_near ahead))

  hear_on : Onward w (rule_hear w n)
  unfolding rule_hear with_sender
  hear_on = record { further = run_hear still n there readable; same_packets = refl; moved = low_moves }

-- where packet low is accepted, E is past it
past : {s : Start} {w : World} → Inv s w → (i : ℕ) → i ≡ w.low → among w.accepted i ≡ true → i < w.at
past {w = w} I i is e = at_least I.holds.missing (suc i) (λ j h. elim (dec_lt j i) [
  | yes p ↦ I.keeps.below j (omega arith)
  | no p ↦ ap (among w.accepted) (omega arith) ∙ e
])

-- ---- a packet comes whole
clean : Fate
clean = record { entropy = 0; flags = 0; cut = 0 }

-- what is behind E is known
known_arrives : {s : Start} {A : ℕ → Bool} {r : Receiver} {at : ℕ} → Holds s A r at → (i z : ℕ) → size_ok z ≡ true → i < at → at ≤ i + half
    → arrive r (plain (after s.first i) z) ≡ judged r (plain (after s.first i) z) Known
unfolding arrive arrive_refusals unless plain bit_at flags_ok verdict judge known
known_arrives {s} {r = r} {at = at} H i z good h near =
    let p : ℕ = after s.first i in
    let d : ℕ = distance r.expected p in
    let d_is : d ≡ turn + i - at = ap (λ (q : ℕ). distance q p) H.expected_is ∙ back s.first at i h (omega arith) in
    rw (receiver_used H, lt-ltb p turn (after_lt s.first i), good, le-leb half d (omega arith))

-- it is accepted now or was before, and a SACK says so
record Acked (w v : World) (i : ℕ) : Type 0 where
  note : Note
  there : Memᴰ note v.notes
  accepting : Bool
  answer : Sack
  reply_is : note.reply ≡ Acks accepting answer
  here_is : note.here ≡ v.at
  low_same : v.low ≡ w.low
  sent_same : v.sent ≡ w.sent
  accepted : among v.accepted i ≡ true

acked : (w : World) (r : Receiver) (l : List ℕ) (i z : ℕ) (b : Bool) (k : Sack) → among l i ≡ true
    → Acked w (noted (with_receiver rules w r) l i z (Acks b k)) i
unfolding noted with_receiver
acked w r l i z b k e = record {
  note = record { reply = Acks b k; here = w.at + distance w.receiving.expected r.expected; about = i; size = z };
  there = Memᴰ.head refl;
  accepting = b;
  answer = k;
  reply_is = refl;
  here_is = refl;
  low_same = refl;
  sent_same = refl;
  accepted = e;
}

module _ {s : Start} {w : World} (I : Inv s w) (p : Packet) (there : Memᴰ p w.wire) (is : p.number ≡ w.low) where
  near : Near p.number w.at
  near =
      let at_sent = at_most I.holds.missing (length w.sent) (not_yet I) in
      omega (arith, not_ahead I, at_sent, I.keeps.next_is, I.keeps.room_left, room_few s.send_room s.send_good)

  arrive_acked : (b : Bool) → among w.accepted p.number ≡ b → Acked w (rule_arrive w p clean) p.number
  unfolding rule_arrive on_arrive noted acceptance arrival clean plain bit_at reply message answered left judged receiver.acked accepts among plus with_receiver
  arrive_acked true e =
      let r = w.receiving in
      let i = p.number in
      let z = p.size in
      let a : Arrival = plain p.psn z in
      let met : arrive r a ≡ judged r a Known =
      subst (λ (q : ℕ). arrive r (plain q z) ≡ judged r (plain q z) Known) (sym (I.carried p there).psn_is)
      (known_arrives I.holds i z (size_good I p there) (past I i is e) (omega (arith, near))) in
      subst (λ (o : Outcome Answer Receiver). Acked w (reply (with_receiver rules w (left r o)) i z (message (answered o))) i) (sym met)
      (acked w (counted r a) w.accepted i z false (sack_of (counted r a) a) e)
  arrive_acked false e =
      let r = w.receiving in
      let i = p.number in
      let z = p.size in
      let a : Arrival = plain p.psn z in
      let low = at_most I.holds.missing i e in
      let met : arrive r a ≡ judged r a Fresh =
      subst (λ (q : ℕ). arrive r (plain q z) ≡ judged r (plain q z) Fresh) (sym (I.carried p there).psn_is)
      (plain_arrives I.holds i z (size_good I p there) e (omega (arith, not_ahead I, room_some s.receive_room s.receive_good))) in
      subst (λ (o : Outcome Answer Receiver). Acked w (reply (with_receiver rules w (left r o)) i z (message (answered o))) i) (sym met)
      (let r' : Receiver = counted (accept r a) a in acked w r' (i ∷ w.accepted) i z true (sack_of r' a) (plus_same i i (among w.accepted) refl))

  onward : (v : World) × Onward w v
  onward =
      let u : World = rule_arrive w p clean in
      let run : Run w u = run_arrive still p there near clean in
      let J : Inv s u = inv_run I run in
      let K = arrive_acked (among w.accepted p.number) refl in
      let low = past J p.number (is ∙ sym K.low_same) K.accepted in
      let H = hear_on J K.note K.there K.accepting K.answer K.reply_is (omega (arith, K.here_is, low, K.low_same)) in (
        rule_hear u K.note,
        record {
          further = joined run H.further;
          same_packets = H.same_packets ∙ K.sent_same;
          moved = omega (arith, H.moved, K.low_same);
        },
      )

-- ---- so on, while at most n are left
ended : {s : Start} (w : World) → Inv s w → length w.sent ≤ w.low → (v : World) × Ended w v
ended w I h = (w, record { further = still; same_packets = refl; all_retired = omega (arith, I.keeps.next_is) })

ends : {s : Start} (n : ℕ) (w : World) → Inv s w → length w.sent ≤ w.low + n → (v : World) × Ended w v
ends zero w I h = ended w I (omega arith)
ends (suc n) w I h = elim (dec_lt w.low (length w.sent)) [
  | no p ↦ ended w I (omega arith)
  | yes p ↦
      let O = I.on_wire w.low p in
      let N = onward I O.packet O.there O.number_is in
      let M = N.1 in
      let E = ends n N.0 (inv_run I M.further) (omega (arith, M.moved, ap length M.same_packets)) in
      (E.0, record { further = joined M.further E.1.further; same_packets = E.1.same_packets ∙ M.same_packets; all_retired = E.1.all_retired })
]

pub can_end : CanEnd
can_end s w run = ends (length w.sent) w (invariant run) (omega arith)
