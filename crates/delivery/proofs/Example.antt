-- A run across the wrap of PSNs with losses, swaps, a trimmed packet, resends, packets that come twice and a late SACK, by computing it.
-- Assumes nothing.
use mathlib.Core.Path.{◌≡◌, refl, ap}
use mathlib.Core.Bool.{true, false}
use mathlib.Core.List.Memᴰ
use mathlib.Core.List.{[], ◌∷◌, map}
use Prim.Native.Nat.{ℕ, ◌<◌}
use native.Mathlib.Omega.{arith}
use lib.ListN.{length, get_or}
use Rattle.lists.specs.Lists.{sum}
use Rattle.rules.specs.Numbers.{psn}
use Rattle.rules.specs.Sender.{outstanding}
use Rattle.rules.specs.Retire.{is_retired}
use Rattle.rules.specs.Marks.{unmarked}
use Rattle.rules.proofs.Unfold as opened
use Rattle.delivery.specs.Wire.{Packet, Fate, arrival, Acks, Nacks, hearing, accepts, message, Note, base_number, Readable}
use Rattle.delivery.specs.Network.{Start, put, acceptance, reply, size_of, with_sender, with_receiver, on_send, again, on_resend, on_arrive, still}
use Rattle.delivery.specs.Network as net
use Rattle.delivery.specs.Rules.{World, Run, begin}
use Rattle.delivery.specs.Promise.{Promise, lossless, compared, adds, received, retired_at}
use Rattle.delivery.specs.Progress.{Course, Diligent, Fair}
use Rattle.delivery.proofs.Effects.{rule_send, rule_resend, rule_timer, rule_hear, rule_arrive}
use Rattle.delivery.proofs.Effects.{run_send, run_resend, run_timer, run_hear, run_arrive}
use Rattle.delivery.proofs.Theorem.{delivers}
use Rattle.delivery.proofs.Fair.{goes_on}

-- all definitions of the network under one name
unfoldable network : Unit {0}
unfolding arrival hearing accepts message base_number Readable
    net.begin begin put acceptance reply size_of with_sender with_receiver on_send again on_resend on_arrive
    rule_send rule_resend rule_timer rule_hear rule_arrive
network = tt

s : Start
unfolding opened.rules
s = record {
  first = 16777214;
  send_room = 64;
  receive_room = 64;
  first_low = omega arith;
  send_good = refl;
  receive_good = refl;
  no_larger = omega arith;
}

-- whole; trimmed, to 64 bytes; whole, with the RTX flag
whole : Fate
whole = record { entropy = 7; flags = 0; cut = 0 }

trimmed : Fate
trimmed = record { entropy = 7; flags = 4; cut = 64 }

retried : Fate
retried = record { entropy = 7; flags = 2; cut = 0 }

p0 : Packet
p0 = record { number = 0; psn = 16777214; size = 100 }

p1 : Packet
p1 = record { number = 1; psn = 16777215; size = 200 }

p2 : Packet
p2 = record { number = 2; psn = 0; size = 300 }

p3 : Packet
p3 = record { number = 3; psn = 1; size = 400 }

p4 : Packet
p4 = record { number = 4; psn = 2; size = 500 }

-- reply i, the newest first
note : World → ℕ → Note
note w i = get_or w.notes i (record { reply = Nacks (record { psn = psn 0; reason = 0; entropy = 0; rtx = false }); here = 0; about = 0; size = 0 })

-- five packets go out. The last is lost; the third comes twice and the fourth once, then the second trimmed, and the first
w5 : World
w5 = rule_send (rule_send (rule_send (rule_send (rule_send (begin s) 100) 200) 300) 400) 500

w10 : World
w10 = rule_arrive (rule_arrive (rule_arrive (rule_arrive (rule_arrive w5 p2 whole) p2 whole) p3 whole) p1 trimmed) p0 whole

run10 : Run (begin s) w10
unfolding opened.rules network s whole trimmed p0 p1 p2 p3 w5 w10
run10 =
    let r5 : Run (begin s) w5 = run_send (run_send (run_send (run_send (run_send still 100) 200) 300) 400) 500 in
    let w6 : World = rule_arrive w5 p2 whole in
    let r6 : Run (begin s) w6 = run_arrive r5 p2 (Memᴰ.tail (Memᴰ.tail (Memᴰ.head refl))) (omega arith) whole in
    let w7 : World = rule_arrive w6 p2 whole in
    let r7 : Run (begin s) w7 = run_arrive r6 p2 (Memᴰ.tail (Memᴰ.tail (Memᴰ.head refl))) (omega arith) whole in
    let w8 : World = rule_arrive w7 p3 whole in
    let r8 : Run (begin s) w8 = run_arrive r7 p3 (Memᴰ.tail (Memᴰ.head refl)) (omega arith) whole in
    let w9 : World = rule_arrive w8 p1 trimmed in
    let r9 : Run (begin s) w9 = run_arrive r8 p1 (Memᴰ.tail (Memᴰ.tail (Memᴰ.tail (Memᴰ.head refl)))) (omega arith) trimmed in
    run_arrive r9 p0 (Memᴰ.tail (Memᴰ.tail (Memᴰ.tail (Memᴰ.tail (Memᴰ.head refl))))) (omega arith) whole

-- the SACK of the fourth is heard, then late one of the third
w12 : World
w12 = rule_hear (rule_hear w10 (note w10 2)) (note w10 3)

run12 : Run (begin s) w12
unfolding opened.rules network s whole trimmed p0 p1 p2 p3 w5 w10 note w12
run12 =
    let w11 : World = rule_hear w10 (note w10 2) in
    let r11 : Run (begin s) w11 =
    run_hear run10 (note w10 2) (Memᴰ.tail (Memᴰ.tail (Memᴰ.head refl))) (omega arith, λ j h e. omega arith) in
    run_hear r11 (note w10 3) (Memᴰ.tail (Memᴰ.tail (Memᴰ.tail (Memᴰ.head refl)))) (omega arith, λ j h e. omega arith)

-- then the NACK of the second and the SACK of the first
w14 : World
w14 = rule_hear (rule_hear w12 (note w10 1)) (note w10 0)

run14 : Run (begin s) w14
unfolding opened.rules network s whole trimmed p0 p1 p2 p3 w5 w10 note w12 w14
run14 =
    let r13 : Run (begin s) (rule_hear w12 (note w10 1)) = run_hear run12 (note w10 1) (Memᴰ.tail (Memᴰ.head refl)) (omega arith) in
    run_hear r13 (note w10 0) (Memᴰ.head refl) (omega arith, λ j h e. omega arith)

-- the timer of the last runs out, and both go out again and come. Their SACKs are lost
w17 : World
w17 = rule_resend (rule_resend (rule_timer w14 2))

w19 : World
w19 = rule_arrive (rule_arrive w17 p1 retried) p4 retried

run19 : Run (begin s) w19
unfolding opened.rules network s whole trimmed retried p0 p1 p2 p3 p4 w5 w10 note w12 w14 w17 w19
run19 =
    let r17 : Run (begin s) w17 = run_resend (run_resend (run_timer run14 2)) in
    let r18 : Run (begin s) (rule_arrive w17 p1 retried) = run_arrive r17 p1 (Memᴰ.tail (Memᴰ.head refl)) (omega arith) retried in
    run_arrive r18 p4 (Memᴰ.head refl) (omega arith) retried

-- the first comes once more, and the SACK that answers it is heard
w20 : World
w20 = rule_arrive w19 p0 whole

w21 : World
w21 = rule_hear w20 (note w20 0)

run21 : Run (begin s) w21
unfolding opened.rules network s whole trimmed retried p0 p1 p2 p3 p4 w5 w10 note w12 w14 w17 w19 w20 w21
run21 =
    let r20 : Run (begin s) w20 =
    run_arrive run19 p0
    (Memᴰ.tail (Memᴰ.tail (Memᴰ.tail (Memᴰ.tail (Memᴰ.tail (Memᴰ.tail (Memᴰ.head refl)))))))
    (omega arith) whole in
    run_hear r20 (note w20 0) (Memᴰ.head refl) (omega arith, λ j h e. omega arith)

-- ---- what it comes to
-- a clear bit of the late SACK says nothing
late : (w12.low ≡ 0) × (map is_retired w12.sending.entries ≡ (false ∷ false ∷ true ∷ true ∷ false ∷ []))
unfolding opened.rules network s whole trimmed p0 p1 p2 p3 w5 w10 note w12
late = (refl, refl)

half_way : (w14.low ≡ 1) × (map is_retired w14.sending.entries ≡ (false ∷ true ∷ true ∷ false ∷ []))
    × (map unmarked w14.sending.entries ≡ (false ∷ true ∷ true ∷ true ∷ [])) × (w14.accepted ≡ (0 ∷ 3 ∷ 2 ∷ [])) × (w14.receiving.expected ≡ 16777215)
unfolding opened.rules network s whole trimmed p0 p1 p2 p3 w5 w10 note w12 w14
half_way = (refl, refl, refl, refl, refl)

twice : (note w20 0).reply
    ≡ Acks false (record { cack = psn 2; block = record { base = psn 3; bitmap = 0 }; count = 7; mpr = 0; entropy = 7; rtx = false; mark = false })
unfolding opened.rules network s whole trimmed retried p0 p1 p2 p3 p4 w5 w10 note w12 w14 w17 w19 w20
twice = refl

the_end : (w21.low ≡ 5) × (w21.sending.entries ≡ []) × (w21.sending.place ≡ 2) × (w21.accepted ≡ (4 ∷ 1 ∷ 0 ∷ 3 ∷ 2 ∷ []))
    × (w21.receiving.expected ≡ 3)
unfolding opened.rules network s whole trimmed retried p0 p1 p2 p3 p4 w5 w10 note w12 w14 w17 w19 w20 w21
the_end = (refl, refl, refl, refl, refl)

-- the third and the first came twice, 400 bytes more than were sent; the trimmed one does not count
bytes : (w21.receiving.count ≡ 1900) × (received w21.notes ≡ 1900) × (sum w21.sent ≡ 1500)
unfolding opened.rules network s whole trimmed retried p0 p1 p2 p3 p4 w5 w10 note w12 w14 w17 w19 w20 w21 adds received
bytes = (refl, refl, refl)

-- demand 3 speaks of it
kept : Promise s w21
kept = delivers s w21 run21

alike : (w21.sending ≡ (lossless s w21.sent).0) × (compared w21.receiving ≡ compared (lossless s w21.sent).1)
alike = kept.in_the_end nothing
  where
    nothing : (k : ℕ) → k < outstanding w21.sending → retired_at w21.sending k ≡ true
    nothing k h = absurd (omega (arith, ap length the_end.1))

-- and it goes on in a course with a diligent host and a fair network
a_fair_course : (c : Course s) × Diligent c × Fair c × ((t : ℕ) × (c.at t ≡ w21))
a_fair_course = goes_on s w21 run21
