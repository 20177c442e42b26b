-- Every rule leaves a side's room as it was: each record that an event makes has the room of the one before. And a side without a room
-- refuses every event. Assumes nothing.
use mathlib.Core.Path.{◌≡◌, refl, ◌∙◌}
use Prim.Native.Nat.{ℕ}
use lib.Dec.{leb}
use lib.ListN.{get_or, set, length-set}
use mathlib.Core.Bool.{true, false}
use mathlib.Core.List.{map}
use Rattle.rules.specs.Numbers.{distance}
use Rattle.lists.specs.Lists.{lead}
use Rattle.rules.specs.Receiver.{Receiver, room, verdict, accept, counted, acked, judged}
use Rattle.rules.specs.Receiving.{Receiving, arrive, arrive_refusals}
use Rattle.rules.specs.Receiving as receiving
use Rattle.rules.specs.Receiver as receiver
use Rattle.promise.specs.Outcome.{Refused, unless}
use Rattle.rules.specs.Sender.{Sender, unused, index, with_entries, sent}
use Rattle.rules.specs.Retire.{settle, after_sack, acknowledged}
use Rattle.rules.specs.Marks.{markable, mark, nacked, resent}
use Rattle.rules.specs.Sending.{step, send, send_refusals, sack, sack_refusals, nack, nack_refusals, timer, timer_refusals, resend, resend_refusals}
use Rattle.rules.specs.declared.Arrival.{Arrival}
use Rattle.rules.specs.declared.Sending.{Sending}
use Rattle.rules.specs.declared.Sending.TheVariants as sending
use Rattle.rules.specs.declared.Answer.{Answer}
use Rattle.rules.specs.declared.Answer.TheVariants as answer
use Rattle.rules.specs.declared.Verdict.{Verdict}
use Rattle.rules.specs.declared.Verdict.TheVariants.{Fresh, Known, Beyond, NoBuffer, Trim, TrimLastHop}
use Rattle.lists.proofs.Lists.{lead_le, length_slide}
use Rattle.promise.proofs.Outcomes.{After, after_unless, after_cond, after_done}

-- ---- the receiving side
abbrev pub SameRoom : Receiver → Receiver → Type 0
SameRoom r s = room s ≡ room r

room_accept : (r : Receiver) (a : Arrival) → SameRoom r (accept r a)
unfolding accept
room_accept r a =
    let w = set r.window (distance r.expected a.psn.0) true in
    length_slide (lead w) w (lead_le w) ∙ length-set r.window _ true

room_judged : (r : Receiver) (a : Arrival) (v : Verdict) → After (SameRoom r) r (judged r a v)
unfolding judged acked counted
room_judged r a Fresh = after_done (SameRoom r) r _ _ (room_accept r a)
room_judged r a Known = after_done (SameRoom r) r _ _ refl
room_judged r a Beyond = after_done (SameRoom r) r _ _ refl
room_judged r a NoBuffer = after_done (SameRoom r) r _ _ refl
room_judged r a Trim = after_done (SameRoom r) r _ _ refl
room_judged r a TrimLastHop = after_done (SameRoom r) r _ _ refl

pub room_receiving : (r : Receiver) (e : Receiving) → After (SameRoom r) r (receiving.step r e)
unfolding receiving.step arrive
room_receiving r a = after_unless (SameRoom r) r (arrive_refusals r a) _ refl λ _. room_judged r a (verdict r a)

-- ---- the sending side
abbrev pub SameSpace : Sender → Sender → Type 0
SameSpace x y = y.room ≡ x.room

room_mark : (tell : ℕ → Answer) (x : Sender) (p : ℕ) → After (SameSpace x) x (mark tell x p)
unfolding mark with_entries
room_mark tell x p =
    after_cond (SameSpace x) x (get_or (map markable x.entries) (index x p) false) _ _
    (λ _. after_done (SameSpace x) x _ _ refl) (λ _. after_done (SameSpace x) x _ _ refl)

room_nacked : (x : Sender) (p reason : ℕ) → After (SameSpace x) x (nacked x p reason)
unfolding nacked
room_nacked x p reason =
    after_cond (SameSpace x) x (leb reason 4) _ _ (λ _. room_mark answer.Marked x p) (λ _. after_done (SameSpace x) x _ _ refl)

pub room_sending : (x : Sender) (e : Sending) → After (SameSpace x) x (step x e)
unfolding step send sack nack timer resend sent acknowledged after_sack settle resent with_entries
room_sending x (sending.Send size) = after_unless (SameSpace x) x (send_refusals x size) _ refl λ _. after_done (SameSpace x) x _ _ refl
room_sending x (sending.Sack cack b) = after_unless (SameSpace x) x (sack_refusals x cack b) _ refl λ _. after_done (SameSpace x) x _ _ refl
room_sending x (sending.Nack p reason) = after_unless (SameSpace x) x (nack_refusals x p reason) _ refl λ _. room_nacked x p.0 reason
room_sending x (sending.Timer p) = after_unless (SameSpace x) x (timer_refusals x p) _ refl λ _. room_mark answer.Expired x p.0
room_sending x sending.Resend = after_unless (SameSpace x) x (resend_refusals x) _ refl λ _. after_done (SameSpace x) x _ _ refl

-- ---- an unused side refuses every event with 2
pub unused_sending : (x : Sender) (e : Sending) → unused x ≡ true → step x e ≡ Refused 2
unfolding step send send_refusals sack sack_refusals nack nack_refusals timer timer_refusals resend resend_refusals unless
unused_sending x (sending.Send size) u = rw u
unused_sending x (sending.Sack cack b) u = rw u
unused_sending x (sending.Nack p reason) u = rw u
unused_sending x (sending.Timer p) u = rw u
unused_sending x sending.Resend u = rw u

pub unused_receiving : (r : Receiver) (e : Receiving) → receiver.unused r ≡ true → receiving.step r e ≡ Refused 2
unfolding receiving.step arrive arrive_refusals unless
unused_receiving r a u = rw u
