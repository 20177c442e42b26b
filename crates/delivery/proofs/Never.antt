-- What a run never meets: the sender's room is no larger than the receiver's, so no packet is beyond the window; every reply names packets
-- that were sent, so none is refused; and E is not accepted and no block begins behind it, so none is answered 17, wherever its numbers lie.
-- Assumes nothing.
use mathlib.Core.Path.{◌≡◌, refl, sym, ap, ◌∙◌}
use mathlib.Core.Bool.{Bool, true, false, cond, false≢true}
use mathlib.Core.List.{map}
use mathlib.Core.Logic.{◌≢◌}
use native.Mathlib.Omega.{arith}
use lib.Dec.{leb}
use lib.ListN.{length, get_or}
use borrow.Author.Tests.{leb-true}
use Rattle.promise.specs.Outcome.{Outcome}
use Rattle.promise.specs.Promise.{told}
use Rattle.rules.specs.Numbers.{distance, trimmed, trimmed_last_hop, no_buffer}
use Rattle.rules.specs.Numbered.{number, refusal}
use Rattle.rules.specs.Receiver.{room, judge, known, beyond, verdict}
use Rattle.rules.specs.Sender.{Sender, index}
use Rattle.rules.specs.Retire.{report, acknowledged}
use Rattle.rules.specs.Marks.{markable, mark, nacked}
use Rattle.rules.specs.Sending.{sack_refusals, sack, nack_refusals, nack, step}
use Rattle.rules.specs.Paper.{paper, Reply as Answered, reply_line, answered}
use Rattle.rules.specs.declared.Answer.{Answer}
use Rattle.rules.specs.declared.Verdict.TheVariants.{Beyond}
use Rattle.delivery.specs.Wire.{Reply, Acks, Nacks, hearing, Note, arrival, Readable}
use Rattle.delivery.specs.Network.{Start}
use Rattle.delivery.specs.Rules.{given, World}
use Rattle.delivery.specs.Promise.{among}
use Rattle.delivery.specs.Sense.{NeverBeyond, Taken, NeverRefused, NeverContradicts}
use Rattle.promise.proofs.Refusing.{Each, through_each}
use Rattle.delivery.proofs.Holds.{not_known}
use Rattle.delivery.proofs.Taken.{nack_taken, sack_taken}
use Rattle.delivery.proofs.Invariant.{Told, Inv, not_ahead, invariant}

judge_beyond : (t l k b n : Bool) → judge t l k b n ≡ Beyond → (k ≡ false) × (b ≡ true)
unfolding judge
judge_beyond true l k b n e = (cc, cc)
judge_beyond false true k b n e = (cc, cc)
judge_beyond false false true b n e = (cc, cc)
judge_beyond false false false true n e = (refl, refl)
judge_beyond false false false false true e = (cc, cc)
judge_beyond false false false false false e = (cc, cc)

pub never_beyond : NeverBeyond
unfolding verdict beyond arrival
never_beyond s w run p m near f e =
    let I = invariant run in
    let C = I.carried p m in
    let r = w.receiving in
    let g = judge_beyond (trimmed f.flags) (trimmed_last_hop f.flags) (known r p.psn) (beyond r p.psn) (no_buffer f.flags) e in
    let N = not_known I.holds p.number p.psn C.psn_is near g.0 in
    let far = leb-true (room r) (distance r.expected p.psn) g.1 in
    omega (arith, N.number, not_ahead I, I.holds.room_is, I.keeps.next_is, I.keeps.room_left, C.was_sent, s.no_larger)

taken : {s : Start} {w : World} → Inv s w → (n : Note) (q : Reply) → Told s (among w.accepted) (length w.sent) n q
    → Readable w.low n q → Taken w.sending q
unfolding Told Readable step hearing
taken I n (Acks b k) T R = (_, _, sack_taken I.keeps I.bound n.here k T.tells R.0 R.1)
taken I n (Nacks k) T R = nack_taken I.keeps n.about k.psn k.reason T.psn_is T.was_sent R T.reason_good

pub never_refused : NeverRefused
never_refused s w run n m R = let I = invariant run in taken I n n.reply (I.told n m) R

-- ---- no reply is answered 17: a SACK does not contradict itself, and nothing else is
abbrev Not17 : Outcome Answer Sender → Type 0
Not17 o = (reply_line (answered o)).number ≢ 17

either_not : (b : Bool) (o q : Outcome Answer Sender) → Not17 o → Not17 q → Not17 (cond b o q)
either_not true o q h k = h
either_not false o q h k = k

heard : {s : Start} {w : World} → Inv s w → (x : Sender) (n : Note) (q : Reply) → Told s (among w.accepted) (length w.sent) n q
    → Not17 (step x (hearing q))
unfolding Told step hearing sack sack_refusals acknowledged report nack nack_refusals nacked mark answered told number refusal paper Each
heard I x n (Acks b k) T =
    through_each Not17 (sack_refusals x k.cack k.block) _
    (λ _ e. omega arith, (λ _ e. omega arith, (λ _ e. omega arith, (λ c. absurd (false≢true (sym T.tells.consistent ∙ c)), (λ _ e. omega arith, tt)))))
    (λ e. omega arith)
heard I x n (Nacks k) T =
    through_each Not17 (nack_refusals x k.psn k.reason) _
    (λ _ e. omega arith, (λ _ e. omega arith, (λ _ e. omega arith, (λ _ e. omega arith, tt))))
    (either_not (leb k.reason 4) _ _
    (either_not (get_or (map markable x.entries) (index x k.psn.0) false) _ _ (λ e. omega arith) (λ e. omega arith)) (λ e. omega arith))

pub never_contradicts : NeverContradicts
unfolding told number
never_contradicts s w run m there a x given e =
    let I = invariant run in
    heard I w.sending m m.reply (I.told m there) (ap (λ (r : Answered). (reply_line r).number) e)
