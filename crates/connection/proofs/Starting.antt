-- Two sides which are each started make a connection that is. Assumes nothing.
use mathlib.Core.Path.{◌≡◌, refl, sym, ap, ◌∙◌, subst}
use mathlib.Core.Bool.{true, false}
use mathlib.Core.Logic.{inr}
use lib.ListN.{length, length-replicate}
use borrow.Author.Tests.{not-false}
use Rattle.std.specs.Prelude.{Ok, Err}
use Rattle.promise.specs.Outcome.{Outcome, Refused, unless, left}
use Rattle.promise.specs.Promise.{told}
use Rattle.promise.proofs.Refusing.{Past, none_left}
use Rattle.promise.proofs.Meeting.{refuses, does}
use Rattle.rules.specs.Numbers.{psn_ok, room_ok}
use Rattle.rules.specs.Numbered.{number}
use Rattle.rules.specs.Paper.{Reply}
use Rattle.rules.specs.Receiver as rule_receiver
use Rattle.rules.specs.Sender as rule_sender
use Rattle.rules.specs.Connection.{fresh, start, start_refusals}
use Rattle.rules.specs.Connection as rule
use Rattle.rules.specs.declared.Answer.{Answer}
use Rattle.rules.specs.declared.Answer.TheVariants as answer
use Rattle.rules.specs.declared.Opening.{Opening}
use Rattle.rules.specs.declared.Refusal.{Refusal}
use Rattle.rules.specs.declared.Start.{Start}
use Rattle.sender.specs.declared.Sender.{Sender}
use Rattle.sender.specs.Record as sender
use Rattle.receiving.specs.Lent as lent
use Rattle.receiver.specs.declared.Receiver.{Receiver}
use Rattle.receiver.specs.Record as receiver
use Rattle.connection.specs.declared.Connection.{Connection}
use Rattle.connection.specs.Record.{meaning, empty, Sound, Steps}
use Rattle.connection.proofs.Sides.{sender_in_use, receiver_in_use}

-- ---- the rule refuses a start, and so does the code
pub not_begun : (o : Outcome Answer rule.Connection) (r : Reply) (why : Refusal) (c : Connection) → Sound c → o ≡ Refused (number why) → r ≡ Err why
    → Steps c o r c
unfolding told
not_begun o r why c sound rule said = subst (λ (q : Reply). Steps c o q c) (sym said) (refuses (number why) rule refl refl sound)

-- ---- a side that is started
module _ (o : Opening) (good : room_ok o.room ≡ true) (low : psn_ok o.first ≡ true) where
  module _ (r : Reply) (x : Sender) (m : sender.Steps sender.empty (rule_sender.start o) r x) where
    sends_fresh : sender.meaning x ≡ rule_sender.fresh o.room o.first.0
    unfolding rule_sender.start rule_sender.start_refusals unless left
    sends_fresh = m.record_is ∙ rw (good, low)

    sends : sender.Started x
    unfolding rule_sender.fresh
    sends =
        sender_in_use sender.empty x (rule_sender.start o) r
        (ap (λ (y : rule_sender.Sender). room_ok y.room) (sym m.record_is ∙ sends_fresh) ∙ good) m

  module _ (r : Reply) (x : Receiver) (m : receiver.Steps receiver.empty (rule_receiver.start o) r x) where
    receives_fresh : receiver.meaning x ≡ rule_receiver.fresh o.room o.first.0
    unfolding rule_receiver.start rule_receiver.start_refusals unless left
    receives_fresh = m.record_is ∙ rw (good, low)

    receives : lent.Started (receiver.lent_of x)
    unfolding rule_receiver.fresh
    receives =
        receiver_in_use receiver.empty x (rule_receiver.start o) r
        (ap (λ (y : rule_receiver.Receiver). room_ok (rule_receiver.room y)) (sym m.record_is ∙ receives_fresh)
        ∙ ap room_ok (length-replicate o.room false) ∙ good) m

-- ---- the two together, where no refusal passes
module _ (s : Start) (passed : Past (start_refusals s) (length (start_refusals s))) where
  pub starts : (r q : Reply) (x : Sender) (y : Receiver) → sender.Steps sender.empty (rule_sender.start s.sending) r x
      → receiver.Steps receiver.empty (rule_receiver.start s.receiving) q y
      → Steps empty (start s) (Ok answer.Started) (record { sender = x; receiver = y })
  unfolding meaning start start_refusals fresh Past
  starts r q x y m n =
      let send_good = not-false (room_ok s.sending.room) passed.0 in
      let receive_good = not-false (room_ok s.receiving.room) passed.1.0 in
      let send_low = not-false (psn_ok s.sending.first) passed.1.1.0 in
      let receive_low = not-false (psn_ok s.receiving.first) passed.1.1.1.0 in
      does (fresh s) answer.Started (none_left (start_refusals s) _ passed) refl
      (λ i. record {
        sender = sends_fresh s.sending send_good send_low r x m i;
        receiver = receives_fresh s.receiving receive_good receive_low q y n i;
      })
      (inr (record { sends = sends s.sending send_good send_low r x m; receives = receives s.receiving receive_good receive_low q y n }))
