-- The sides of connections by value follow the rules: an event of a side goes by its rule, and one of the other side leaves it. Assumes
-- nothing.
use mathlib.Core.Path.{◌≡◌, refl, sym, ap, ◌∙◌}
use Prim.Native.Nat.{ℕ}
use native.Mathlib.Omega.{arith}
use Rattle.std.specs.Prelude.{Ok}
use Rattle.promise.specs.Outcome.{Outcome, Done, left}
use Rattle.promise.proofs.Refusing.{through}
use Rattle.rules.specs.Paper.{Reply, answered}
use Rattle.rules.specs.Connection.{fresh, start, start_refusals}
use Rattle.rules.specs.Connection as rule
use Rattle.rules.specs.Receiver as rule_receiver
use Rattle.rules.specs.Sender as rule_sender
use Rattle.rules.specs.declared.Answer.{Answer}
use Rattle.rules.specs.declared.Answer.TheVariants as answer
use Rattle.rules.specs.declared.Opening.{Opening}
use Rattle.rules.specs.declared.Start.{Start}
use Rattle.rules.proofs.Settled.{answer_is_rule}
use Rattle.connection.specs.declared.Connection.{Connection}
use Rattle.connection.specs.Record.{empty, meaning}
use Rattle.delivery.specs.Rules.{Gives, rules}
use Rattle.delivery.proofs.Following.{Follows, keeps}
use Rattle.bridge.specs.Tables.{sending_opens, receiving_opens}
use Rattle.bridge.specs.Connections.{sending_of, receiving_of, Begun, On, connections, ConnectionsKeep}
use Rattle.bridge.proofs.Engines.{gives}
use Rattle.bridge.proofs.Halves.{Half, sending_half, receiving_half, step_answer, step_next, step_same}

-- a start that is done leaves the two fresh sides
start_leaves : (s : Start) (c : rule.Connection) → answered (start s) ≡ Ok answer.Started → left c (start s) ≡ fresh s
unfolding start left answered
start_leaves s c =
    through (λ (o : Outcome Answer rule.Connection). answered o ≡ Ok answer.Started → left c o ≡ fresh s) (start_refusals s) (Done (fresh s) answer.Started)
    (λ n h. let z : ◌≡◌ {A = ℕ} 0 1 = cc in absurd (omega arith)) (λ _ h. refl)

-- what any half of a connection is in the rules'; `in_it` is what the half's own record means
module _ {P Q E : Type 0} (H : Half P Q E) (in_it : Connection → P) (at_it : (c : Connection) → H.mine (meaning c) ≡ in_it c) where
  steps : (c : Connection) (e : E) (a : Reply) (d : Connection) → On c (H.event_of e) a d → Gives (in_it c) (H.law (in_it c) e) a (in_it d)
  steps c e a d m =
      gives (in_it c) (H.law (in_it c) e) a (in_it d)
      (answer_is_rule m ∙ step_answer H (meaning c) e ∙ ap (λ x. answered (H.law x e)) (at_it c))
      (sym (at_it d) ∙ ap H.mine m.record_is ∙ step_next H (meaning c) e ∙ ap (λ x. left x (H.law x e)) (at_it c))

  -- a start with this half
  begins : (half_fresh : Opening → P) (opens : Start → Opening) → ((s : Start) → H.mine (fresh s) ≡ half_fresh (opens s))
      → (o : Opening) (c : Connection) → Begun opens o c → in_it c ≡ half_fresh o
  begins half_fresh opens is o c b =
      let m = b.begun in
      sym (at_it c) ∙ ap H.mine (m.record_is ∙ start_leaves b.start (meaning empty) (sym (answer_is_rule m))) ∙ is b.start
      ∙ ap half_fresh b.opens_so

-- an event of a half leaves the other
beside : {P Q E : Type 0} (H : Half P Q E) (in_it : Connection → Q) → ((c : Connection) → H.other (meaning c) ≡ in_it c)
    → (c d : Connection) → (e : E) × (a : Reply) × On c (H.event_of e) a d → in_it d ≡ in_it c
beside H in_it at_it c d b = sym (at_it d) ∙ ap H.other b.2.record_is ∙ step_same H (meaning c) b.0 ∙ at_it c

-- ---- the two halves
abbrev fresh_sender : Opening → rule_sender.Sender
fresh_sender o = rule_sender.fresh o.room o.first.0

abbrev fresh_receiver : Opening → rule_receiver.Receiver
fresh_receiver o = rule_receiver.fresh o.room o.first.0

unfoldable sender_follows : Follows connections.sender rules.sender
unfolding fresh sending_half receiving_half meaning
sender_follows = record {
  meaning = sending_of;
  Kept = λ c. Unit {0};
  places = λ c. refl;
  begins = λ o c good low b. (begins sending_half sending_of (λ c. refl) fresh_sender sending_opens (λ s. refl) o c b, tt);
  steps = λ c e a d k m. (steps sending_half sending_of (λ c. refl) c e a d m, tt);
  beside = λ c d k b. (beside receiving_half sending_of (λ c. refl) c d b, tt);
}

unfoldable receiver_follows : Follows connections.receiver rules.receiver
unfolding fresh sending_half receiving_half meaning
receiver_follows = record {
  meaning = receiving_of;
  Kept = λ c. Unit {0};
  places = λ c. refl;
  begins = λ o c good low b. (begins receiving_half receiving_of (λ c. refl) fresh_receiver receiving_opens (λ s. refl) o c b, tt);
  steps = λ c e a d k m. (steps receiving_half receiving_of (λ c. refl) c e a d m, tt);
  beside = λ c d k b. (beside sending_half receiving_of (λ c. refl) c d b, tt);
}

pub connections_keep : ConnectionsKeep
unfolding sender_follows receiver_follows
connections_keep = keeps (record { sender = sender_follows; receiver = receiver_follows })
