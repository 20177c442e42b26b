-- The engines by value as demand 3's two sides: a start, and each event, may bring any reply and leave any record that the engine's
-- own promise allows.
use Rattle.rules.specs.Paper.{Reply}
use Rattle.rules.specs.Receiver as rule_receiver
use Rattle.rules.specs.Receiving as receiving
use Rattle.rules.specs.Sender as rule_sender
use Rattle.rules.specs.Sending as sending
use Rattle.sender.specs.declared.Sender.{Sender}
use Rattle.sender.specs.Record as sender
use Rattle.receiver.specs.declared.Receiver.{Receiver}
use Rattle.receiver.specs.Record as receiver
use Rattle.delivery.specs.Network.{Sides}
use Rattle.delivery.specs.Promise.{Keep}

abbrev pub engines : Sides
engines = record {
  sender = record {
    State = Sender;
    place = λ x. (sender.meaning x).place;
    Begins = λ o x. (r : Reply) × sender.Steps sender.empty (rule_sender.start o) r x;
    Steps = λ x e r y. sender.Steps x (sending.step (sender.meaning x) e) r y;
    Beside = λ x y. ⊥;
  };
  receiver = record {
    State = Receiver;
    place = λ r. (receiver.meaning r).expected;
    Begins = λ o y. (r : Reply) × receiver.Steps receiver.empty (rule_receiver.start o) r y;
    Steps = λ x e r y. receiver.Steps x (receiving.step (receiver.meaning x) e) r y;
    Beside = λ r q. ⊥;
  };
}

abbrev pub EnginesKeep : Type 0
EnginesKeep = Keep engines sender.meaning receiver.meaning
