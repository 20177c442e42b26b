-- The rules' own two sides: an event brings their answer and leaves their next record, and nothing else happens.
use Rattle.std.specs.Prelude.{◌≡◌}
use Rattle.promise.specs.Outcome.{Outcome, left}
use Rattle.rules.specs.Paper.{Reply as Answered, answered}
use Rattle.rules.specs.Receiver.{Receiver}
use Rattle.rules.specs.Receiver as receiver
use Rattle.rules.specs.Receiving as receiving
use Rattle.rules.specs.Sender.{Sender}
use Rattle.rules.specs.Sender as sender
use Rattle.rules.specs.Sending as sending
use Rattle.rules.specs.declared.Answer.{Answer}
use Rattle.delivery.specs.Network.{Start, Sides, Worlds}
use Rattle.delivery.specs.Network as network

-- an event on x, whose rule gives o
pub data Gives {S : Type 0} (x : S) (o : Outcome Answer S) : Answered → S → Type 0 where
  given : Gives x o (answered o) (left x o)

abbrev pub rules : Sides
rules = record {
  sender = record {
    State = Sender;
    place = λ x. x.place;
    Begins = λ o x. x ≡ sender.fresh o.room o.first.0;
    Steps = λ x e a y. Gives x (sending.step x e) a y;
    Beside = λ x y. ⊥;
  };
  receiver = record {
    State = Receiver;
    place = λ r. r.expected;
    Begins = λ o r. r ≡ receiver.fresh o.room o.first.0;
    Steps = λ r e a q. Gives r (receiving.step r e) a q;
    Beside = λ r q. ⊥;
  };
}

abbrev pub World : Type 0
World = Worlds rules

abbrev pub Run : World → World → Type 0
Run v w = network.Run rules v w

-- "a sender and a receiver freshly started at one packet number"
unfoldable pub begin : Start → World
begin s = network.begin (sender.fresh s.send_room s.first) (receiver.fresh s.receive_room s.first)
