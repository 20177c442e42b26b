-- The same for two connections by value, as `Connection::start` and `Connection::step` hand them out: the sending side of the one and the
-- receiving side of the other, while any event of the side beside it may happen on either.
use Rattle.std.specs.Prelude.{◌≡◌, Ok}
use Rattle.rules.specs.Connection as rule
use Rattle.rules.specs.Receiver as rule_receiver
use Rattle.rules.specs.Receiving.{Receiving}
use Rattle.rules.specs.Sender as rule_sender
use Rattle.rules.specs.declared.Opening.{Opening}
use Rattle.rules.specs.declared.Start.{Start}
use Rattle.rules.specs.declared.Sending.{Sending}
use Rattle.rules.specs.Paper.{Reply}
use Rattle.rules.specs.declared.Answer.TheVariants as answer
use Rattle.rules.specs.declared.Use.{Use}
use Rattle.rules.specs.declared.Use.TheVariants as use-of
use Rattle.connection.specs.declared.Connection.{Connection}
use Rattle.connection.specs.Record.{empty, meaning, Steps}
use Rattle.sender.specs.Record as sender
use Rattle.receiver.specs.Record as receiver
use Rattle.delivery.specs.Network.{Sides}
use Rattle.delivery.specs.Promise.{Keep}
use Rattle.bridge.specs.Tables.{sending_opens, receiving_opens}

-- what the two sides' records mean
abbrev pub sending_of : Connection → rule_sender.Sender
sending_of c = sender.meaning c.sender

abbrev pub receiving_of : Connection → rule_receiver.Receiver
receiving_of c = receiver.meaning c.receiver

-- a start that is done, with a side that opens so: the other side as it may be
pub record Begun (opens : Start → Opening) (o : Opening) (c : Connection) : Type 0 where
  pub start : Start
  pub opens_so : opens start ≡ o
  pub begun : Steps empty (rule.start start) (Ok answer.Started) c

-- what `step` promises of an event
abbrev pub On : Connection → Use → Reply → Connection → Type 0
On c e r d = Steps c (rule.step (meaning c) e) r d

abbrev pub connections : Sides
connections = record {
  sender = record {
    State = Connection;
    place = λ c. (sending_of c).place;
    Begins = λ o c. Begun sending_opens o c;
    Steps = λ c e r d. On c (use-of.Sends e) r d;
    Beside = λ c d. (e : Receiving) × (r : Reply) × On c (use-of.Receives e) r d;
  };
  receiver = record {
    State = Connection;
    place = λ c. (receiving_of c).expected;
    Begins = λ o c. Begun receiving_opens o c;
    Steps = λ c e r d. On c (use-of.Receives e) r d;
    Beside = λ c d. (e : Sending) × (r : Reply) × On c (use-of.Sends e) r d;
  };
}

abbrev pub ConnectionsKeep : Type 0
ConnectionsKeep = Keep connections sending_of receiving_of
