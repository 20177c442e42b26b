-- The same inside tables: the sending side of slot i of one table and the receiving side of slot j of another, while anything else may
-- happen in either table that does not start, close or send from the one side, nor start, close or reach the other.
use Rattle.std.specs.Prelude.{◌≡◌, Ok, List, ◌≢◌, ◌⊎◌, ℕ, get_or}
use Rattle.rules.specs.Receiver as rule_receiver
use Rattle.rules.specs.Receiving as receiving
use Rattle.rules.specs.Sender as rule_sender
use Rattle.rules.specs.declared.Opening.{Opening}
use Rattle.rules.specs.declared.Start.{Start}
use Rattle.rules.specs.declared.Sending as sending
use Rattle.rules.specs.Paper.{Reply}
use Rattle.rules.specs.declared.Answer.TheVariants as answer
use Rattle.rules.specs.declared.Event.{Event}
use Rattle.rules.specs.declared.Event.TheVariants as event
use Rattle.rules.specs.declared.Use.TheVariants as use-of
use Rattle.connection.specs.declared.Connection.{Connection}
use Rattle.connection.specs.Record.{empty}
use Rattle.sender.specs.Record as sender
use Rattle.receiver.specs.Record as receiver
use Rattle.table.specs.Slots.{AllSound, On}
use Rattle.delivery.specs.Network.{Sides}
use Rattle.delivery.specs.Promise.{Keep}

-- what the two sides' records in a slot mean
abbrev pub sending_in : ℕ → List Connection → rule_sender.Sender
sending_in slot t = sender.meaning (get_or t slot empty).sender

abbrev pub receiving_in : ℕ → List Connection → rule_receiver.Receiver
receiving_in slot t = receiver.meaning (get_or t slot empty).receiver

-- a start of the slot that is done, in any table, with a side that opens so: the other side as it may be
pub record Started (slot : ℕ) (opens : Start → Opening) (o : Opening) (t : List Connection) : Type 0 where
  pub before : List Connection
  pub start : Start
  pub before_sound : AllSound before
  pub opens_so : opens start ≡ o
  pub started : On before slot (event.Start start) (Ok answer.Started) t

abbrev pub sending_opens : Start → Opening
sending_opens s = s.sending

abbrev pub receiving_opens : Start → Opening
receiving_opens s = s.receiving

-- events of the one side or of the other
pub data Sending : Event → Type 0 where
  sends : (e : sending.Sending) → Sending (event.Use (use-of.Sends e))

pub data Receiving : Event → Type 0 where
  receives : (e : receiving.Receiving) → Receiving (event.Use (use-of.Receives e))

-- anything else in the table: in another slot, or on the other side of this one
pub record Else (slot : ℕ) (Other : Event → Type 0) (t u : List Connection) : Type 0 where
  pub where_it_is : ℕ
  pub what : Event
  pub said : Reply
  pub elsewhere : (where_it_is ≢ slot) ⊎ Other what
  pub on : On t where_it_is what said u

abbrev pub tables : ℕ → ℕ → Sides
tables i j = record {
  sender = record {
    State = List Connection;
    place = λ t. (sending_in i t).place;
    Begins = λ o t. Started i sending_opens o t;
    Steps = λ t e r u. On t i (event.Use (use-of.Sends e)) r u;
    Beside = λ t u. Else i Receiving t u;
  };
  receiver = record {
    State = List Connection;
    place = λ t. (receiving_in j t).expected;
    Begins = λ o t. Started j receiving_opens o t;
    Steps = λ t e r u. On t j (event.Use (use-of.Receives e)) r u;
    Beside = λ t u. Else j Sending t u;
  };
}

abbrev pub TablesKeep : Type 0
TablesKeep = (i j : ℕ) → Keep (tables i j) (sending_in i) (receiving_in j)
