-- 01, What the card keeps: one connection, its start, and all that befalls it in use.
use Rattle.std.specs.Prelude.{Bool, not, [], ◌∷◌}
use Rattle.promise.specs.Outcome.{Outcome, Done, Refusals, unless, within}
use Rattle.rules.specs.Numbers.{psn_ok, room_ok}
use Rattle.rules.specs.Receiver.{Receiver}
use Rattle.rules.specs.Receiver as receiver
use Rattle.rules.specs.Receiving as receiving
use Rattle.rules.specs.Sender.{Sender}
use Rattle.rules.specs.Sender as sender
use Rattle.rules.specs.Sending as sending
use Rattle.rules.specs.declared.Start.{Start}
use Rattle.rules.specs.declared.Use.{Use}
use Rattle.rules.specs.declared.Use.TheVariants.{Close, Sends, Receives}
use Rattle.rules.specs.declared.Answer.{Answer}
use Rattle.rules.specs.declared.Answer.TheVariants as answer

-- "A connection has a sending side (requestor) and a receiving side (responder), which share nothing"
pub record Connection : Type 0 where
  pub sender : Sender
  pub receiver : Receiver

-- "A record is empty (all zero)"
abbrev pub empty : Connection
empty = record { sender = sender.empty; receiver = receiver.empty }

-- "slot not in use": both sides are unused, or neither (`Whole` of Kept)
abbrev pub unused : Connection → Bool
unused c = sender.unused c.sender

abbrev pub with_sender : Connection → Sender → Connection
with_sender c x = record { sender = x; receiver = c.receiver }

abbrev pub with_receiver : Connection → Receiver → Connection
with_receiver c r = record { sender = c.sender; receiver = r }

-- "A connection's two rooms are fixed at its start", and so are its options
unfoldable pub fresh : Start → Connection
fresh s = record {
  sender = sender.fresh s.sending.room s.sending.first.0;
  receiver = receiver.fresh s.receiving.room s.receiving.first.0;
}

-- refusals 4, 5. A start has no connection to begin with, so no 2 or 3: "a single connection by value has no 1 or 3"
unfoldable pub start_refusals : Start → Refusals
start_refusals s =
    (not (room_ok s.sending.room), 4) ∷ (not (room_ok s.receiving.room), 4)
    ∷ (not (psn_ok s.sending.first), 5) ∷ (not (psn_ok s.receiving.first), 5) ∷ []

unfoldable pub start : Start → Outcome Answer Connection
start s = unless (start_refusals s) (Done (fresh s) answer.Started)

-- refusal 2
unfoldable pub close_refusals : Connection → Refusals
close_refusals c = (unused c, 2) ∷ []

-- "Close empties a slot"
unfoldable pub close : Connection → Outcome Answer Connection
close c = unless (close_refusals c) (Done empty answer.Closed)

-- a close, or an event of one side: it "gives 2 where its record is empty"
unfoldable pub step : Connection → Use → Outcome Answer Connection
step c Close = close c
step c (Sends e) = within (with_sender c) (sending.step c.sender e)
step c (Receives e) = within (with_receiver c) (receiving.step c.receiver e)
